-- What `gazbolk compare` prints, by what each of its two searches found. Only private contracts name this.
use Rattle.std.specs.Prelude.{List, ℕ}
use Rattle.logic.specs.Answers.{Answer, refused, answered}
use Rattle.circuit.specs.declared.measures.Measures.{Measures}
use Rattle.outcomes.specs.Outcomes.{Found}
use Rattle.reports.specs.refusal.Report.{refused_text}
use Rattle.printed.specs.differences.Differences.{both_lines}

-- after the old job's circuit was found: by what the search for the new job's gave
abbrev pub after_old : Measures → List ℕ → Answer Found → List ℕ
after_old m circuit (refused code) = refused_text code
after_old m circuit (answered g) = both_lines m circuit g.measures g.bytes

-- by what both searches gave
abbrev pub both_text : Answer Found → Answer Found → List ℕ
both_text (refused code) new = refused_text code
both_text (answered f) new = after_old f.measures f.bytes new
