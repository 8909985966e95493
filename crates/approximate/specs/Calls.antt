-- What `closest` answers (document 02, change request 10).
use Rattle.std.specs.Prelude.{List, ℕ, eqb}
use Rattle.std.proofs.Math.Option.{Option, none, some}
use Rattle.logic.specs.Rules.{pick}
use Rattle.logic.specs.Answers.{Answer, refused, answered}
use Rattle.record.specs.job_fields.Jobs.{data_wires, rows}
use Rattle.problem.specs.order.Choices.{Choice}
use Rattle.near_misses.specs.misses.Misses.{missed_in, fewest_misses, closest_choice}
use Rattle.outcomes.specs.declared.Reported.{Reported}
use Rattle.outcomes.specs.Outcomes.{own_set, problem_of, Found, found_of, reported}
use Rattle.record.specs.pair_codes.Codes.{search_code}
use Rattle.approximate.specs.declared.Nearest.{Nearest}

-- "the fewest wanted bits" that a circuit within the job's limits misses
abbrev pub fewest_for : List ℕ → ℕ
fewest_for job = fewest_misses (data_wires job) (rows job) (problem_of job)

-- the first choice that misses so few
abbrev pub closest_for : List ℕ → Option Choice
closest_for job = closest_choice (data_wires job) (rows job) (problem_of job)

-- what the search finds, "plus the misses"
pub record Close : Type 0 where
  pub circuit : Found
  pub misses : ℕ

-- "There is always one", so 14 is never answered: a theorem of proofs/Promises.antt
abbrev pub close_of : List ℕ → Option Choice → Answer Close
close_of job none = refused 14
close_of job (some c) = answered (record { circuit = found_of (own_set job) job c; misses = missed_in (rows job) c })

-- "only the job's checks and then 13 refuse"
unfoldable pub closest_of : List ℕ → ℕ → Answer Close
closest_of job room = pick (eqb (search_code job room) 0) (close_of job (closest_for job)) (refused (search_code job room))

-- "Answer as the search does": the circuit, written as there
abbrev pub circuit_in : Answer Close → Answer Found
circuit_in (refused code) = refused code
circuit_in (answered c) = answered c.circuit

-- what is returned is what the search returns, "plus the misses"
abbrev pub with_misses : ℕ → Answer Reported → Answer Nearest
with_misses k (refused code) = refused code
with_misses k (answered r) = answered (record { report = r; misses = k })

-- the part of an answer that is returned
abbrev pub told : Answer Close → Answer Nearest
told (refused code) = refused code
told (answered c) = with_misses c.misses (reported (answered c.circuit))
