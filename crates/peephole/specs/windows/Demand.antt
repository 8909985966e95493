-- What change request 12 asks of one replacement, in its words.
use Rattle.std.specs.Prelude.{◌≡◌, true, List, ℕ, ◌+◌, ◌^◌, ◌≤◌, ◌<◌, length}
use Rattle.logic.specs.Lists.{all_of}
use Rattle.logic.specs.Answers.{answered}
use Rattle.gate.specs.Gates.{lawful}
use Rattle.circuit.specs.run.Run.{forwards}
use Rattle.record.specs.circuit_fields.Circuits.{gates}
use Rattle.outcomes.specs.Outcomes.{Found, search_of}
use Rattle.peephole.specs.declared.windows.Prices.{Prices}
use Rattle.peephole.specs.windows.Windows.{cost_at, window_job, window_at, spliced}

-- "a list of no more gates, at lower cost, changes every value alike": e is such a list for the window w
pub record Improves (n : ℕ) (p : Prices) (w e : List ℕ) : Type 0 where
  pub lawful_gates : all_of (lawful 2 n) e ≡ true
  pub no_more : length e ≤ length w
  pub cheaper : cost_at p e < cost_at p w
  pub alike : (v : ℕ) → v < 2 ^ n → forwards e v ≡ forwards w v

-- "Find the leftmost window for which" there is such a list. "Replace it by the search's answer .., close the gap": l becomes m
pub record Leftmost (n k : ℕ) (p : Prices) (l m : List ℕ) : Type 0 where
  pub place : ℕ
  pub found : Found
  pub fits : place + k ≤ length l
  pub answer : search_of (window_job n p (window_at k place l)) 15 ≡ answered found
  pub improves : Improves n p (window_at k place l) (gates found.bytes)
  pub none_before : (j : ℕ) → j < place → (e : List ℕ) → Improves n p (window_at k j l) e → ⊥
  pub made : m ≡ spliced k place (gates found.bytes) l
