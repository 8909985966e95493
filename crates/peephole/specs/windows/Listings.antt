-- What `rewrite` answers, and what it leaves in the buffer.
use Rattle.std.specs.Prelude.{Bool, List, ◌++◌, ℕ, ◌-◌, ◌≤◌, leb, eqb, length, replicate}
use Rattle.logic.specs.Rules.{both, either, pick, rule}
use Rattle.logic.specs.Lists.{all_of}
use Rattle.logic.specs.Answers.{Answer, answer_of}
use Rattle.gate.specs.Gates.{lawful}
use Rattle.peephole.specs.declared.windows.Prices.{Prices}
use Rattle.peephole.specs.windows.Windows.{rewritten}

-- "3 or 4 data wires", "a window of 2 to 4"
unfoldable pub sizes_ok : ℕ → ℕ → Bool
sizes_ok n k = both (either (eqb n 3) (eqb n 4)) (both (leb 2 k) (leb k 4))

-- "32, wires or window outside these; 33, over 4,096 gates; 34, a gate unlawful or with three controls; in that order"
unfoldable pub rewrite_code : ℕ → ℕ → List ℕ → ℕ
rewrite_code n k l = rule (sizes_ok n k) 32 (rule (leb (length l) 4096) 33 (rule (all_of (lawful 2 n) l) 34 0))

-- "the new gate count is returned"
unfoldable pub rewrite_of : ℕ → ℕ → Prices → List ℕ → Answer ℕ
rewrite_of n k p l = answer_of (rewrite_code n k l) (length (rewritten n k p l))

-- "Bytes freed at the end become 0"
abbrev pub cleared : List ℕ → ℕ → List ℕ
cleared l room = l ++ replicate (room - length l) 0

-- the buffer at exit; a refused list is as it was
unfoldable pub list_left : ℕ → ℕ → Prices → List ℕ → List ℕ
list_left n k p l = pick (eqb (rewrite_code n k l) 0) (cleared (rewritten n k p l) (length l)) l

-- each price is a byte
abbrev pub ByteEach : Prices → Type 0
ByteEach p = (p.not ≤ 255) × ((p.cnot ≤ 255) × (p.toffoli ≤ 255))
