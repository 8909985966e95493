-- The words of the theorems on prices: the gates of one kind, and two problems that differ in the price of that kind.
use Rattle.std.specs.Prelude.{◌≡◌, Bool, List, ℕ, ◌+◌, ◌*◌, eqb}
use Rattle.logic.specs.Rules.{bit}
use Rattle.logic.specs.Lists.{total}
use Rattle.gate.specs.declared.Kind.{Kind}
use Rattle.gate.specs.declared.Kind.TheVariants.{Not, Cnot, Toffoli, Cccnot}
use Rattle.gate.specs.Gates.{gate_of}
use Rattle.problem.specs.Problems.{Problem}

-- the kinds numbered in the order of their prices
abbrev pub kind_number : Kind → ℕ
kind_number Not = 0
kind_number (Cnot a) = 1
kind_number (Toffoli a b) = 2
kind_number (Cccnot a b c) = 3

-- whether a gate byte is of the k-th kind
unfoldable pub of_kind : ℕ → ℕ → Bool
of_kind k b = eqb (kind_number (gate_of b).kind) k

-- how many gates of a list are of a kind
abbrev pub kind_count : (ℕ → Bool) → List ℕ → ℕ
kind_count kind l = total (λ b. bit (kind b)) l

-- two problems that may differ in prices and in the limit on cost, and in nothing else
pub record AlikeButPrices (P Q : Problem) : Type 0 where
  pub same_gates : P.gates ≡ Q.gates
  pub same_layouts : P.layouts ≡ Q.layouts
  pub same_duration : P.duration ≡ Q.duration
  pub same_realized : P.realized ≡ Q.realized
  pub same_most_gates : P.most_gates ≡ Q.most_gates
  pub same_most_depth : P.most_depth ≡ Q.most_depth

-- in Q each gate of a kind costs d more than in P, and every other gate as much
abbrev pub Raised : Problem → Problem → (ℕ → Bool) → ℕ → Type 0
Raised P Q kind d = (g : ℕ) → Q.price g ≡ P.price g + d * bit (kind g)
