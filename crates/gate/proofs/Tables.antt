-- The gates of a table are exactly the lawful bytes, and the longest table has 75 gates.
use mathlib.Core.Path.{◌≡◌, refl, sym, ap₂, ◌∙◌}
use mathlib.Core.Bool.{Bool, true}
use mathlib.Core.List.{List, Memᴰ}
use Prim.Native.Nat.{ℕ, zero, suc, ◌≤◌}
use native.Mathlib.Omega.{arith}
use borrow.Author.Tests.{leb-true}
use lib.Dec.{leb}
use lib.Count.{ones, ones_in}
use lib.ListN.{length}
use Rattle.logic.specs.Rules.{all_below}
use Rattle.logic.specs.Lists.{all_of, numbers_from, Among}
use Rattle.logic.proofs.Below.{below}
use Rattle.logic.proofs.Members.{all_member, all_members, among_all, keep_is, keep_has, numbers_has}
use Rattle.gate.specs.Gates.{lawful, gates_for}
use Rattle.gate.proofs.Widen.{widen, lawful_lt}

module _ (k w : ℕ) where
  pub gate_is : (b : ℕ) → Memᴰ b (gates_for k w) → lawful k w b ≡ true
  unfolding gates_for
  gate_is b m = (keep_is (lawful k w) (numbers_from 0 256) b m).0

  pub gate_has : w ≤ 5 → (b : ℕ) → lawful k w b ≡ true → Memᴰ b (gates_for k w)
  unfolding gates_for
  gate_has hw b h = keep_has (lawful k w) (numbers_from 0 256) b h (numbers_has 256 0 b (omega arith) (omega (arith, lawful_lt k w b hw h)))

  -- a list of gates of the table is a list of lawful ones
  pub among_lawful : (e : List ℕ) → Among (gates_for k w) e → all_of (lawful k w) e ≡ true
  among_lawful e a = among_all (lawful k w) (gates_for k w) e gate_is a

  pub lawful_among : w ≤ 5 → (e : List ℕ) → all_of (lawful k w) e ≡ true → Among (gates_for k w) e
  lawful_among hw e h g m = gate_has hw g (all_member (lawful k w) g e h m)

  pub all_widen : (k' w' : ℕ) → k ≤ k' → w ≤ w' → (gs : List ℕ) → all_of (lawful k w) gs ≡ true → all_of (lawful k' w') gs ≡ true
  all_widen k' w' hk hw gs h = all_members (lawful k' w') gs (λ b m. widen k w k' w' b hk hw (all_member (lawful k w) b gs h m))

abbrev fits : ℕ → ℕ → Bool
fits k w = leb (length (gates_for k w)) 75

abbrev all_fit : ℕ → Bool
all_fit k = all_below 6 (fits k)

all_fit_law : all_below 4 all_fit ≡ true
unfolding gates_for lawful ones ones_in
all_fit_law = refl

pub gates_most : (k w : ℕ) → k ≤ 3 → w ≤ 5 → length (gates_for k w) ≤ 75
gates_most k w hk hw = leb-true (length (gates_for k w)) 75 (below 6 (fits k) (below 4 all_fit all_fit_law k (omega arith)) w (omega arith))

-- a table whose k and w are known
pub table_is : {l : List ℕ} (k w : ℕ) {k' w' : ℕ} → k ≡ k' → w ≡ w' → l ≡ gates_for k' w' → l ≡ gates_for k w
table_is k w hk hw e = e ∙ ap₂ gates_for (sym hk) (sym hw)

-- what holds for 2 and 3 holds for every number from 2 to 3
two_three : (P : ℕ → Type 0) (k : ℕ) → 2 ≤ k → k ≤ 3 → P 2 → P 3 → P k
two_three P zero l h p q = absurd (omega arith)
two_three P (suc zero) l h p q = absurd (omega arith)
two_three P (suc (suc zero)) l h p q = p
two_three P (suc (suc (suc zero))) l h p q = q
two_three P (suc (suc (suc (suc k)))) l h p q = absurd (omega arith)

-- on three wires a gate has at most two controls
two_on_three : gates_for 3 3 ≡ gates_for 2 3
unfolding gates_for lawful ones ones_in
two_on_three = refl

pub on_three : (k : ℕ) → 2 ≤ k → k ≤ 3 → gates_for k 3 ≡ gates_for 2 3
on_three k l h = two_three (λ (j : ℕ). gates_for j 3 ≡ gates_for 2 3) k l h refl two_on_three
