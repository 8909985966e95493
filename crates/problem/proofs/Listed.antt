-- The choices below a list, one by one; and what the test of a choice says.
use mathlib.Core.Path.{◌≡◌, sym, ap}
use mathlib.Core.Bool.{Bool, true, false}
use mathlib.Core.List.Memᴰ
use mathlib.Core.List.{List, [], ◌++◌, Memᴰ}
use Prim.Native.Nat.{ℕ, ◌≤◌, ◌<◌}
use borrow.Author.Tests.{leb-true, le-leb, lt-leb}
use lib.Dec.{leb}
use lib.ListN.{length}
use Rattle.logic.specs.Rules.{both}
use Rattle.logic.specs.Lists.{Among}
use Rattle.logic.proofs.Chain.{both_left, both_right, both_true, both_second}
use Rattle.circuit.specs.Measure.{cost}
use Rattle.problem.specs.order.Choices.{Choice, under}
use Rattle.problem.proofs.order.Enumeration.{under_is, under_has}
use Rattle.problem.specs.Problems.{Problem, choice_of, here, within}

-- a choice of a list that begins with l and goes on by at most k gates
pub record Listed (P : Problem) (l : List ℕ) (k : ℕ) (a : Choice) : Type 0 where
  pub more : List ℕ
  pub layout : ℕ
  pub among : Among P.gates more
  pub short : length more ≤ k
  pub laid : Memᴰ layout P.layouts
  pub same : choice_of P (l ++ more) layout ≡ a

module _ (P : Problem) where
  pub listed : (l : List ℕ) (k : ℕ) (a : Choice) → Memᴰ a (under (here P) P.gates l k) → Listed P l k a
  unfolding here
  listed l k a m =
      let u = under_is (here P) P.gates l k a m in
      let q = Memᴰ.of_map (choice_of P (l ++ u.0)) P.layouts u.1.1.1 in
      record { more = u.0; layout = q.0; among = u.1.0; short = u.1.1.0; laid = q.1; same = q.2 }

  pub unlisted : (l : List ℕ) (k : ℕ) (e : List ℕ) (p : ℕ) → Among P.gates e → length e ≤ k → Memᴰ p P.layouts
      → Memᴰ (choice_of P (l ++ e) p) (under (here P) P.gates l k)
  unfolding here
  unlisted l k e p among short laid =
      under_has (here P) P.gates l k (choice_of P (l ++ e) p) e among short (Memᴰ.map (choice_of P (l ++ e)) laid)

  module _ (k : ℕ) (a : Choice) (i : Listed P [] k a) where
    pub gates_are : a.gates ≡ length i.more
    unfolding choice_of
    gates_are = ap (λ (c : Choice). c.gates) (sym i.same)

    pub cost_is : a.cost ≡ cost P.price i.more
    unfolding choice_of
    cost_is = ap (λ (c : Choice). c.cost) (sym i.same)

-- the test of a choice, part by part
module _ (P : Problem) (limit : ℕ) (c : Choice) where
  abbrev met : Bool
  met = P.realized c.layout c.bytes

  abbrev cheap : Bool
  cheap = leb c.cost limit

  abbrev early : Bool
  early = leb c.depth P.most_depth

  pub within_parts : within P limit c ≡ true → (met ≡ true) × ((c.cost ≤ limit) × (c.depth ≤ P.most_depth))
  unfolding within
  within_parts h =
      let t = both_right met (both cheap early) h in
      (both_left met (both cheap early) h, (leb-true c.cost limit (both_left cheap early t), leb-true c.depth P.most_depth (both_right cheap early t)))

  pub within_joined : met ≡ true → c.cost ≤ limit → c.depth ≤ P.most_depth → within P limit c ≡ true
  unfolding within
  within_joined h k d = both_true h (both_true (le-leb c.cost limit k) (le-leb c.depth P.most_depth d))

  pub dear : limit < c.cost → within P limit c ≡ false
  unfolding within
  dear h = both_second met (both cheap early) (rw (lt-leb c.cost limit h))

  pub deep : P.most_depth < c.depth → within P limit c ≡ false
  unfolding within
  deep h = both_second met (both cheap early) (both_second cheap early (lt-leb c.depth P.most_depth h))

  pub unrealized : met ≡ false → within P limit c ≡ false
  unfolding within
  unrealized h = rw h
