-- The first good candidate is the search's answer: the order of trying does not matter, since the order of answers is total.
use mathlib.Core.Path.{◌≡◌, refl, sym, ◌∙◌}
use mathlib.Core.Bool.{Bool}
use mathlib.Core.Logic.{⊎_elim}
use mathlib.Core.List.Memᴰ
use mathlib.Core.List.{List, [], Memᴰ}
use mathlib.Core.Option.{Option, none, some}
use Prim.Native.Nat.{ℕ, zero, suc, ◌+◌, ◌<◌}
use native.Mathlib.Omega.{arith}
use lib.ListN.{length}
use Rattle.logic.specs.Lists.{numbers_from}
use Rattle.logic.proofs.Members.{numbers_has}
use Rattle.problem.specs.order.Choices.{Choice, improve, lists}
use Rattle.problem.proofs.order.First.{found, nothing}
use Rattle.problem.proofs.order.Deepening.{first_is}
use Rattle.problem.proofs.order.Enumeration.{flat_map_has, flat_map_is, lists_is, lists_has}
use Rattle.problem.specs.Problems.{Problem, choice_of, here, choices, good, first_good}
use Rattle.problem.proofs.Listed.{listed, unlisted}
use Rattle.scheduler.specs.candidates.Candidates.{of_length, candidates}

-- two lists with the same elements have the same first good choice
pub same_first : (good : Choice → Bool) (l m : List Choice)
    → ((a : Choice) → Memᴰ a l → Memᴰ a m) → ((a : Choice) → Memᴰ a m → Memᴰ a l)
    → improve good none l ≡ improve good none m
same_first good l m to from = by_first (improve good none m) refl
  where
    by_first : (o : Option Choice) → improve good none m ≡ o → improve good none l ≡ improve good none m
    by_first none e = (nothing good l).1 (λ a i. (nothing good m).0 e a (to a i)) ∙ sym e
    by_first (some c) e =
        let f = found good m c e in
        first_is good l c (from c f.0) f.1.0 (λ a i h. f.1.1 a (to a i) h) ∙ sym e

-- the n numbers from i on are below i + n
numbers_below : (n i b : ℕ) → Memᴰ b (numbers_from i n) → b < i + n
numbers_below zero i b m = absurd (Memᴰ.not-nil m)
numbers_below (suc n) i b m = ⊎_elim (λ (e : b ≡ i). omega arith) (λ (k : Memᴰ b (numbers_from (suc i) n)). omega (arith, numbers_below n (suc i) b k)) (Memᴰ.cases_cons m)

-- the candidates are the choices that the search is over
module _ (P : Problem) where
  pub candidate_listed : (a : Choice) → Memᴰ a (candidates P) → Memᴰ a (choices P)
  unfolding candidates of_length here
  candidate_listed a m =
      let k = flat_map_is (of_length P) a (numbers_from 0 (suc P.most_gates)) m in
      let l = flat_map_is (here P) a (lists P.gates k.0) k.1.1 in
      let p = Memᴰ.of_map (choice_of P l.0) P.layouts l.1.1 in
      let i = lists_is P.gates k.0 l.0 l.1.0 in
      let few = numbers_below (suc P.most_gates) 0 k.0 k.1.0 in
      Memᴰ.cast (sym p.2) (unlisted P [] P.most_gates l.0 p.0 i.0 (omega (arith, i.1)) p.1)

  pub listed_candidate : (a : Choice) → Memᴰ a (choices P) → Memᴰ a (candidates P)
  unfolding candidates of_length here
  listed_candidate a m =
      let i = listed P [] P.most_gates a m in
      let l = i.more in
      Memᴰ.cast (sym i.same)
      (flat_map_has (of_length P) (numbers_has (suc P.most_gates) 0 (length l) (omega arith) (omega (arith, i.short)))
      (flat_map_has (here P) (lists_has P.gates l i.among) (Memᴰ.map (choice_of P l) i.laid)))

  -- so the best of them is the search's answer
  pub as_alone : improve (good P) none (candidates P) ≡ first_good P
  unfolding first_good
  as_alone = same_first (good P) (candidates P) (choices P) candidate_listed listed_candidate
