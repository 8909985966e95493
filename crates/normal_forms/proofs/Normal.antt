-- Every good choice below a skipped gate is beaten by one that comes first; so with no incumbent at first, the search loses nothing.
use mathlib.Core.Path.{◌≡◌, refl, sym, ◌∙◌, subst}
use mathlib.Core.Bool.{true}
use mathlib.Core.Logic.{⊎_elim}
use mathlib.Core.List.Memᴰ
use mathlib.Core.List.{List, [], ◌∷◌, ◌++◌, append_assoc, Memᴰ}
use mathlib.Core.Option.{none}
use Prim.Native.Nat.{ℕ}
use native.Mathlib.Nat.{le_trans}
use borrow.Author.Tests.{eqb-true}
use lib.ListN.{length}
use Rattle.logic.specs.Rules.{either}
use Rattle.logic.specs.Lists.{all_of, Among}
use Rattle.logic.proofs.Chain.{either_cases}
use Rattle.logic.proofs.Members.{all_members}
use Rattle.gate.specs.Gates.{lawful, gate_of}
use Rattle.gate.specs.Inner.{firing}
use Rattle.circuit.specs.run.Inner.{columns_after}
use Rattle.problem.specs.Problems.{Problem, choice_of, here, within}
use Rattle.problem.specs.Inner.{looked_under}
use Rattle.problem.proofs.Listed.{unlisted, within_parts, within_joined}
use Rattle.problem.specs.pruned.Pruned.{Beaten, tried_under}
use Rattle.problem.proofs.pruned.Walk.{whole}
use Rattle.normal_forms.specs.Forms.{asleep, cancels, idles, skipped}
use Rattle.normal_forms.proofs.Beats.{Beats, firing_nowhere, undone, advanced}
use Rattle.normal_forms.proofs.Splits.{Early, Again, early, again}

module _ (P : Problem) (limit k : ℕ) (cs : List ℕ) (five : length cs ≡ 5)
    (kinds : (g : ℕ) → Memᴰ g P.gates → lawful 3 5 g ≡ true)
    (by-ends : (p : ℕ) (l m : List ℕ) → Among P.gates l → Among P.gates m → columns_after l cs ≡ columns_after m cs → P.realized p l ≡ P.realized p m) where
  module _ (l e : List ℕ) (g : ℕ) (w : Among P.gates (l ++ (g ∷ e))) where
    next_lawful : lawful 3 5 g ≡ true
    next_lawful = kinds g (w g (Memᴰ.append_right l (Memᴰ.head refl)))

    part_lawful : (front c : List ℕ) → l ≡ front ++ c → all_of (lawful 3 5) c ≡ true
    part_lawful front c s =
        all_members (lawful 3 5) c (λ a m. kinds a (w a (Memᴰ.append_left (g ∷ e) (subst (λ (x : List ℕ). Memᴰ a x) (sym s) (Memᴰ.append_right front m)))))

    undoing : Again g l → (m : List ℕ) × Beats P cs m (l ++ (g ∷ e))
    undoing r =
        let f = r.front in
        let c = r.since in
        let hc = part_lawful (f ++ (g ∷ [])) c (r.split ∙ sym (append_assoc f (g ∷ []) c)) in (
          f ++ (c ++ e),
          subst (λ (x : List ℕ). Beats P cs (f ++ (c ++ e)) (x ++ (g ∷ e))) (sym r.split)
              (subst (λ (x : List ℕ). Beats P cs (f ++ (c ++ e)) x) (sym (append_assoc f (g ∷ c) (g ∷ e))) (undone P cs five g next_lawful f c e hc r.past)),
        )

    moving : Early g l → (m : List ℕ) × Beats P cs m (l ++ (g ∷ e))
    moving r =
        let f = r.front in
        let a = r.later in
        let c = r.since in
        let m = f ++ (g ∷ ((a ∷ c) ++ e)) in (
          m,
          subst (λ (x : List ℕ). Beats P cs m (x ++ (g ∷ e))) (sym r.split)
              (subst (λ (x : List ℕ). Beats P cs m x) (sym (append_assoc f (a ∷ c) (g ∷ e)))
              (advanced P cs five g next_lawful a f c e (part_lawful f (a ∷ c) r.split) r.less r.past)),
        )

    better : skipped cs l g ≡ true → (m : List ℕ) × Beats P cs m (l ++ (g ∷ e))
    unfolding skipped
    better h =
        ⊎_elim
        (λ (t : idles g (columns_after l cs) ≡ true). (l ++ e, firing_nowhere P cs l e g (eqb-true (firing (gate_of g).kind (columns_after l cs)) 0 t)))
        (λ (t : either (asleep g l) (cancels g l) ≡ true).
        ⊎_elim (λ (s : asleep g l ≡ true). moving (early g l s)) (λ (s : cancels g l ≡ true). undoing (again g l s)) (either_cases (asleep g l) (cancels g l) t))
        (either_cases (idles g (columns_after l cs)) (either (asleep g l) (cancels g l)) h)

  -- a list that beats another is good where that one is
  good_too : (m l : List ℕ) (p : ℕ) → Beats P cs m l → Among P.gates l → within P limit (choice_of P l p) ≡ true → within P limit (choice_of P m p) ≡ true
  unfolding choice_of
  good_too m l p b w h =
      let t = within_parts P limit (choice_of P l p) h in
      within_joined P limit (choice_of P m p) (by-ends p m l (b.made w) w b.ends ∙ t.0) (le_trans b.cheap t.1.0) (le_trans b.sooner t.1.1)

  beaten : Beaten (skipped cs) (here P) P.gates k (within P limit)
  unfolding here
  beaten l e g c s w n m h =
      let b = better l e g w s in
      let q = Memᴰ.of_map (choice_of P (l ++ (g ∷ e))) P.layouts m in (
        choice_of P b.0 q.0,
        (
          unlisted P [] k b.0 q.0 (b.1.made w) (le_trans b.1.few n) q.1,
          (good_too b.0 (l ++ (g ∷ e)) q.0 b.1 w (rw q.2 h), rw q.2 at (b.1.earlier q.0)),
        ),
      )

  pub normal : tried_under (skipped cs) P limit [] k none ≡ looked_under P limit [] k none
  normal = whole (skipped cs) P limit k beaten
