-- Reversed lists: a state carried along one, a sum, a test of all elements, membership.
use mathlib.Core.Path.{◌≡◌, refl, ap, ◌∙◌}
use mathlib.Core.Bool.{Bool}
use mathlib.Core.Logic.{⊎_elim}
use mathlib.Core.List.Memᴰ
use mathlib.Core.List.{List, [], ◌∷◌, reverse, reverse-cons, reverse-reverse, Memᴰ}
use Prim.Native.Nat.{ℕ}
use native.Mathlib.Omega.{arith}
use Rattle.logic.specs.Lists.{all_of, total, along, back, Among}
use Rattle.logic.proofs.Fold.{total_append, along_append}
use Rattle.logic.proofs.Counts.{same_truth}
use Rattle.logic.proofs.Members.{all_member, all_members}

-- along the reversed list is back along the list
pub along_reverse : {A S : Type 0} (f : A → S → S) (l : List A) (s : S) → along f (reverse l) s ≡ back f l s
unfolding along back
along_reverse f [] s = refl
along_reverse f (x ∷ l) s =
    ap (λ (m : List _). along f m s) (reverse-cons x l) ∙ along_append f (reverse l) (x ∷ []) s ∙ ap (f x) (along_reverse f l s)

pub total_reverse : {A : Type 0} (f : A → ℕ) (l : List A) → total f (reverse l) ≡ total f l
unfolding total
total_reverse f [] = refl
total_reverse f (x ∷ l) =
    ap (total f) (reverse-cons x l) ∙ total_append f (reverse l) (x ∷ []) ∙ omega (arith, total_reverse f l)

-- every element of the reversed list is one of the list
pub member_reverse : (x : ℕ) (l : List ℕ) → Memᴰ x (reverse l) → Memᴰ x l
member_reverse x [] m = m
member_reverse x (y ∷ l) m =
    ⊎_elim
    (λ (k : Memᴰ x (reverse l)). Memᴰ.tail (member_reverse x l k))
    (λ (k : Memᴰ x (y ∷ [])). Memᴰ.head (Memᴰ.eq_of_singleton k))
    (Memᴰ.append_cases (reverse l) (rw (reverse-cons y l) at m))

pub among_reverse : (gates l : List ℕ) → Among gates l → Among gates (reverse l)
among_reverse gates l a x m = a x (member_reverse x l m)

-- so a test of all elements gives the same
pub all_reverse : (f : ℕ → Bool) (l : List ℕ) → all_of f (reverse l) ≡ all_of f l
all_reverse f l =
    same_truth (all_of f (reverse l)) (all_of f l)
    (λ h. all_members f l (λ x m. all_member f x (reverse l) h (member_reverse x (reverse l) (rw (reverse-reverse l) m))))
    (λ h. all_members f (reverse l) (λ x m. all_member f x l h (member_reverse x l m)))
