-- A list in a buffer: rows written one after the other, bytes moved down, bytes set to 0, and gates put in place of a window.
use mathlib.Core.Path.{◌≡◌, sym, ap, ◌∙◌}
use mathlib.Core.List.{List, [], ◌∷◌, ◌++◌, map, append_assoc}
use Prim.Native.Nat.{ℕ, zero, suc, ◌+◌, ◌-◌, ◌≤◌, ◌<◌}
use native.Mathlib.Nat.{add-zero}
use native.Mathlib.Numerals.{add-one}
use native.Mathlib.Omega.{arith}
use lib.ListN.{length, get_or, take, drop, set, length-append, length-drop}
use lib.Seq.{sets, sets-eq, paste, paste-suc, length_paste_head, take-suc-set, length-take-le, take_at, drop-append-add, drop-drop, get_or-append-add, get_or-drop}
use Rattle.logic.specs.Lists.{numbers_from}
use Rattle.peephole.specs.windows.Windows.{spliced}

-- one more number at the end of a range
made_more : (f : ℕ → ℕ) (n k : ℕ) → map f (numbers_from k (suc n)) ≡ map f (numbers_from k n) ++ (f (k + n) ∷ [])
made_more f zero k = ap (λ (i : ℕ). f i ∷ []) (sym (add-zero k))
made_more f (suc n) k =
    let e : suc k + n ≡ k + suc n = omega arith in
    ap (λ (l : List ℕ). f k ∷ l) (made_more f n (suc k) ∙ ap (λ (i : ℕ). map f (numbers_from (suc k) n) ++ (f i ∷ [])) e)

-- a row is written after the others
pub row_more : (f : ℕ → ℕ) (h job : List ℕ) (x a : ℕ) → 12 + x < length job → take (12 + x) job ≡ h ++ map f (numbers_from 0 x) → a ≡ f x
    → take (12 + (x + 1)) (set job (12 + x) a) ≡ h ++ map f (numbers_from 0 (x + 1))
row_more f h job x a l e q =
    let s : 12 + (x + 1) ≡ suc (12 + x) = omega arith in
    let z : 0 + x ≡ x = omega arith in
    ap (λ (i : ℕ). take i (set job (12 + x) a)) s
    ∙ take-suc-set job (12 + x) a l
    ∙ ap (λ (r : List ℕ). r ++ (a ∷ [])) e
    ∙ append_assoc h (map f (numbers_from 0 x)) (a ∷ [])
    ∙ ap (λ (i : ℕ). h ++ (map f (numbers_from 0 x) ++ (i ∷ []))) (q ∙ ap f (sym z))
    ∙ ap (λ (r : List ℕ). h ++ r) (sym (made_more f x 0))
    ∙ ap (λ (i : ℕ). h ++ map f (numbers_from 0 i)) (sym (add-one x))

-- bytes moved down: k of them were moved
pub moved_more : (l : List ℕ) (to from k : ℕ) → to ≤ from → from + k < length l
    → set (paste l to (drop from l) k) (to + k) (get_or (paste l to (drop from l) k) (from + k) 0) ≡ paste l to (drop from l) (k + 1)
moved_more l to from k h b =
    let s : k < length (drop from l) = omega (arith, length-drop from l) in
    let t : to + k < length l = omega arith in
    let same : get_or (paste l to (drop from l) k) (from + k) 0 ≡ get_or (drop from l) k 0
    = ap (λ (i : ℕ). get_or (paste l to (drop from l) k) i 0) later
    ∙ get_or-append-add (take to l ++ take k (drop from l)) (drop (to + k) l) (from - to) 0
    ∙ get_or-drop (to + k) l (from - to) 0
    ∙ ap (λ (i : ℕ). get_or l i 0) back
    ∙ sym (get_or-drop from l k 0) in
    ap (λ (x : ℕ). set (paste l to (drop from l) k) (to + k) x) same
    ∙ paste-suc l to (drop from l) k 0 t s
    ∙ ap (paste l to (drop from l)) (sym (add-one k))
  where
    front : length (take to l ++ take k (drop from l)) ≡ to + k
    front = length_paste_head l to (drop from l) k (omega arith) (omega (arith, length-drop from l))

    later : from + k ≡ length (take to l ++ take k (drop from l)) + (from - to)
    later = omega (arith, front)

    back : to + k + (from - to) ≡ from + k
    back = omega arith

-- gates put over the front of a window, and what is left of it passed over
pub put_over : (l a : List ℕ) (at k : ℕ) → at + k ≤ length l → length a ≤ k
    → take (at + length a) (sets l at a) ++ drop (at + k) (sets l at a) ≡ spliced k at a l
put_over l a at k h b =
    ap (λ (x : List ℕ). take (at + length a) x ++ drop (at + k) x) (sets-eq a l at (omega arith))
    ∙ ap (λ (x : List ℕ). x ++ drop (at + k) (take at l ++ a ++ drop (at + length a) l)) (take_at (take at l ++ a) (drop (at + length a) l) (at + length a) long)
    ∙ ap (λ (x : List ℕ). take at l ++ a ++ x) rest
    ∙ append_assoc (take at l) a (drop (at + k) l)
  where
    long : length (take at l ++ a) ≡ at + length a
    long = omega (arith, length-append (take at l) a, length-take-le at l (omega arith))

    further : at + k ≡ length (take at l ++ a) + (k - length a)
    further = omega (arith, long)

    rest : drop (at + k) (take at l ++ a ++ drop (at + length a) l) ≡ drop (at + k) l
    rest =
        let e : at + length a + (k - length a) ≡ at + k = omega arith in
        ap (λ (i : ℕ). drop i (take at l ++ a ++ drop (at + length a) l)) further
        ∙ drop-append-add (take at l ++ a) (drop (at + length a) l) (k - length a)
        ∙ drop-drop (k - length a) (at + length a) l
        ∙ ap (λ (i : ℕ). drop i l) e

-- the gates were put at `at`, and what stands past the window was moved down to their end
pub put_and_closed : (l a x y : List ℕ) (at k to : ℕ) → at + k ≤ length l → length a ≤ k → x ≡ sets l at a → to ≡ at + length a → length y ≡ length x
    → take (to + (length x - (at + k))) y ≡ take to x ++ drop (at + k) x → take (to + (length y - (at + k))) y ≡ spliced k at a l
put_and_closed l a x y at k to h b put end same closed =
    ap (λ (n : ℕ). take (to + (n - (at + k))) y) same
    ∙ closed
    ∙ (λ i. take (end i) (put i) ++ drop (at + k) (put i))
    ∙ put_over l a at k h b
