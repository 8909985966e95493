-- The leftmost window that yields: where it is, when there is none, and that windows which end before a change are as they were.
use mathlib.Core.Path.{◌≡◌, refl, sym, ap, ◌∙◌}
use mathlib.Core.Bool.{Bool, true, false}
use mathlib.Core.List.{List, [], ◌∷◌, ◌++◌}
use mathlib.Core.Option.{Option, none, some, none-ne-some}
use Prim.Native.Nat.{ℕ, zero, suc, ◌+◌, ◌-◌, ◌≤◌, ◌<◌}
use native.Mathlib.Nat.{zero-add, suc-add}
use native.Mathlib.Omega.{arith}
use borrow.Author.Tests.{le-leb, leb-true}
use lib.Dec.{leb}
use lib.ListN.{length, take, drop, length-drop, take-append-drop}
use lib.Seq.{length-take-le, take-append-le, drop-append-le}
use Rattle.logic.specs.Rules.{pick}
use Rattle.peephole.specs.windows.Windows.{window_at, instead, behind, replaced, spliced}
use Rattle.peephole.specs.windows.Inner.{Still}

-- where a list is replaced: the window at `place` is the first that yields, and its answer stands there instead
pub record Replaced (yields : List ℕ → Option (List ℕ)) (k : ℕ) (l m : List ℕ) : Type 0 where
  pub place : ℕ
  pub gates : List ℕ
  pub fits : place + k ≤ length l
  pub before : Still yields k place l
  pub yielded : yields (window_at k place l) ≡ some gates
  pub made : m ≡ spliced k place gates l

module _ (yields : List ℕ → Option (List ℕ)) (k : ℕ) where
  -- a list with a whole window at its front: that window's answer, or what becomes of the rest
  front : (g : ℕ) (l : List ℕ) → k ≤ length (g ∷ l)
      → replaced yields k (g ∷ l) ≡ instead (yields (take k (g ∷ l))) (drop k (g ∷ l)) (behind g (replaced yields k l))
  unfolding replaced
  front g l h = rw (le-leb k (length (g ∷ l)) h)

  module _ (g : ℕ) (l : List ℕ) (h : k ≤ length (g ∷ l)) where
    front_none : yields (take k (g ∷ l)) ≡ none → replaced yields k (g ∷ l) ≡ behind g (replaced yields k l)
    front_none e = front g l h ∙ ap (λ (o : Option (List ℕ)). instead o (drop k (g ∷ l)) (behind g (replaced yields k l))) e

    front_some : (a : List ℕ) → yields (take k (g ∷ l)) ≡ some a → replaced yields k (g ∷ l) ≡ some (a ++ drop k (g ∷ l))
    front_some a e = front g l h ∙ ap (λ (o : Option (List ℕ)). instead o (drop k (g ∷ l)) (behind g (replaced yields k l))) e

  -- a list shorter than the window has none
  pub short_none : (l : List ℕ) → length l < k → replaced yields k l ≡ none
  unfolding replaced
  short_none [] h = refl
  short_none (g ∷ l) h = by_length (leb k (length (g ∷ l))) refl
    where
      by_length : (t : Bool) → leb k (length (g ∷ l)) ≡ t
          → pick t (instead (yields (take k (g ∷ l))) (drop k (g ∷ l)) (behind g (replaced yields k l))) none ≡ none
      by_length true e = absurd (omega (arith, leb-true k (length (g ∷ l)) e))
      by_length false e = refl

  -- where no window yields, nothing is replaced
  pub none_still : (l : List ℕ) → Still yields k (length l) l → 0 < k → replaced yields k l ≡ none
  unfolding replaced
  none_still [] s p = refl
  none_still (g ∷ l) s p = by_length (leb k (length (g ∷ l))) refl (none_still l (λ j h f. s (suc j) (omega arith) (omega arith)) p)
    where
      by_length : (t : Bool) → leb k (length (g ∷ l)) ≡ t → replaced yields k l ≡ none
          → pick t (instead (yields (take k (g ∷ l))) (drop k (g ∷ l)) (behind g (replaced yields k l))) none ≡ none
      by_length true e rest = rw (s 0 (omega arith) (omega (arith, leb-true k (length (g ∷ l)) e)), rest)
      by_length false e rest = refl

  -- and the other way round
  behind_none : (g : ℕ) (o : Option (List ℕ)) → behind g o ≡ none → o ≡ none
  behind_none g none e = refl
  behind_none g (some l) e = absurd (none-ne-some _ (sym e))

  instead_none : (o : Option (List ℕ)) (rest : List ℕ) (others : Option (List ℕ)) → instead o rest others ≡ none → (o ≡ none) × (others ≡ none)
  instead_none none rest others e = (refl, e)
  instead_none (some a) rest others e = absurd (none-ne-some _ (sym e))

  pub still_none : (l : List ℕ) → replaced yields k l ≡ none → 0 < k → (j : ℕ) → j + k ≤ length l → yields (window_at k j l) ≡ none
  still_none [] e p j f = absurd (omega arith)
  still_none (g ∷ l) e p zero f =
      (instead_none (yields (take k (g ∷ l))) (drop k (g ∷ l)) (behind g (replaced yields k l)) (sym (front g l (omega arith)) ∙ e)).0
  still_none (g ∷ l) e p (suc j) f =
      let r = (instead_none (yields (take k (g ∷ l))) (drop k (g ∷ l)) (behind g (replaced yields k l)) (sym (front g l (omega arith)) ∙ e)).1 in
      still_none l (behind_none g (replaced yields k l) r) p j (omega arith)

  -- the first window that yields is replaced
  pub first_at : (i : ℕ) (l a : List ℕ) → 0 < k → i + k ≤ length l → Still yields k i l → yields (window_at k i l) ≡ some a
      → replaced yields k l ≡ some (spliced k i a l)
  first_at i [] a p f s y = absurd (omega arith)
  first_at zero (g ∷ l) a p f s y =
      let z : 0 + k ≡ k = zero-add k in
      front_some g l (omega arith) a y ∙ ap (λ (n : ℕ). some (a ++ drop n (g ∷ l))) (sym z)
  first_at (suc i) (g ∷ l) a p f s y =
      let e : suc i + k ≡ suc (i + k) = suc-add i k in
      let r = first_at i l a p (omega arith) (λ j h t. s (suc j) (omega arith) (omega arith)) y in
      front_none g l (omega arith) (s 0 (omega arith) (omega arith))
      ∙ ap (behind g) r
      ∙ ap (λ (n : ℕ). some (g ∷ (take i l ++ (a ++ drop n (g ∷ l))))) (sym e)

  -- a window at the front that does not yield, before others that do not
  still_behind : (i g : ℕ) (l : List ℕ) → yields (take k (g ∷ l)) ≡ none → Still yields k i l → Still yields k (suc i) (g ∷ l)
  still_behind i g l y s zero h f = y
  still_behind i g l y s (suc j) h f = s j (omega arith) (omega arith)

  -- and nothing else is
  pub replaced_is : (l m : List ℕ) → replaced yields k l ≡ some m → Replaced yields k l m
  unfolding replaced
  replaced_is [] m e = absurd (none-ne-some _ e)
  replaced_is (g ∷ l) m e = by_length (leb k (length (g ∷ l))) refl e (λ t r. replaced_is l t r)
    where
      later : yields (take k (g ∷ l)) ≡ none → (o : Option (List ℕ)) → replaced yields k l ≡ o → behind g o ≡ some m
          → ((t : List ℕ) → replaced yields k l ≡ some t → Replaced yields k l t) → Replaced yields k (g ∷ l) m
      later y none r q rest = absurd (none-ne-some _ q)
      later y (some t) r q rest =
          let x = rest t r in
          let z : suc x.place + k ≡ suc (x.place + k) = suc-add x.place k in
          let same : g ∷ t ≡ m = cc in
          record {
            place = suc x.place;
            gates = x.gates;
            fits = omega (arith, x.fits);
            before = still_behind x.place g l y x.before;
            yielded = x.yielded;
            made =
                sym same ∙ ap (λ (n : List ℕ). g ∷ n) x.made
                ∙ ap (λ (n : ℕ). g ∷ (take x.place l ++ (x.gates ++ drop n (g ∷ l)))) (sym z);
          }

      here : (o : Option (List ℕ)) → yields (take k (g ∷ l)) ≡ o → k ≤ length (g ∷ l)
          → instead o (drop k (g ∷ l)) (behind g (replaced yields k l)) ≡ some m
          → ((t : List ℕ) → replaced yields k l ≡ some t → Replaced yields k l t) → Replaced yields k (g ∷ l) m
      here none y h q rest = later y (replaced yields k l) refl q rest
      here (some a) y h q rest =
          let same : a ++ drop k (g ∷ l) ≡ m = cc in
          record {
            place = 0;
            gates = a;
            fits = omega arith;
            before = λ j b f. absurd (omega arith);
            yielded = y;
            made = sym same ∙ ap (λ (n : ℕ). a ++ drop n (g ∷ l)) (sym (zero-add k));
          }

      by_length : (t : Bool) → leb k (length (g ∷ l)) ≡ t
          → pick t (instead (yields (take k (g ∷ l))) (drop k (g ∷ l)) (behind g (replaced yields k l))) none ≡ some m
          → ((t : List ℕ) → replaced yields k l ≡ some t → Replaced yields k l t) → Replaced yields k (g ∷ l) m
      by_length true t q rest = here (yields (take k (g ∷ l))) refl (leb-true k (length (g ∷ l)) t) q rest
      by_length false t q rest = absurd (none-ne-some _ q)

  -- a window that lies within the front of a list is one of the front
  front_window : (j : ℕ) (l rest : List ℕ) → j + k ≤ length l → window_at k j (l ++ rest) ≡ window_at k j l
  front_window j l rest h =
      ap (take k) (drop-append-le j l rest (omega arith)) ∙ take-append-le k (drop j l) rest (omega (arith, length-drop j l))

  -- a window that ends before gate i is as it was when the list is changed from gate i on
  before_change : (i j : ℕ) (l rest : List ℕ) → i ≤ length l → j + k ≤ i → window_at k j (take i l ++ rest) ≡ window_at k j l
  before_change i j l rest h b =
      let n : length (take i l) ≡ i = length-take-le i l h in
      front_window j (take i l) rest (omega arith)
      ∙ sym (front_window j (take i l) (drop i l) (omega arith))
      ∙ ap (window_at k j) (take-append-drop i l)

  -- so the scan may go on from k - 1 gates further left
  pub still_resumed : (i : ℕ) (l a : List ℕ) → 0 < k → i ≤ length l → Still yields k i l → Still yields k (i + 1 - k) (spliced k i a l)
  still_resumed i l a p h s j b f =
      ap yields (before_change i j l (a ++ drop (i + k) l) h (omega arith)) ∙ s j (omega arith) (omega arith)
