-- When a function of a list needs only its first elements.
use mathlib.Core.Path.{◌≡◌, refl, sym, ap, ◌∙◌}
use mathlib.Core.Bool.{Bool, true, false}
use mathlib.Core.List.{List}
use Prim.Native.Nat.{ℕ, ◌<◌}
use native.Mathlib.Omega.{arith}
use borrow.Author.Tests.{leb-true, leb-false}
use lib.Dec.{leb}
use lib.ListN.{length, take}
use lib.Seq.{take_all, length-take-le}

-- the prefix of a list that is longer than `room` has length `room`
pub cut_length : (room : ℕ) (l : List ℕ) → room < length l → length (take room l) ≡ room
cut_length room l h = length-take-le room l (omega arith)

-- if f gives the same for a list longer than `room` as for its prefix, it does so for every list: a shorter one is its own prefix
module _ {A : Type 0} (f : List ℕ → A) (room : ℕ) (same : (l : List ℕ) → room < length l → f (take room l) ≡ f l) where
  pub any_length : (l : List ℕ) → f (take room l) ≡ f l
  any_length l = by_length (leb (length l) room) refl
    where
      by_length : (t : Bool) → leb (length l) room ≡ t → f (take room l) ≡ f l
      by_length true e = ap f (take_all room l (leb-true (length l) room e))
      by_length false e = same l (leb-false (length l) room e)

-- if f gives the same for all lists longer than `long`, a prefix that is longer than `long` gives what the list gives
module _ {A : Type 0} (f : List ℕ → A) (a : A) (long : ℕ) (common : (l : List ℕ) → long < length l → f l ≡ a) where
  pub told_by : (room : ℕ) → long < room → (l : List ℕ) → f (take room l) ≡ f l
  told_by room h =
      any_length f room (λ l k. common (take room l) (rw (cut_length room l k) h) ∙ sym (common l (omega arith)))
