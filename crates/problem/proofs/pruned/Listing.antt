-- The pruned list: what a loop over the gates has tried so far, and which choices are in the list. It is a part of the full one.
use mathlib.Core.Path.{◌≡◌, refl}
use mathlib.Core.Bool.{Bool, true, false}
use mathlib.Core.Logic.{⊎_elim}
use mathlib.Core.List.Memᴰ
use mathlib.Core.List.{List, [], ◌∷◌, ◌++◌, flat_map, append_assoc, append-nil, Memᴰ}
use Prim.Native.Nat.{ℕ, zero, suc, ◌+◌, ◌-◌, ◌<◌, ◌≤◌}
use native.Mathlib.Numerals.{add-one}
use native.Mathlib.Nat.{not-suc-le-zero}
use native.Mathlib.Omega.{arith}
use lib.ListN.{length, take, get_or}
use lib.Seq.{take-suc, take-length}
use Rattle.logic.specs.Rules.{pick}
use Rattle.logic.specs.Lists.{Among}
use Rattle.logic.proofs.Members.{among_head, among_tail}
use Rattle.problem.specs.order.Choices.{Choice, under}
use Rattle.problem.proofs.order.Enumeration.{flat_map_snoc, flat_map_has, flat_map_is}
use Rattle.problem.specs.pruned.Pruned.{pruned, branch, branches}

module _ (skip : List ℕ → ℕ → Bool) (here : List ℕ → List Choice) (gates : List ℕ) where
  pub branches_more : (l : List ℕ) (k i : ℕ) → i < length gates
      → branches skip here gates l k (i + 1) ≡ branches skip here gates l k i ++ branch skip here gates l k (get_or gates i 0)
  branches_more l k i h = rw (add-one, take-suc gates i 0 h) (flat_map_snoc (branch skip here gates l k) (take i gates) (get_or gates i 0))

  pub pruned_zero : (l : List ℕ) (k : ℕ) → k ≡ 0 → pruned skip here gates l k ≡ here l
  unfolding pruned
  pruned_zero l k h = rw h

  pub pruned_suc : (l : List ℕ) (k : ℕ) → 0 < k → pruned skip here gates l k ≡ here l ++ branches skip here gates l (k - 1) (length gates)
  unfolding pruned
  pruned_suc l zero h = absurd (omega arith)
  pruned_suc l (suc k) h = let e : suc k - 1 ≡ k = omega arith in rw (e, take-length)

  -- a gate that is skipped has nothing, another one what lies below it
  pub branch_none : (l : List ℕ) (k g : ℕ) → skip l g ≡ true → branch skip here gates l k g ≡ []
  branch_none l k g h = rw h

  pub branch_all : (l : List ℕ) (k g : ℕ) → skip l g ≡ false → branch skip here gates l k g ≡ pruned skip here gates (l ++ (g ∷ [])) k
  branch_all l k g h = rw h

  branch_is : (l : List ℕ) (k g : ℕ) (a : Choice) → Memᴰ a (branch skip here gates l k g) → Memᴰ a (pruned skip here gates (l ++ (g ∷ [])) k)
  branch_is l k g a m = by_test (skip l g) m
    where
      by_test : (t : Bool) → Memᴰ a (pick t [] (pruned skip here gates (l ++ (g ∷ [])) k)) → Memᴰ a (pruned skip here gates (l ++ (g ∷ [])) k)
      by_test true n = absurd (Memᴰ.not-nil n)
      by_test false n = n

  pub pruned_under : (l : List ℕ) (k : ℕ) (a : Choice) → Memᴰ a (pruned skip here gates l k) → Memᴰ a (under here gates l k)
  unfolding pruned under
  pruned_under l zero a m = m
  pruned_under l (suc k) a m =
      ⊎_elim
      (λ (n : Memᴰ a (here l)). Memᴰ.append_left _ n)
      (λ (n : Memᴰ a (flat_map (branch skip here gates l k) gates)).
      let r = flat_map_is (branch skip here gates l k) a gates n in
      Memᴰ.append_right (here l)
      (flat_map_has (λ (g : ℕ). under here gates (l ++ (g ∷ [])) k) r.1.0
      (pruned_under (l ++ (r.0 ∷ [])) k a (branch_is l k r.0 a r.1.1))))
      (Memᴰ.append_cases (here l) m)

  pub branch_under : (l : List ℕ) (k g : ℕ) (a : Choice) → Memᴰ a (branch skip here gates l k g) → Memᴰ a (under here gates (l ++ (g ∷ [])) k)
  branch_under l k g a m = pruned_under (l ++ (g ∷ [])) k a (branch_is l k g a m)

  -- the choices of a list none of whose gates is skipped where it stands
  pub pruned_has : (l : List ℕ) (k : ℕ) (a : Choice) (e : List ℕ) → Among gates e → length e ≤ k
      → ((d r : List ℕ) (g : ℕ) → e ≡ d ++ (g ∷ r) → skip (l ++ d) g ≡ false)
      → Memᴰ a (here (l ++ e)) → Memᴰ a (pruned skip here gates l k)
  unfolding pruned
  pruned_has l zero a [] w n free m = rw append-nil at m
  pruned_has l zero a (g ∷ e) w n free m = absurd (not-suc-le-zero n)
  pruned_has l (suc k) a [] w n free m = Memᴰ.append_left _ (rw append-nil at m)
  pruned_has l (suc k) a (g ∷ e) w n free m =
      let first : skip l g ≡ false = rw append-nil at (free [] e g refl) in
      let rest = pruned_has (l ++ (g ∷ [])) k a e (among_tail w) (omega arith) (λ d r h s. rw append_assoc (free (g ∷ d) r h (rw s))) (rw append_assoc m) in
      Memᴰ.append_right (here l) (flat_map_has (branch skip here gates l k) (among_head w) (rw (branch_all l k g first) rest))
