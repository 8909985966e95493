-- A window yields exactly where some list improves on it: the search's answer does, and where there is none, nothing does.
use mathlib.Core.Path.{◌≡◌, refl, sym, ap, ◌∙◌, subst}
use mathlib.Core.Bool.{true}
use mathlib.Core.List.{List}
use mathlib.Core.Option.{Option, none, some}
use Prim.Native.Nat.{ℕ, ◌+◌, ◌≤◌, ◌<◌}
use native.Mathlib.Omega.{arith}
use lib.ListN.{length}
use Rattle.logic.specs.Lists.{all_of}
use Rattle.gate.specs.Gates.{lawful}
use Rattle.record.specs.circuit_fields.Circuits.{gates}
use Rattle.table.specs.layouts.Layouts.{Width}
use Rattle.peephole.specs.declared.windows.Prices.{Prices}
use Rattle.peephole.specs.windows.Windows.{better, window_at, spliced, replaced}
use Rattle.peephole.specs.windows.Listings.{ByteEach}
use Rattle.peephole.specs.windows.Demand.{Improves, Leftmost}
use Rattle.peephole.proofs.windows.Leftmost.{none_still, first_at, replaced_is}
use Rattle.peephole.proofs.windows.Answers.{found_parts, found_better, better_is, better_lawful, better_short, better_same, nothing_better}
use Rattle.peephole.proofs.windows.Steps.{window_length, all_window}

module _ (n k : ℕ) (wide : Width n) (few : k ≤ 12) (p : Prices) (small : ByteEach p) (l : List ℕ) (kept : all_of (lawful 2 n) l ≡ true) where
  module _ (i : ℕ) (fits : i + k ≤ length l) where
    abbrev window : List ℕ
    window = window_at k i l

    kept_window : all_of (lawful 2 n) window ≡ true
    kept_window = all_window k i (lawful 2 n) l kept

    short_window : length window ≤ 12
    short_window = let e = window_length k i l fits in omega arith

    improving : (a : List ℕ) → better n p window ≡ some a → Improves n p window a
    improving a e =
        let b = better_is n wide p window a e in
        record {
          lawful_gates = better_lawful n wide p window a b;
          no_more = better_short n wide p window a b;
          cheaper = b.cheaper;
          alike = better_same n wide p window kept_window short_window a b;
        }

    pub nothing_improves : better n p window ≡ none → (e : List ℕ) → Improves n p window e → ⊥
    nothing_improves q e h =
        let c = nothing_better n wide p window kept_window short_window q small e h.lawful_gates h.no_more h.alike in
        let d = h.cheaper in
        omega arith

    yields_not : ((e : List ℕ) → Improves n p window e → ⊥) → better n p window ≡ none
    yields_not h = by_answer (better n p window) refl
      where
        by_answer : (o : Option (List ℕ)) → better n p window ≡ o → o ≡ none
        by_answer none q = refl
        by_answer (some a) q = absurd (h a (improving a q))

  -- what is replaced is the leftmost window that a list improves on,
  pub is_leftmost : (m : List ℕ) → replaced (better n p) k l ≡ some m → Leftmost n k p l m
  is_leftmost m e =
      let r = replaced_is (better n p) k l m e in
      let q = found_parts n wide p (window_at k r.place l) r.gates r.yielded in
      let same = sym q.1.1.0 in
      record {
        place = r.place;
        found = q.0;
        fits = r.fits;
        answer = q.1.0;
        improves =
            subst (Improves n p (window_at k r.place l)) same (improving r.place r.fits r.gates r.yielded);
        none_before = λ j b.
            let f : j + k ≤ length l = omega (arith, r.fits) in
            nothing_improves j f (r.before j b f);
        made = r.made ∙ ap (λ (a : List ℕ). spliced k r.place a l) same;
      }

  -- that window is replaced,
  pub leftmost_goes : 0 < k → (m : List ℕ) → Leftmost n k p l m → replaced (better n p) k l ≡ some m
  leftmost_goes pos m s =
      let w = window_at k s.place l in
      first_at (better n p) k s.place l (gates s.found.bytes) pos s.fits (λ j b f. yields_not j f (s.none_before j b))
      (found_better n wide p w s.found s.answer s.improves.cheaper)
      ∙ ap (λ (x : List ℕ). some x) (sym s.made)

  -- and where there is none, nothing is
  pub none_goes : 0 < k → ((i : ℕ) → i + k ≤ length l → (e : List ℕ) → Improves n p (window_at k i l) e → ⊥) → replaced (better n p) k l ≡ none
  none_goes pos h = none_still (better n p) k l (λ j b f. yields_not j f (h j f)) pos
