-- The span bound holds: at most as many outputs are independent modulo the columns as heavy gates are still to come.
use mathlib.Core.Path.{◌≡◌, refl, sym, ap, ◌∙◌, subst}
use mathlib.Core.Logic.{⊎_elim}
use mathlib.Core.Bool.{true}
use mathlib.Core.List.{List, [], ◌∷◌}
use Prim.Native.Nat.{ℕ, zero, suc, ◌+◌, ◌≤◌, ◌<◌}
use native.Mathlib.Nat.{not-suc-le-zero, le_of_suc-le-suc}
use native.Mathlib.Decide.{dec_lt}
use native.Mathlib.Omega.{arith}
use borrow.Author.Tests.{eqb-true, lt-ltb, le-ltb}
use lib.Bits.{bit_and, bit_xor, and_comm}
use lib.ListN.{length, get_or}
use Rattle.logic.specs.Lists.{along}
use Rattle.logic.proofs.Below.{below}
use Rattle.logic.proofs.Xor.{linear_zero, and_assoc, and_xor, xor_none}
use Rattle.circuit.specs.run.Inner.{columns_after}
use Rattle.table.specs.layouts.Layouts.{wire_of}
use Rattle.columns.specs.declared.Wanted.{Wanted}
use Rattle.columns.specs.Wanted.{misses, fits, met}
use Rattle.columns.specs.Finish.{Finish}
use Rattle.bounds.specs.budget.Heavy.{heavies}
use Rattle.bounds.specs.span.Span.{reduced, rests, fresh, first, full_rows, generators, needed}
use Rattle.bounds.proofs.span.Spanned.{Span, span_zero}
use Rattle.bounds.proofs.span.Run.{run}
use Rattle.bounds.proofs.span.Elimination.{rest, rest_linear, rests_own, rests_few}

-- a column that has none of some rows has none of fewer
module _ (x : ℕ) where
  none_kept : (l : List ℕ) (s : ℕ) → bit_and x s ≡ 0 → bit_and x (along bit_and l s) ≡ 0
  unfolding along
  none_kept [] s z = z
  none_kept (c ∷ l) s z =
      none_kept l (bit_and c s) (ap (bit_and x) (and_comm c s) ∙ sym (and_assoc x s c) ∙ ap (λ n. bit_and n c) z)

  none_common : (l : List ℕ) (s i : ℕ) → i < length l → bit_and x (get_or l i 0) ≡ 0 → bit_and x (along bit_and l s) ≡ 0
  unfolding along
  none_common [] s i h z = absurd (not-suc-le-zero h)
  none_common (c ∷ l) s zero h z = none_kept l (bit_and c s) (sym (and_assoc x c s) ∙ ap (λ n. bit_and n s) z)
  none_common (c ∷ l) s (suc i) h z = none_common l (bit_and c s) i (le_of_suc-le-suc h) z

-- number i of the first n outputs' columns
module _ (n d : ℕ) where
  first_in : (j : ℕ) (cs : List ℕ) (i : ℕ) → j + i < n → get_or (first j n d cs) i 0 ≡ get_or cs i 0
  unfolding first
  first_in j [] i h = refl
  first_in j (c ∷ cs) zero h = rw (lt-ltb j n (omega arith))
  first_in j (c ∷ cs) (suc i) h = first_in (suc j) cs i (omega arith)

  length_first : (j : ℕ) (cs : List ℕ) → length (first j n d cs) ≡ length cs
  unfolding first
  length_first j [] = refl
  length_first j (c ∷ cs) = ap suc (length_first (suc j) cs)

first_out : (n j : ℕ) (cs : List ℕ) (i : ℕ) → n ≤ j + i → get_or (first j n 0 cs) i 0 ≡ 0
unfolding first
first_out n j [] i h = refl
first_out n j (c ∷ cs) zero h = rw (le-ltb j n (omega arith))
first_out n j (c ∷ cs) (suc i) h = first_out n (suc j) cs i (omega arith)

module _ (t : Wanted) (n p : ℕ) (hc : n ≤ length t.care) (hn : n ≤ 4) (cs : List ℕ) (h : met t cs p ≡ true) where
  -- on the rows that want every output, each output is its wire's column
  pub fits_rows : (j : ℕ) → j < n → bit_and (full_rows t n) (get_or cs (wire_of p j) 0) ≡ bit_and (full_rows t n) (get_or t.value j 0)
  unfolding met misses full_rows
  fits_rows j l =
      let c = get_or cs (wire_of p j) 0 in
      let v = get_or t.value j 0 in
      let z : misses t c j ≡ 0 = eqb-true (misses t c j) 0 (below 4 (fits t cs p) h j (omega arith)) in
      let k = first_in n 65535 0 t.care j (omega arith) in
      let r = none_common (bit_xor c v) (first 0 n 65535 t.care) 65535 j (omega (arith, length_first n 65535 0 t.care)) (ap (bit_and (bit_xor c v)) k ∙ z) in
      xor_none (bit_and (full_rows t n) c) (bit_and (full_rows t n) v) (sym (and_xor (full_rows t n) c v) ∙ and_comm (full_rows t n) (bit_xor c v) ∙ r)

module _ (t : Wanted) (n p : ℕ) (hc : n ≤ length t.care) (hn : n ≤ 4) (cs e : List ℕ) (h : met t (columns_after e cs) p ≡ true) where
  abbrev rows : ℕ
  rows = full_rows t n

  abbrev base : List ℕ
  base = rests rows (generators cs) []

  values_spanned : (vs : List ℕ) → ((w : ℕ) → Span vs (rest rows base (get_or (columns_after e cs) w 0))) → (i : ℕ) → Span vs (rest rows base (get_or (first 0 n 0 t.value) i 0))
  values_spanned vs k i = by_place (dec_lt i n)
    where
      by_place : Dec (i < n) → Span vs (rest rows base (get_or (first 0 n 0 t.value) i 0))
      by_place (yes l) =
          subst (Span vs)
          (ap (reduced base) (fits_rows t n p hc hn (columns_after e cs) h i l) ∙ ap (rest rows base) (sym (first_in n 0 0 t.value i (omega arith))))
          (k (wire_of p i))
      by_place (no m) =
          subst (Span vs) (sym (ap (rest rows base) (first_out n 0 t.value i (omega arith)) ∙ linear_zero (rest rows base) (rest_linear rows base))) (span_zero vs)

  needed_heavies : needed t cs n ≤ heavies e
  unfolding needed fresh
  needed_heavies =
      let own = rests_own rows (generators cs) [] in
      let s = run (rest rows base) (rest_linear rows base) (own 0) e [] cs (λ w. own (suc w)) in
      omega (arith, s.1, rests_few rows (first 0 n 0 t.value) base s.0 (values_spanned s.0 s.2))

-- each way to finish has as many gates of two or more controls as outputs are independent
pub needed_few : (k : ℕ) (t : Wanted) (n free : ℕ) (cs e : List ℕ) (p : ℕ) → Finish k t n free cs e p → needed t cs n ≤ heavies e
needed_few k t n free cs e p f =
    let n4 : n ≤ 4 = ⊎_elim (λ w. omega arith) (λ w. omega arith) f.width in
    let c = f.four in
    needed_heavies t n p (omega arith) n4 cs e f.meets
