-- A filled set holds every state that the gates finish from within its radius: the list of mirrored gates leads back to it from what is
-- wanted.
use mathlib.Core.Path.{◌≡◌, refl, sym, ap, ap₂, ◌∙◌, subst}
use mathlib.Core.Bool.{Bool, true, false}
use mathlib.Core.Logic.{⊎_elim}
use mathlib.Core.List.{List, [], ◌∷◌, Memᴰ}
use Prim.Native.Nat.{ℕ, zero, suc, ◌+◌, ◌/◌, ◌^◌, ◌<◌}
use native.Mathlib.Decide.{ℕ_discrete, dec_lt}
use native.Mathlib.Nat.{lt_of_lt_of_le, lt_of_le_of_lt, div-eq_of_lt}
use native.Mathlib.Omega.{arith}
use borrow.Author.Tests.{eqb-true, eq-eqb, ne_eqb, lt-ltb, le-ltb, le-leb}
use lib.Bits.{bit_and, bit_xor, and_comm, and_zero_r, and_le_r}
use lib.Dec.{eqb, ltb, lit<}
use lib.ListN.{length, get_or}
use lib.Pow.{pow_mono}
use lib.Seq.{get_or-set_other}
use Rattle.logic.specs.Rules.{pick}
use Rattle.logic.specs.Lists.{along, back, Among}
use Rattle.logic.specs.Bit.{bit_of}
use Rattle.logic.proofs.Bits.{bit_and_law}
use Rattle.logic.proofs.Xor.{same_bits}
use Rattle.logic.proofs.Members.{among_nil, among_cons, among_head, among_tail}
use Rattle.gate.specs.Gates.{target_of, lawful, gate_of}
use Rattle.gate.specs.Inner.{firing, column_step}
use Rattle.gate.proofs.Widen.{parts, widen}
use Rattle.gate.proofs.Slices.{length_step}
use Rattle.circuit.specs.run.Inner.{columns_over, columns_after}
use Rattle.table.specs.layouts.Layouts.{Width, wire_of, layouts_for}
use Rattle.columns.specs.declared.Wanted.{Wanted}
use Rattle.columns.specs.Wanted.{start_columns, all_rows, dirt}
use Rattle.columns.specs.Finish.{Finish}
use Rattle.bounds.specs.span.Span.{full_rows}
use Rattle.bounds.proofs.span.Fewest.{fits_rows}
use Rattle.bloom.specs.declared.hash.Reach.{Reach}
use Rattle.bloom.specs.hash.Reach.{without, share_of, share_at, shares_of, part_of, Seen}
use Rattle.bloom.specs.bits.Places.{key_of, lit_at}
use Rattle.reach_filter.specs.mirrors.Mirrors.{wire_at}
use Rattle.reach_filter.specs.fill.Sieve.{Near, rows_of, aim_at, aim_of, Sound, Sieve, emptied}
use Rattle.bloom.proofs.hash.Sums.{sum_same, sum_order}
use Rattle.reach_filter.proofs.fill.Nearby.{near_here, near_start}
use Rattle.reach_filter.proofs.mirrors.Turn.{width_le, turn_inside, turn_once, turn_onto, Alike, alike_step}

back_length : (e cs : List ℕ) → length (back columns_over e cs) ≡ length cs
unfolding back
back_length [] cs = refl
back_length (g ∷ e) cs = length_step (gate_of g) (back columns_over e cs) ∙ back_length e cs

-- columns that agree in each row of a set are the same on it
module _ (rows : ℕ) where
  pub same_rows : (c d : ℕ) → ((x : ℕ) → bit_of x rows ≡ 1 → bit_of x c ≡ bit_of x d) → bit_and c rows ≡ bit_and d rows
  same_rows c d h = same_bits (bit_and c rows) (bit_and d rows) (λ x. bit_and_law x c rows ∙ by_row x (bit_of x rows) refl (omega arith) ∙ sym (bit_and_law x d rows))
    where
      by_row : (x b : ℕ) → bit_of x rows ≡ b → b < 2 → bit_and (bit_of x c) (bit_of x rows) ≡ bit_and (bit_of x d) (bit_of x rows)
      by_row x zero e l = rw e (and_zero_r (bit_of x c) ∙ sym (and_zero_r (bit_of x d)))
      by_row x (suc zero) e l = ap (λ (b : ℕ). bit_and b (bit_of x rows)) (h x e)
      by_row x (suc (suc b)) e l = absurd (omega arith)

  one_and : (b : ℕ) → b < 2 → bit_and b 1 ≡ b
  one_and zero h = refl
  one_and (suc zero) h = refl
  one_and (suc (suc b)) h = absurd (omega arith)

  row_of : (c d x : ℕ) → bit_and c rows ≡ bit_and d rows → bit_of x rows ≡ 1 → bit_of x c ≡ bit_of x d
  row_of c d x h e =
      let s = sym (bit_and_law x c rows) ∙ ap (bit_of x) h ∙ bit_and_law x d rows in
      let t = rw e at s in
      sym (one_and (bit_of x c) (omega arith)) ∙ t ∙ one_and (bit_of x d) (omega arith)

  pub row_lt : rows < 65536 → (x : ℕ) → bit_of x rows ≡ 1 → x < 16
  row_lt h x e = by_size (dec_lt x 16)
    where
      by_size : Dec (x < 16) → x < 16
      by_size (yes l) = l
      by_size (no l) =
          let z : rows / 2 ^ x ≡ 0 = div-eq_of_lt (lt_of_lt_of_le h (pow_mono {i = 16} {j = x} (omega arith))) in
          let s = rw z at e in
          absurd (omega arith)

-- two bits that are both 1
both_one : (a b : ℕ) → a < 2 → b < 2 → bit_and a b ≡ 1 → (a ≡ 1) × (b ≡ 1)
both_one zero zero ha hb e = absurd (omega arith)
both_one zero (suc zero) ha hb e = absurd (omega arith)
both_one (suc zero) zero ha hb e = absurd (omega arith)
both_one (suc zero) (suc zero) ha hb e = (refl, refl)
both_one zero (suc (suc b)) ha hb e = absurd (omega arith)
both_one (suc zero) (suc (suc b)) ha hb e = absurd (omega arith)
both_one (suc (suc a)) b ha hb e = absurd (omega arith)

module _ (r : Reach) (cs : List ℕ) where
  pub shares_at : (w : ℕ) → w < 5 → get_or (shares_of r cs) w 0 ≡ share_at r.factors r.rows cs w
  unfolding shares_of
  shares_at zero h = refl
  shares_at (suc zero) h = refl
  shares_at (suc (suc zero)) h = refl
  shares_at (suc (suc (suc zero))) h = refl
  shares_at (suc (suc (suc (suc zero)))) h = refl
  shares_at (suc (suc (suc (suc (suc w))))) h = absurd (omega arith)

module _ (t : Wanted) (n : ℕ) where
  aim_at_law : (w : ℕ) → w < 5 → get_or (aim_of t n) w 0 ≡ aim_at t n w
  unfolding aim_of
  aim_at_law zero h = refl
  aim_at_law (suc zero) h = refl
  aim_at_law (suc (suc zero)) h = refl
  aim_at_law (suc (suc (suc zero))) h = refl
  aim_at_law (suc (suc (suc (suc zero)))) h = refl
  aim_at_law (suc (suc (suc (suc (suc w))))) h = absurd (omega arith)

  aim_length : length (aim_of t n) ≡ 5
  unfolding aim_of
  aim_length = refl

  rows_lt : Width n → rows_of t n < 65536
  unfolding rows_of
  rows_lt width =
      lt_of_le_of_lt (and_le_r (full_rows t n) (all_rows n))
      (⊎_elim (λ (e : n ≡ 3). rw e (lit< tt)) (λ (e : n ≡ 4). rw e (lit< tt)) width)

-- a gate leaves every column but its target's
pub kept_column : (g : ℕ) (cs : List ℕ) (w : ℕ) → (w ≡ target_of g → ⊥) → get_or (column_step (gate_of g) cs) w 0 ≡ get_or cs w 0
unfolding column_step gate_of
kept_column g cs w h = get_or-set_other cs (target_of g) w (bit_xor (get_or cs (target_of g) 0) (firing (gate_of g).kind cs)) 0 h

module _ (gates : List ℕ) (r : Reach) (n free : ℕ) (sound : Sound gates r n free) where
  -- the wires past the ancilla stay as they are
  idle : (w : ℕ) → n < w → (l cs : List ℕ) → Among gates l → get_or (columns_after l cs) w 0 ≡ get_or cs w 0
  unfolding along
  idle w h [] cs among = refl
  idle w h (g ∷ l) cs among =
      idle w h l (column_step (gate_of g) cs) (among_tail among)
      ∙ kept_column g cs w (λ e. omega (arith, (parts 3 (n + 1) g (sound.kinds g (among_head among))).target))

  module _ (p : ℕ) (width : Width n) (m : Memᴰ p (layouts_for n free)) where
    abbrev π : ℕ → ℕ
    π w = wire_at n p w

    abbrev Like : ℕ → List ℕ → List ℕ → Type 0
    Like x cs ds = Alike n free p width m x cs ds

    lawful_five : (g : ℕ) → Memᴰ g gates → lawful 3 5 g ≡ true
    lawful_five g k = widen 3 (n + 1) 3 5 g (omega arith) (omega (arith, width_le n width)) (sound.kinds g k)

    -- a list with each gate replaced by its mirror
    mirrored : (e : List ℕ) → Among gates e
        → (f : List ℕ) × (Among gates f × ((length f ≡ length e)
        × ((x : ℕ) (cs ds : List ℕ) → x < 16 → length cs ≡ 5 → length ds ≡ 5 → Like x (columns_after e cs) ds → Like x cs (back columns_over f ds))))
    unfolding along back
    mirrored [] among = ([], (among_nil, (refl, λ x cs ds hx lc ld al. al)))
    mirrored (g ∷ e) among =
        let c = sound.closed p m g (among_head among) in
        let t = mirrored e (among_tail among) in (
          c.0 ∷ t.0,
          (
            among_cons c.1.0 t.1.0,
            (
              ap suc t.1.1.0,
              λ x cs ds hx lc ld al.
                  alike_step n free p width m g c.0 (lawful_five g (among_head among)) (lawful_five c.0 c.1.0) c.1.1 x cs (back columns_over t.0 ds) hx lc
                  (back_length t.0 ds ∙ ld)
                  (t.1.1.1 x (column_step (gate_of g) cs) ds hx (length_step (gate_of g) cs ∙ lc) ld al),
            ),
          ),
        )

    -- the wire that is laid out on a
    before : (a : ℕ) → (c : ℕ) × ((w : ℕ) → w < 5 → eqb (π w) a ≡ eqb w c)
    before a = by_size (dec_lt a 5)
      where
        by_wire : (c : ℕ) → c < 5 → π c ≡ a → (w : ℕ) → w < 5 → Dec (w ≡ c) → eqb (π w) a ≡ eqb w c
        by_wire c hc e w l (yes s) = eq-eqb (π w) a (ap π s ∙ e) ∙ sym (eq-eqb w c s)
        by_wire c hc e w l (no s) = ne_eqb (π w) a (λ q. s (turn_once n free p width m w c l hc (q ∙ sym e))) ∙ sym (ne_eqb w c s)

        by_size : Dec (a < 5) → (c : ℕ) × ((w : ℕ) → w < 5 → eqb (π w) a ≡ eqb w c)
        by_size (yes h) = let o = turn_onto n free p width m a h in (o.0, λ w l. by_wire o.0 o.1.0 o.1.1 w l (ℕ_discrete w o.0))
        by_size (no h) =
            (5, λ w l. ne_eqb (π w) a (λ q. omega (arith, turn_inside n free p width m w l)) ∙ sym (ne_eqb w 5 (λ q. omega arith)))

    module _ (cs ds : List ℕ) (al : (x : ℕ) → bit_of x r.rows ≡ 1 → Like x cs ds) where
      share_turned : (w : ℕ) → w < 5 → get_or (shares_of r cs) (π w) 0 ≡ get_or (shares_of r ds) w 0
      unfolding share_at
      share_turned w l =
          shares_at r cs (π w) (turn_inside n free p width m w l)
          ∙ ap₂ share_of (sound.even p m w l) (same_rows r.rows (get_or cs (π w) 0) (get_or ds w 0) (λ x e. al x e w l))
          ∙ sym (shares_at r ds w l)

      part_turned : (a b : ℕ) → part_of (shares_of r cs) a b ≡ part_of (shares_of r ds) (before a).0 (before b).0
      unfolding part_of
      part_turned a b =
          let f = without a (without b (λ w. get_or (shares_of r cs) w 0)) in
          sym (sum_order π f 5 (turn_inside n free p width m) (turn_once n free p width m) (turn_onto n free p width m))
          ∙ sum_same 5 (λ w. f (π w)) (without (before a).0 (without (before b).0 (λ w. get_or (shares_of r ds) w 0)))
          (λ w l i. pick ((before a).1 w l i) 0 (pick ((before b).1 w l i) 0 (share_turned w l i)))

      seen_turned : (bits : List ℕ) → Seen bits r ds → Seen bits r cs
      seen_turned bits seen a b = rw (part_turned a b) (seen (before a).0 (before b).0)

    -- where a list finishes, the columns are in the rows of the filter what is wanted
    module _ (t : Wanted) (k : ℕ) (cs e : List ℕ) (fin : Finish k t n free cs e p) (clear : (w : ℕ) → n < w → w < 5 → get_or (columns_after e cs) w 0 ≡ 0) where
      abbrev ends : List ℕ
      ends = columns_after e cs

      end_at : (x : ℕ) → bit_of x (rows_of t n) ≡ 1 → (w : ℕ) → w < 5 → bit_of x (get_or ends (π w) 0) ≡ bit_of x (aim_at t n w)
      unfolding rows_of wire_at dirt
      end_at x e w l = by_wire (dec_lt w n) (ℕ_discrete w n)
        where
          wants : (bit_of x (full_rows t n) ≡ 1) × (bit_of x (all_rows n) ≡ 1)
          wants =
              both_one (bit_of x (full_rows t n)) (bit_of x (all_rows n)) (omega arith) (omega arith)
              (sym (bit_and_law x (full_rows t n) (all_rows n)) ∙ e)

          by_wire : Dec (w < n) → Dec (w ≡ n) → bit_of x (get_or ends (pick (ltb w n) (wire_of p w) w) 0) ≡ bit_of x (pick (ltb w n) (get_or t.value w 0) 0)
          by_wire (yes h) d =
              let n4 = width_le n width in
              let c = get_or ends (wire_of p w) 0 in
              let v = get_or t.value w 0 in
              rw (lt-ltb w n h)
              (row_of (full_rows t n) c v x
              (and_comm c (full_rows t n) ∙ fits_rows t n p (rw fin.four n4) n4 ends fin.meets w h ∙ and_comm (full_rows t n) v)
              wants.0)
          by_wire (no h) (yes d) =
              rw (le-ltb w n (omega arith))
              (row_of (all_rows n) (get_or ends w 0) 0 x (ap (λ (i : ℕ). bit_and (get_or ends i 0) (all_rows n)) d ∙ eqb-true (dirt n (get_or ends n 0)) 0 fin.tidied) wants.1)
          by_wire (no h) (no d) = rw (le-ltb w n (omega arith)) (ap (bit_of x) (clear w (omega arith) l))

      end_like : (x : ℕ) → bit_of x (rows_of t n) ≡ 1 → Like x ends (aim_of t n)
      end_like x h w l = end_at x h w l ∙ ap (bit_of x) (sym (aim_at_law t n w l))

start_clear : (n w : ℕ) → Width n → n < w → w < 5 → get_or start_columns w 0 ≡ 0
unfolding start_columns
start_clear n w width h l =
    let e : w ≡ 4 = ⊎_elim (λ (d : n ≡ 3). omega arith) (λ (d : n ≡ 4). omega arith) width in
    rw e

-- a set that has every state within the radius of what is wanted is a sieve
pub sieve_of : (bits gates : List ℕ) (r : Reach) (k : ℕ) (t : Wanted) (n free : ℕ) → Sound gates r n free → r.rows ≡ rows_of t n
    → Near (Seen bits r) gates (aim_of t n) r.radius → Sieve bits r gates k t n free
sieve_of bits gates r k t n free sound rows near = record {
  seen = λ l e p al ae fin short.
      let cs = columns_after l start_columns in
      let width = fin.width in
      let m = fin.laid in
      let mi = mirrored gates r n free sound p width m e ae in
      let clear : (w : ℕ) → n < w → w < 5 → get_or (columns_after e cs) w 0 ≡ 0 = λ w h h5.
      idle gates r n free sound w h e cs ae ∙ idle gates r n free sound w h l start_columns al ∙ start_clear n w width h h5 in
      let long = mi.1.1.0 in
      seen_turned gates r n free sound p width m cs (back columns_over mi.0 (aim_of t n))
      (λ x hx.
      let h = rw rows at hx in
      mi.1.1.1 x cs (aim_of t n) (row_lt (rows_of t n) (rows_lt t n width) x h) fin.five (aim_length t n) (end_like gates r n free sound p width m t k cs e fin clear x h))
      bits
      (near_start (Seen bits r) gates mi.0 (aim_of t n) r.radius mi.1.0 (omega arith) near);
}

lit_none : (k : ℕ) → lit_at [] k ≡ true
unfolding lit_at
lit_none k = rw (le-leb 0 (k / 4096) (omega arith))

-- no bits at all rule nothing out
pub no_sieve : (gates : List ℕ) (r : Reach) (k : ℕ) (t : Wanted) (n free : ℕ) → Sieve [] r gates k t n free
no_sieve gates r k t n free = record { seen = λ l e p al ae fin short a b. lit_none (key_of r.size (part_of (shares_of r (columns_after l start_columns)) a b)) }

key_none : (size h : ℕ) → size ≡ 0 → key_of size h ≡ 0
unfolding key_of
key_none size h e = rw e (omega arith)

-- nor does a filter of no bits, once a state is in it
pub wide_sieve : (bits gates : List ℕ) (r : Reach) (k : ℕ) (t : Wanted) (n free : ℕ) (cs : List ℕ) → r.size ≡ 0 → Seen bits r cs → Sieve bits r gates k t n free
wide_sieve bits gates r k t n free cs e s = record {
  seen = λ l m p al am fin short a b.
      ap (lit_at bits) (key_none r.size (part_of (shares_of r (columns_after l start_columns)) a b) e ∙ sym (key_none r.size (part_of (shares_of r cs) a b) e)) ∙ s a b;
}

-- a set that was filled for the filter where it is sound, and else for one of no bits
pub either_sieve : (bits gates : List ℕ) (r u : Reach) (good : Bool) (k : ℕ) (t : Wanted) (n free : ℕ) → u ≡ pick good r (emptied r) → (good ≡ true → Sound gates r n free)
    → r.rows ≡ rows_of t n → Near (Seen bits u) gates (aim_of t n) u.radius → Sieve bits u gates k t n free
unfolding emptied
either_sieve bits gates r u true k t n free e sound rows near =
    subst (λ (v : Reach). Sieve bits v gates k t n free) (sym e)
    (sieve_of bits gates r k t n free (sound refl) rows (subst (λ (v : Reach). Near (Seen bits v) gates (aim_of t n) v.radius) e near))
either_sieve bits gates r u false k t n free e sound rows near =
    subst (λ (v : Reach). Sieve bits v gates k t n free) (sym e)
    (wide_sieve bits gates (emptied r) k t n free (aim_of t n) refl
    (near_here (Seen bits (emptied r)) gates (aim_of t n) 0 (subst (λ (v : Reach). Near (Seen bits v) gates (aim_of t n) v.radius) e near)))
