-- What a sieve cuts: a state that is not in it, a gate after which too few gates may come for its target, or for any two targets.
use mathlib.Core.Path.{◌≡◌, sym, ap, ◌∙◌, subst}
use mathlib.Core.Bool.{true}
use mathlib.Core.List.{List, [], ◌∷◌, ◌++◌}
use Prim.Native.Nat.{ℕ, ◌+◌, ◌≤◌, ◌<◌}
use native.Mathlib.Decide.{ℕ_discrete, dec_le}
use native.Mathlib.Omega.{arith}
use borrow.Author.Tests.{eq-eqb, le-leb, lt-leb}
use lib.Bits.{bit_and}
use lib.Dec.{eqb, leb}
use lib.ListN.{length, get_or}
use Rattle.logic.specs.Rules.{pick, some_below}
use Rattle.logic.specs.Lists.{along, Among}
use Rattle.logic.proofs.Counts.{some_at}
use Rattle.logic.proofs.Fold.{along_append}
use Rattle.logic.proofs.Members.{among_nil, among_cons, among_append, among_head, among_tail}
use Rattle.gate.specs.Gates.{target_of, gate_of}
use Rattle.gate.specs.Inner.{column_step}
use Rattle.gate.proofs.Widen.{parts}
use Rattle.circuit.specs.run.Inner.{columns_over, columns_after}
use Rattle.columns.specs.declared.Wanted.{Wanted}
use Rattle.columns.specs.Wanted.{start_columns}
use Rattle.columns.specs.Finish.{Finish}
use Rattle.outputs.proofs.Few.{finish_next, first_lawful}
use Rattle.bloom.specs.declared.hash.Reach.{Reach}
use Rattle.bloom.specs.hash.Reach.{without, share_of, share_at, shares_of, part_of, held, Seen, SeenWithout, open_on}
use Rattle.bloom.specs.bits.Places.{key_of, lit_at}
use Rattle.reach_filter.specs.fill.Sieve.{Sieve}
use Rattle.bloom.proofs.hash.Sums.{sum_same, part_swap}
use Rattle.reach_filter.proofs.fill.Sieves.{kept_column, shares_at}

same_share : (r : Reach) (g : ℕ) (cs : List ℕ) (w : ℕ) → w < 5 → (w ≡ target_of g → ⊥) → get_or (shares_of r (column_step (gate_of g) cs)) w 0 ≡ get_or (shares_of r cs) w 0
unfolding share_at
same_share r g cs w l d =
    shares_at r (column_step (gate_of g) cs) w l
    ∙ ap (λ (c : ℕ). share_of (get_or r.factors w 0) (bit_and c r.rows)) (kept_column g cs w d)
    ∙ sym (shares_at r cs w l)

-- without its target, a gate leaves the hash as it was
part_kept : (r : Reach) (g : ℕ) (cs : List ℕ) (b : ℕ) → part_of (shares_of r (column_step (gate_of g) cs)) (target_of g) b ≡ part_of (shares_of r cs) (target_of g) b
unfolding part_of
part_kept r g cs b =
    sum_same 5 (without t (without b (λ w. get_or (shares_of r next) w 0))) (without t (without b (λ w. get_or (shares_of r cs) w 0))) (λ w l. by_wire w l (ℕ_discrete w t))
  where
    t : ℕ
    t = target_of g

    next : List ℕ
    next = column_step (gate_of g) cs

    by_wire : (w : ℕ) → w < 5 → Dec (w ≡ t) → without t (without b (λ v. get_or (shares_of r next) v 0)) w ≡ without t (without b (λ v. get_or (shares_of r cs) v 0)) w
    by_wire w l (yes e) = rw (eq-eqb w t e)
    by_wire w l (no d) = ap (λ (x : ℕ). pick (eqb w t) 0 (pick (eqb w b) 0 x)) (same_share r g cs w l d)

-- so what leaves a gate's target out is in already
pub seen_next : (bits : List ℕ) (r : Reach) (g : ℕ) (cs : List ℕ) → Seen bits r cs → SeenWithout (target_of g) bits r (column_step (gate_of g) cs)
seen_next bits r g cs seen b = ap (λ (h : ℕ). lit_at bits (key_of r.size h)) (part_kept r g cs b) ∙ seen (target_of g) b

-- without both targets, so do two gates
part_kept_two : (r : Reach) (g h : ℕ) (cs : List ℕ)
    → part_of (shares_of r (column_step (gate_of h) (column_step (gate_of g) cs))) (target_of g) (target_of h) ≡ part_of (shares_of r cs) (target_of g) (target_of h)
part_kept_two r g h cs =
    let next = column_step (gate_of g) cs in
    part_swap (shares_of r (column_step (gate_of h) next)) (target_of g) (target_of h)
    ∙ part_kept r h next (target_of g)
    ∙ part_swap (shares_of r next) (target_of h) (target_of g)
    ∙ part_kept r g cs (target_of h)

module _ (bits : List ℕ) (r : Reach) (gates : List ℕ) (k : ℕ) (t : Wanted) (n free : ℕ) (sieve : Sieve bits r gates k t n free) where
  after_one : (l : List ℕ) (g : ℕ) → columns_after (l ++ (g ∷ [])) start_columns ≡ column_step (gate_of g) (columns_after l start_columns)
  unfolding along
  after_one l g = along_append columns_over l (g ∷ []) start_columns

  -- the state after a gate, where the rest is within the radius
  pub next_seen : (l : List ℕ) (g : ℕ) (e : List ℕ) (p : ℕ) → Among gates l → Among gates (g ∷ e) → Finish k t n free (columns_after l start_columns) (g ∷ e) p
      → length e ≤ r.radius → Seen bits r (column_step (gate_of g) (columns_after l start_columns))
  next_seen l g e p al ag fin short =
      subst (Seen bits r) (after_one l g)
      (sieve.seen (l ++ (g ∷ [])) e p (among_append l (g ∷ []) al (among_cons (among_head ag) among_nil)) (among_tail ag)
      (subst (λ (cs : List ℕ). Finish k t n free cs e p) (sym (after_one l g)) (finish_next k t n free (columns_after l start_columns) g e p fin)) short)

  module _ (l : List ℕ) (g : ℕ) (p : ℕ) (al : Among gates l) where
    abbrev cs : List ℕ
    cs = columns_after l start_columns

    -- a gate that begins a way to finish is open: with the rest within the radius, by its own target
    near_open : (e : List ℕ) → Among gates (g ∷ e) → Finish k t n free cs (g ∷ e) p → length e ≤ r.radius → (b : ℕ) → held bits r.size (shares_of r cs) (target_of g) b ≡ true
    near_open e ag fin short b = rw (← part_kept r g cs b) (next_seen l g e p al ag fin short (target_of g) b)

    -- and with one gate more, by its target and the next one's
    pair_open : (e : List ℕ) → Among gates (g ∷ e) → Finish k t n free cs (g ∷ e) p → length e ≤ r.radius + 1 → some_below 5 (held bits r.size (shares_of r cs) (target_of g)) ≡ true
    unfolding along
    pair_open [] ag fin short = some_at (held bits r.size (shares_of r cs) (target_of g)) 5 0 (omega arith) (near_open [] ag fin (omega arith) 0)
    pair_open (h ∷ e) ag fin short =
        let l₁ = l ++ (g ∷ []) in
        let al₁ = among_append l (g ∷ []) al (among_cons (among_head ag) among_nil) in
        let next = finish_next k t n free cs g (h ∷ e) p fin in
        let fin₁ = subst (λ (ds : List ℕ). Finish k t n free ds (h ∷ e) p) (sym (after_one l g)) next in
        let s = next_seen l₁ h e p al₁ (among_tail ag) fin₁ (omega arith) in
        let s₁ = subst (λ (ds : List ℕ). Seen bits r (column_step (gate_of h) ds)) (after_one l g) s in
        some_at (held bits r.size (shares_of r cs) (target_of g)) 5 (target_of h) (parts k 5 h (first_lawful k t n free (column_step (gate_of g) cs) h e p next)).target
        (rw (← part_kept_two r g h cs) (s₁ (target_of g) (target_of h)))

    pub open_first : (e : List ℕ) (left : ℕ) → Among gates (g ∷ e) → Finish k t n free cs (g ∷ e) p → length e ≤ left
        → open_on bits r (shares_of r cs) left (target_of g) ≡ true
    unfolding open_on
    open_first e left ag fin short = by_radius (dec_le left r.radius) (dec_le left (r.radius + 1))
      where
        by_radius : Dec (left ≤ r.radius) → Dec (left ≤ r.radius + 1)
            → pick (leb left r.radius) (held bits r.size (shares_of r cs) (target_of g) (target_of g))
            (pick (leb left (r.radius + 1)) (some_below 5 (held bits r.size (shares_of r cs) (target_of g))) true)
            ≡ true
        by_radius (yes a) d = rw (le-leb left r.radius a) (near_open e ag fin (omega arith) (target_of g))
        by_radius (no a) (yes b) = rw (lt-leb left r.radius (omega arith), le-leb left (r.radius + 1) b) (pair_open e ag fin (omega arith))
        by_radius (no a) (no b) = rw (lt-leb left r.radius (omega arith), lt-leb left (r.radius + 1) (omega arith))
