-- The sign by both tests: one byte, or none.
use mathlib.Core.Path.{◌≡◌, sym, ap, ◌∙◌}
use mathlib.Core.Bool.{true, false}
use borrow.Author.Tests.{eq-eqb, ne_eqb}
use lib.IntN.{ℤ, pos, nat_abs}
use lib.Signed.{lt_z}
use mir.Syntax.{w32}
use mir.Val.{to_z, of_z}
use mir.ValLaws.{to_z-of_z}
use Rattle.text.proofs.pieces.Pieces.{none}
use Rattle.printed.specs.differences.Differences.{sign}
use Rattle.printed.proofs.differences.put_sign.Goals as goal
use Rattle.printed.proofs.differences.put_sign.Goals.{Start}

-- the difference as the two tests are given it
same : (s : Start) → to_z w32 (of_z w32 s.args.difference) ≡ s.args.difference
same s = to_z-of_z w32 s.args.difference s.ranges.difference

pub returns-then-is_negative : goal.returns-then-is_negative
unfolding sign
returns-then-is_negative c =
    let e : lt_z c.args.difference (pos 0) ≡ true
    = ap (λ (z : ℤ). lt_z z (pos 0)) (sym (same (goal.at.returns-then-is_negative c).Start)) ∙ sym c.is_negative.ensures ∙ c.if-is_negative.true in
    rw e c.put.ensures

pub returns-then-distance-eq0 : goal.returns-then-distance-eq0
unfolding sign
returns-then-distance-eq0 c =
    let e : lt_z c.args.difference (pos 0) ≡ false
    = ap (λ (z : ℤ). lt_z z (pos 0)) (sym (same (goal.at.returns-then-distance-eq0 c).Start)) ∙ sym c.is_negative.ensures ∙ c.if-is_negative.false in
    let f : nat_abs c.args.difference ≡ 0 = ap nat_abs (sym (same (goal.at.returns-then-distance-eq0 c).Start)) ∙ sym c.distance.ensures ∙ c.if-distance-eq0.true in
    rw (e, eq-eqb (nat_abs c.args.difference) 0 f) (none c.args.out.now c.args.i)

pub returns : goal.returns
unfolding sign
returns c =
    let e : lt_z c.args.difference (pos 0) ≡ false
    = ap (λ (z : ℤ). lt_z z (pos 0)) (sym (same (goal.at.returns c).Start)) ∙ sym c.is_negative.ensures ∙ c.if-is_negative.false in
    let f = ne_eqb (nat_abs c.args.difference) 0 (λ z. c.if-distance-eq0.false (c.distance.ensures ∙ ap nat_abs (same (goal.at.returns c).Start) ∙ z)) in
    rw (e, f) c.put-2.ensures
