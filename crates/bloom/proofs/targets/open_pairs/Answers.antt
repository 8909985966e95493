-- Each pair is looked up once, and counts for both of its wires.
use mathlib.Core.Path.{◌≡◌, ap, ◌∙◌}
use Prim.Native.Nat.{ℕ, ◌+◌, ◌*◌}
use native.Mathlib.Omega.{arith}
use Rattle.logic.specs.Rules.{bit, some_below}
use Rattle.logic.specs.Bit.{bit_of}
use Rattle.logic.proofs.Counts.{bit_le}
use Rattle.bloom.specs.hash.Reach.{held}
use Rattle.bloom.specs.bits.Places.{key_of, lit_at}
use Rattle.bloom.proofs.hash.Sums.{part_swap}
use Rattle.bloom.proofs.hash.Words.{spelt}
use Rattle.bloom.proofs.targets.open_pairs.Goals as goal

pub returns : goal.returns
returns c =
    λ w l.
    let h = held c.args.bits.now c.args.size c.args.shares in
    let swap : (v u : ℕ) → h v u ≡ h u v = λ v u. ap (λ (x : ℕ). lit_at c.args.bits.now (key_of c.args.size x)) (part_swap c.args.shares v u) in
    let q0 = c.any_of.ensures.by_index (h 0) c.holds-aa.ensures c.holds-ab.ensures c.holds-ac.ensures c.holds-ad.ensures c.holds-ae.ensures in
    let q1 = c.any_of-2.ensures.by_index (h 1) (c.holds-ab.ensures ∙ swap 0 1) c.holds-bb.ensures c.holds-bc.ensures c.holds-bd.ensures c.holds-be.ensures in
    let q2 = c.any_of-3.ensures.by_index (h 2) (c.holds-ac.ensures ∙ swap 0 2) (c.holds-bc.ensures ∙ swap 1 2) c.holds-cc.ensures c.holds-cd.ensures c.holds-ce.ensures in
    let q3 = c.any_of-4.ensures.by_index (h 3) (c.holds-ad.ensures ∙ swap 0 3) (c.holds-bd.ensures ∙ swap 1 3) (c.holds-cd.ensures ∙ swap 2 3) c.holds-dd.ensures c.holds-de.ensures in
    let q4 = c.any_of-5.ensures.by_index (h 4) (c.holds-ae.ensures ∙ swap 0 4) (c.holds-be.ensures ∙ swap 1 4) (c.holds-ce.ensures ∙ swap 2 4) (c.holds-de.ensures ∙ swap 3 4) c.holds-ee.ensures in
    (λ i. bit_of w (q0 i + 2 * q1 i + 4 * q2 i + 8 * q3 i + 16 * q4 i))
    ∙ spelt (λ v. bit (some_below 5 (h v))) (λ v. omega (arith, bit_le (some_below 5 (h v)))) w l
