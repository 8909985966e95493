-- With free layouts the data wires are asked one by one, with the fixed layout each output on its own wire.
use mathlib.Core.Bool.{false}
use mathlib.Core.Path.{ap, ◌∙◌}
use Prim.Native.Nat.{ℕ}
use lib.Bits.{bit_or}
use lib.Dec.{eqb}
use lib.ListN.{get_or}
use Rattle.logic.specs.Rules.{pick, bit}
use Rattle.repairs.specs.matches.Inner.{hits_of, lack_of}
use Rattle.repairs.proofs.matches.Joined.{free_mendable, fixed_mendable}
use Rattle.repairs.proofs.repairable.mendable.Goals as goal

pub returns-then-free-eq1 : goal.returns-then-free-eq1
returns-then-free-eq1 c =
    ap (λ x. bit_or x (bit_or c.wire_hits-then-free-eq1.result (bit_or c.wire_hits-then-free-eq1-2.result c.wire_hits-then-free-eq1-3.result))) c.picked.ensures
    ∙ free_mendable false c.args.t c.args.columns c.args.n c.requires c.args.free c.if-free-eq1.true _ c.products-ps.ensures _ _ _ _
    c.wire_hits-then-free-eq1-3.ensures c.wire_hits-then-free-eq1-2.ensures c.wire_hits-then-free-eq1.ensures c.wire_hits.ensures

pub returns-else-free-eq1 : goal.returns-else-free-eq1
returns-else-free-eq1 c =
    let rows = c.picked-last.ensures ∙ ap (λ (x : ℕ). pick (eqb c.args.n 4) x 0) c.misses.ensures in
    let l₀ = c.lack_of.ensures ∙ (λ i. lack_of (c.others.ensures i) (get_or c.args.t.care 0 0) (c.misses-else-free-eq1.ensures i)) in
    let l₁ = c.lack_of-else-free-eq1.ensures ∙ (λ i. lack_of (c.others-else-free-eq1.ensures i) (get_or c.args.t.care 1 0) (c.misses-else-free-eq1-2.ensures i)) in
    let l₂ = c.lack_of-else-free-eq1-2.ensures ∙ (λ i. lack_of (c.others-else-free-eq1-2.ensures i) (get_or c.args.t.care 2 0) (c.misses-else-free-eq1-3.ensures i)) in
    let l₃ = c.lack_of-else-free-eq1-3.ensures ∙ (λ i. lack_of (c.others-else-free-eq1-3.ensures i) (get_or c.args.t.care 3 0) (rows i)) in
    c.hits.ensures
    ∙ (λ i. bit (hits_of c.products-ps.result (l₀ i) (l₁ i) (l₂ i) (l₃ i)))
    ∙ ap bit (fixed_mendable false c.args.t c.args.columns c.args.n c.requires c.args.free c.if-free-eq1.false _ c.products-ps.ensures)
