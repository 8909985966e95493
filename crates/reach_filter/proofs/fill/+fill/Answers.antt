use mathlib.Core.Path.{◌∙◌, subst}
use mathlib.Core.List.{List}
use Prim.Native.Nat.{ℕ, ◌-◌}
use native.Mathlib.Omega.{arith}
use borrow.Author.Count.{below_more}
use lib.ListN.{get_or}
use Rattle.gate.specs.Gates.{gate_of}
use Rattle.gate.specs.Inner.{column_step}
use Rattle.bloom.specs.hash.Reach.{Seen}
use Rattle.bloom.proofs.hash.Joined.{seen_joined}
use Rattle.reach_filter.specs.fill.Sieve.{Near}
use Rattle.reach_filter.proofs.fill.Nearby.{near_none, near_more, near_map}
use Rattle.reach_filter.proofs.fill.Cuts.{seen_next}
use Rattle.reach_filter.proofs.fill.+fill.Goals as goal

pub returns-then-k-eq0-clause-near : goal.returns-then-k-eq0-clause-near
returns-then-k-eq0-clause-near t c = let seen = seen_joined c.note.new.bits c.args.reach c.args.columns c.args.but c.note.ensures.seen_but (λ b. c.note.ensures.grown _ (c.requires b)) in near_none (Seen c.note.new.bits c.args.reach) c.args.gates.now c.args.columns c.args.k c.if-k-eq0.true seen

pub fill-requires : goal.fill-requires
fill-requires t c =
    let g = get_or c.args.gates.now c.loop-g.g-index 0 in
    let first = seen_joined c.note.new.bits c.args.reach c.args.columns c.args.but c.note.ensures.seen_but (λ b. c.note.ensures.grown _ (c.requires b)) in
    let seen : Seen c.loop-g.bits c.args.reach c.args.columns = λ x y. c.loop-g.invariant.2 _ (first x y) in
    (omega arith, rw (c.from.ensures, c.step-next.ensures) (seen_next c.loop-g.bits c.args.reach g c.args.columns seen))

pub loop-g-preserved : goal.loop-g-preserved
loop-g-preserved t c = (
  c.loop-g.invariant.0,
  c.fill.ensures.bits_len_unchanged ∙ c.loop-g.invariant.1,
  (λ k h. c.fill.ensures.grown k (c.loop-g.invariant.2 k h)),
  below_more (λ (j : ℕ). Near (Seen c.fill.new.bits c.args.reach) c.args.gates.now (column_step (gate_of (get_or c.args.gates.now j 0)) c.args.columns) (c.args.k - 1)) c.loop-g.g-index
      (λ j l. near_map (Seen c.loop-g.bits c.args.reach) (Seen c.fill.new.bits c.args.reach) c.args.gates.now (λ cs h x y. c.fill.ensures.grown _ (h x y)) (column_step (gate_of (get_or c.args.gates.now j 0)) c.args.columns) (c.args.k - 1) (c.loop-g.invariant.3 j l))
      (subst (λ (cs : List ℕ). Near (Seen c.fill.new.bits c.args.reach) c.args.gates.now cs (c.args.k - 1)) c.step-next.ensures c.fill.ensures.near),
)

pub returns-clause-near : goal.returns-clause-near
returns-clause-near t c = let first = seen_joined c.note.new.bits c.args.reach c.args.columns c.args.but c.note.ensures.seen_but (λ b. c.note.ensures.grown _ (c.requires b)) in near_more (Seen c.loop-g.bits c.args.reach) c.args.gates.now c.args.columns c.args.k c.loop-g.invariant.0 (λ x y. c.loop-g.invariant.2 _ (first x y)) (λ j l. c.loop-g.invariant.3 j (omega arith))
