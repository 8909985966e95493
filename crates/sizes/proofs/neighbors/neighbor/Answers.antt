use mathlib.Core.Path.{◌≡◌, refl, sym, subst}
use Prim.Native.Nat.{ℕ, ◌+◌, ◌-◌, ◌*◌, ◌/◌, ◌≤◌, ◌<◌}
use native.Mathlib.Nat.{zero-add, div-le_self}
use native.Mathlib.Omega.{arith}
use Rattle.gate.proofs.Undo.{stay}
use Rattle.sizes.specs.permutations.Orders.{factorial}
use Rattle.sizes.specs.permutations.Inner.{neighbor_of}
use Rattle.sizes.proofs.neighbors.Digits.{one_less, one_less_pos, share_most, digit_turn, digits_done}
use Rattle.sizes.proofs.neighbors.neighbor.Goals as goal
use Rattle.sizes.proofs.neighbors.neighbor.Goals.{After-lesser, After-step-y, In-loop-n}

-- a turn divides by n + 1, where n is the number of values to come after it
back : (n : ℕ) → 0 < n → n - 1 + 1 ≡ n
back n h = omega arith

module _ (c : In-loop-n) where
  divisor : c.loop-n.n - 1 + 1 ≡ c.loop-n.n
  divisor = back c.loop-n.n c.loop-n-test.true

  turned : c.loop-n.orders / (c.loop-n.n - 1 + 1) ≡ factorial (c.loop-n.n - 1)
  turned = rw divisor (one_less c.loop-n.n c.loop-n.orders c.loop-n-test.true c.loop-n.invariant.0)

  pos : 0 < c.loop-n.orders / (c.loop-n.n - 1 + 1)
  pos = rw divisor (one_less_pos c.loop-n.n c.loop-n.orders c.loop-n-test.true c.loop-n.invariant.0)

  most : c.loop-n.orders / (c.loop-n.n - 1 + 1) ≤ 40320
  most = let h = c.loop-n.invariant.1.0 in omega (arith, div-le_self c.loop-n.orders (c.loop-n.n - 1 + 1))

-- the value that the gate makes is one of eight
made-low : (c : After-step-y) → c.step-y.result < 8
made-low c =
    subst (λ (y : ℕ). y < 8) (sym c.step-y.ensures)
    (stay 2 3 c.args.g c.member-x.result c.requires c.member-x.ensures.upper_bound)

share : (c : After-lesser) → c.lesser.result * (c.loop-n.orders / (c.loop-n.n - 1 + 1)) ≤ 322560
share c = share_most c.lesser.result _ c.lesser.ensures.upper_bound (most c.before.before.before)

pub loop-n-init : goal.loop-n-init
unfolding factorial neighbor_of
loop-n-init c = (refl, (omega arith, (omega arith, zero-add _)))

pub nonzero_div-rest : goal.nonzero_div-rest
nonzero_div-rest c = pos (goal.at.nonzero_div-rest c).In-loop-n

pub lesser-requires : goal.lesser-requires
lesser-requires c = made-low (goal.at.lesser-requires c).After-step-y

pub flip-to-requires : goal.flip-to-requires
flip-to-requires c = made-low (goal.at.flip-to-requires c).After-step-y

pub nonzero_rem-rest : goal.nonzero_rem-rest
nonzero_rem-rest c = pos (goal.at.nonzero_rem-rest c).In-loop-n

pub loop-n-preserved : goal.loop-n-preserved
loop-n-preserved c = (
  turned (goal.at.loop-n-preserved c).In-loop-n,
  (
    most (goal.at.loop-n-preserved c).In-loop-n,
    (
      let h = share (goal.at.loop-n-preserved c).After-lesser in let k = c.loop-n.invariant.1.1.0 in let t = c.loop-n-test.true in omega (arith, c.loop-n.auto),
      digit_turn c.args.g c.loop-n.n c.loop-n.from c.loop-n.to c.loop-n.rest c.loop-n.place c.member-x.result c.step-y.result
          c.lesser.result (c.loop-n.orders / (c.loop-n.n - 1 + 1)) c.flip-from.result c.flip-to.result (neighbor_of c.args.g c.args.r) c.loop-n-test.true
          (turned (goal.at.loop-n-preserved c).In-loop-n)
          c.member-x.ensures.value c.step-y.ensures c.lesser.ensures.value c.flip-from.ensures c.flip-to.ensures
          c.loop-n.invariant.1.1.1,
    ),
  ),
)

pub returns : goal.returns
returns c = digits_done c.args.g c.loop-n.n c.loop-n.from c.loop-n.to c.loop-n.rest c.loop-n.place (neighbor_of c.args.g c.args.r) (let h = c.loop-n-test.false in omega arith) c.loop-n.invariant.1.1.1
