use Prim.Native.Nat.{◌/◌, ◌%◌, ◌^◌}
use native.Mathlib.Omega.{arith}
use borrow.Author.Tests.{le-leb}
use lib.Bits.{bit_or}
use lib.Dec.{eqb}
use lib.ListN.{length, get_or, length-set}
use Rattle.logic.specs.Rules.{both}
use Rattle.logic.specs.Bit.{bit_of}
use Rattle.logic.proofs.Chain.{either_first}
use Rattle.logic.proofs.Bits.{shifted_one}
use Rattle.bloom.specs.bits.Places.{lit_at}
use Rattle.bloom.proofs.hash.Words.{lit_set, grown_set}
use Rattle.bloom.proofs.bits.light.Goals as goal

pub returns-then-i-bits : goal.returns-then-i-bits
returns-then-i-bits c =
    rw (shifted_one (c.args.k / 64 % 64) (omega arith), shifted_one (c.args.k % 64) (omega arith))
    (record { bits_len_unchanged = length-set c.args.bits.now (c.args.k / 4096) (bit_or (bit_or (get_or c.args.bits.now (c.args.k / 4096) 0) (2 ^ (c.args.k / 64 % 64))) (2 ^ (c.args.k % 64))); grown = grown_set c.args.bits.now c.args.k (omega arith); k_after = lit_set c.args.bits.now c.args.k (omega arith) })

pub returns-else-i-bits-clause-k_after : goal.returns-else-i-bits-clause-k_after
unfolding lit_at
returns-else-i-bits-clause-k_after c = let w = get_or c.args.bits.now (c.args.k / 4096) 0 in either_first _ (both (eqb (bit_of (c.args.k / 64 % 64) w) 1) (eqb (bit_of (c.args.k % 64) w) 1)) (le-leb (length c.args.bits.now) (c.args.k / 4096) (omega arith))
