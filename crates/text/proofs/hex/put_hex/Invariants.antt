-- Invariant: the digits from byte k on, laid over the buffer at hand, give all of them laid over the first one.
use Rattle.std.proofs.Common.{◌≡◌, ◌+◌, ◌*◌, length, drop}
use Rattle.text.specs.pieces.Writing.{over}
use Rattle.text.specs.pieces.Text.{hex_of}
use Rattle.text.proofs.hex.put_hex.Given as goal

abbrev pub invariant-loop-k : goal.invariant-loop-k
invariant-loop-k l = record {
  kept : length l.out ≡ length l.initial.out;
  left : over l.out (l.i + 2 * l.k) (hex_of (drop l.k l.bytes)) ≡ over l.initial.out l.i (hex_of l.bytes);
}
