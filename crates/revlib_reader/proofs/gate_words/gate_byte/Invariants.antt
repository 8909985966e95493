-- The bits of the controls are added to the target's. Invariant: those still to be added make up the byte, and each adds at most 32.
use Rattle.std.proofs.Common.{◌≡◌, ◌+◌, ◌*◌, ◌≤◌, drop}
use Rattle.revlib.specs.Grammar.{gate_byte}
use Rattle.revlib_reader.proofs.gate_words.Letters.{bits}
use Rattle.revlib_reader.proofs.gate_words.gate_byte.Given as goal

abbrev pub invariant-loop-x : goal.invariant-loop-x
invariant-loop-x l = record {
  owed : l.byte + bits l.letters (drop l.x-index l.controls) ≡ gate_byte l.letters l.line;
  bound : l.byte ≤ 160 + 32 * l.x-index;
}
