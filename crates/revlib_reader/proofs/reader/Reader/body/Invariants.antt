-- Each turn reads one line more. Invariant: the reader is over the text passed, and the body holds what stands before its position (`Reached`).
-- The measure is the number of bytes ahead of it.
use Rattle.std.proofs.Common.{◌≡◌, ◌-◌}
use Rattle.revlib_reader.specs.reader.Steps.{letters_of}
use Rattle.revlib_reader.proofs.reader.Bodies.{Reached}
use Rattle.revlib_reader.proofs.reader.Reader.body.Given as goal

abbrev pub invariant-loop-byte : goal.invariant-loop-byte
invariant-loop-byte l = record {
  over : l.self.src ≡ l.initial.self.src;
  reached : Reached (letters_of l.head) l.initial.self.src.now l.initial.self.at l.self.at l.body;
}

abbrev pub decreases-loop-byte : goal.decreases-loop-byte
decreases-loop-byte l = 4096 - l.self.at
