-- Each letter is looked up among those after it. Invariant: the letters from i on are different exactly if all are.
use Rattle.std.proofs.Common.{◌≡◌, drop}
use Rattle.revlib.specs.Grammar.{different}
use Rattle.revlib_reader.proofs.gate_words.different.Given as goal

abbrev pub invariant-loop-i : goal.invariant-loop-i
invariant-loop-i l = different (drop l.i l.list) ≡ different l.list
