-- The letters are compared one by one. Invariant: the rest of the text begins with the letters that are left exactly if the text begins with
-- all of them.
use Rattle.std.proofs.Common.{◌≡◌, drop}
use Rattle.revlib.specs.Reading.{starts}
use Rattle.revlib_reader.specs.keywords.Words.{letters_line}
use Rattle.revlib_reader.proofs.keywords.letters_here.Given as goal

abbrev pub invariant-loop-x : goal.invariant-loop-x
invariant-loop-x l = starts (letters_line (drop l.x-index l.letters)) l.left ≡ starts (letters_line l.letters) l.s
