-- What is printed for a refusal and for a pass, and the report on an answer of `verify`.
use Rattle.std.specs.Prelude.{List, ◌++◌, ℕ, Result, Ok, Err}
use Rattle.logic.specs.Answers.{Answer, refused, answered}
use Rattle.circuit.specs.declared.measures.Measures.{Measures}
use Rattle.logic.specs.Words.{bytes}
use Rattle.text.specs.pieces.Text.{decimal, spaced, line_feed, refused_line}
use Rattle.reports.specs.sentences.Meanings.{meaning}

-- `passed GATES COST DEPTH`
unfoldable pub passed_line : Measures → List ℕ
passed_line m = bytes "passed " ++ (spaced m.gates ++ (spaced m.cost ++ (decimal m.depth ++ line_feed)))

-- when each of five wires comes free; 0 for a wire that the circuit does not have
unfoldable pub times : Measures → List ℕ
times m = spaced m.ready0 ++ (spaced m.ready1 ++ (spaced m.ready2 ++ (spaced m.ready3 ++ decimal m.ready4)))

-- `ready TIME TIME TIME TIME TIME`
unfoldable pub ready_line : Measures → List ℕ
ready_line m = bytes "ready " ++ (times m ++ line_feed)

-- both lines of a pass
unfoldable pub passed_text : Measures → List ℕ
passed_text m = passed_line m ++ ready_line m

-- `refused NUMBER`, and on a second line what the number means
unfoldable pub refused_text : ℕ → List ℕ
refused_text code = refused_line code ++ (meaning code ++ line_feed)

-- an answer whose refusal is given as a number, also one that no call answers
abbrev pub numbered : Result Measures ℕ → Answer Measures
numbered (Ok m) = answered m
numbered (Err code) = refused code

-- the report on an answer of `verify`
unfoldable pub report_of : Answer Measures → List ℕ
report_of (refused code) = refused_text code
report_of (answered m) = passed_text m
