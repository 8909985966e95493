-- What running a circuit on a value answers.
use Rattle.std.specs.Prelude.{Bool, true, false, List, ℕ}
use Rattle.logic.specs.Rules.{pick}
use Rattle.logic.specs.Answers.{Answer, answer_of}
use Rattle.circuit.specs.run.Run.{forwards, backwards}
use Rattle.record.specs.circuit_fields.Circuits.{gates}
use Rattle.record.specs.pair_codes.Codes.{run_code}

-- forwards for true, backwards for false
unfoldable pub run_of : Bool → List ℕ → ℕ → Answer ℕ
run_of forth c v = answer_of (run_code c v) (pick forth (forwards (gates c) v) (backwards (gates c) v))

abbrev pub forwards_of : List ℕ → ℕ → Answer ℕ
forwards_of c v = run_of true c v

abbrev pub backwards_of : List ℕ → ℕ → Answer ℕ
backwards_of c v = run_of false c v
