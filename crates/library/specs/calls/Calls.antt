-- What `verify_with` and `search_with` answer.
use Rattle.std.specs.Prelude.{List, ℕ, leb}
use Rattle.logic.specs.Rules.{rule, and_then}
use Rattle.logic.specs.Lists.{all_of}
use Rattle.logic.specs.Answers.{Answer, answer_of}
use Rattle.record.specs.JobRules.{job_code}
use Rattle.record.specs.circuit_fields.Circuits.{gates}
use Rattle.circuit.specs.declared.measures.Measures.{Measures}
use Rattle.circuit.specs.measures.Measures.{measures_of}
use Rattle.verify.specs.Calls.{verify_rest}
use Rattle.record.specs.pair_codes.Codes.{circuit_code_for}
use Rattle.problem.specs.Problems.{Problem}
use Rattle.outcomes.specs.Outcomes.{GateSet, problem_over, Found, search_over}
use Rattle.library.specs.entries.Library.{gates_in, price_in, duration_in, listed, library_code}

-- 29 and 30, "both directly after the job's own checks"
unfoldable pub job_with_code : List ℕ → List ℕ → ℕ
job_with_code job lib = and_then (job_code job) (library_code job lib)

-- then the circuit's own checks, 12 and 28
unfoldable pub circuit_with_code : List ℕ → List ℕ → List ℕ → ℕ
circuit_with_code job lib c = and_then (job_with_code job lib) (circuit_code_for job c)

-- the library as a set of gates: "judge and search use its gates, prices and durations in place of the job's"
abbrev pub set_in : List ℕ → GateSet
set_in lib = record { gates = gates_in lib; price = price_in lib; duration = duration_in lib }

-- "the least and 'none' are over lists of those gates alone"
abbrev pub problem_with : List ℕ → List ℕ → Problem
problem_with job lib = problem_over (set_in lib) job

-- the job's checks, 29 and 30, then 13
unfoldable pub search_with_code : List ℕ → List ℕ → ℕ → ℕ
search_with_code job lib room = and_then (job_with_code job lib) (rule (leb 15 room) 13 0)

-- the search over the library's gates, with `room` bytes for the answer
unfoldable pub search_with : List ℕ → List ℕ → ℕ → Answer Found
search_with job lib room = search_over (set_in lib) job (search_with_code job lib room)

-- the measures of a circuit at the library's prices and durations
abbrev pub measures_in : List ℕ → List ℕ → Measures
measures_in lib c = measures_of (price_in lib) (duration_in lib) (gates c)

-- "31, in judging, a gate absent from the table, directly after 28", then the rest of verifying
unfoldable pub rest_with_code : List ℕ → List ℕ → List ℕ → Measures → ℕ
rest_with_code job lib c m = rule (all_of (listed lib) (gates c)) 31 (verify_rest job c m)

-- all rules of verifying in order, with the measures at the library's prices and durations
unfoldable pub verify_with_code : List ℕ → List ℕ → List ℕ → ℕ
verify_with_code job lib c = and_then (circuit_with_code job lib c) (rest_with_code job lib c (measures_in lib c))

-- the refusal code, or the measures of a pass
unfoldable pub verify_with : List ℕ → List ℕ → List ℕ → Answer Measures
verify_with job lib c = answer_of (verify_with_code job lib c) (measures_in lib c)
