-- The samples marked P in document 01, and a smallest record for each refusal code, as rows of one table. Gate and layout bytes stand in
-- hexadecimal, as in document 01.
use Rattle.std.specs.Prelude.{ℕ, suc, ◌+◌, Bool, true, false, not, List, [], ◌∷◌, map, eqb}
use Rattle.std.specs.Int.Count.{ones}
use Rattle.logic.specs.Rules.{both, either, pick}
use Rattle.logic.specs.Answers.{Answer, refused, answered}
use Rattle.gate.specs.declared.Kind.{Kind}
use Rattle.gate.specs.declared.Kind.TheVariants.{Not, Cnot, Toffoli, Cccnot}
use Rattle.gate.specs.Gates.{mask_of, lawful, step, gate_of}
use Rattle.circuit.specs.declared.Weights.{Weights}
use Rattle.circuit.specs.Measure.{weight_of, cost, depth}
use Rattle.record.specs.JobRules.{job_code}
use Rattle.record.specs.circuit_rules.CircuitRules.{circuit_code}
use Rattle.record.specs.Answers.{check_of}
use Rattle.circuit.specs.declared.measures.Measures.{Measures}
use Rattle.circuit.specs.measures.Measures.{ready_of}
use Rattle.verify.specs.Calls.{measure_of, verify_of}
use Rattle.verify.specs.runs.Runs.{forwards_of, backwards_of}
use Rattle.parity.specs.Parity.{Parity, even, odd, neither, parity_of}
use Rattle.problem.specs.order.Choices.{lex_less}
use Rattle.outcomes.specs.Outcomes.{Found, search_of}

-- a row of the table: which definition it is about, its arguments, and the result
pub data Sample : Type 0 where
  toffoli : (byte target low high : ℕ) → Sample
  turns : (byte value result : ℕ) → Sample
  is_lawful : (most wires byte : ℕ) → Sample
  is_unlawful : (most wires byte : ℕ) → Sample
  controls : (byte count : ℕ) → Sample
  costs : (gates : List ℕ) (sum : ℕ) → Sample
  deep : (gates : List ℕ) (time : ℕ) → Sample
  has_parity : (job : List ℕ) (parity : Parity) → Sample
  parity_refused : (job : List ℕ) (code : ℕ) → Sample
  job_sound : (job : List ℕ) → Sample
  job_refused : (job : List ℕ) (code : ℕ) → Sample
  circuit_sound : (circuit : List ℕ) → Sample
  circuit_refused : (circuit : List ℕ) (code : ℕ) → Sample
  runs : (circuit : List ℕ) (value forth back : ℕ) → Sample
  run_refused : (circuit : List ℕ) (value code : ℕ) → Sample
  measures : (job circuit : List ℕ) (gates cost depth : ℕ) (ready : List ℕ) → Sample
  measure_refused : (job circuit : List ℕ) (code : ℕ) → Sample
  passes : (job circuit : List ℕ) (gates cost depth : ℕ) (ready : List ℕ) → Sample
  verify_refused : (job circuit : List ℕ) (code : ℕ) → Sample
  finds : (job circuit : List ℕ) → Sample
  search_refused : (job : List ℕ) (room code : ℕ) → Sample

-- the kind is a Toffoli with the controls a and b
abbrev toffoli_on : Kind → ℕ → ℕ → Bool
toffoli_on Not a b = false
toffoli_on (Cnot c) a b = false
toffoli_on (Toffoli c d) a b = both (eqb c a) (eqb d b)
toffoli_on (Cccnot c d e) a b = false

-- "Prices 1, 1, 5 and durations 1, 1, 7"
abbrev pub sample_prices : Weights
sample_prices = record { not = 1; cnot = 1; toffoli = 5; cccnot = 0 }

abbrev pub sample_durations : Weights
sample_durations = record { not = 1; cnot = 1; toffoli = 7; cccnot = 0 }

-- a job of four data wires and wide limits that wants every bit of these values
abbrev full4 : List ℕ → List ℕ
full4 values = 0x80 ∷ 12 ∷ 255 ∷ 255 ∷ 255 ∷ 255 ∷ 1 ∷ 1 ∷ 5 ∷ 1 ∷ 1 ∷ 7 ∷ map (λ v. 0xF0 + v) values

-- a job of 20 bytes: its byte 0, its three limits, the duration of a NOT, and its rows
abbrev short : (head gates cost depth duration : ℕ) → List ℕ → List ℕ
short head gates cost depth duration rows = head ∷ gates ∷ 0 ∷ cost ∷ 0 ∷ depth ∷ 1 ∷ 1 ∷ 5 ∷ duration ∷ 1 ∷ 7 ∷ rows

-- a longer job: its byte 0, its three limits, the duration of a three-control gate, and its rows
abbrev long : (head gates cost depth duration : ℕ) → List ℕ → List ℕ
long head gates cost depth duration rows = head ∷ gates ∷ 0 ∷ cost ∷ 0 ∷ depth ∷ 1 ∷ 1 ∷ 5 ∷ 9 ∷ 1 ∷ 1 ∷ 7 ∷ duration ∷ rows

-- rows 7 and 15 of four data wires exchanged
abbrev exchanged : List ℕ
exchanged = map (λ v. 0xF0 + v) (0 ∷ 1 ∷ 2 ∷ 3 ∷ 4 ∷ 5 ∷ 6 ∷ 15 ∷ 8 ∷ 9 ∷ 10 ∷ 11 ∷ 12 ∷ 13 ∷ 14 ∷ 7 ∷ [])

-- eight rows that begin with these two and want nothing else
abbrev two : ℕ → ℕ → List ℕ
two x y = x ∷ y ∷ 0 ∷ 0 ∷ 0 ∷ 0 ∷ 0 ∷ 0 ∷ []

-- a job of three data wires that wants no bit, with these limits
abbrev anything : (gates cost depth : ℕ) → List ℕ
anything gates cost depth = short 0x60 gates cost depth 1 (two 0 0)

-- a job of three data wires and limits 0 that wants every bit of these values
abbrev full3 : List ℕ → List ℕ
full3 values = short 0x60 0 0 0 1 (map (λ v. 0x70 + v) values)

-- circuits of three data wires with plain layout: without a gate, and with one NOT
abbrev empty : List ℕ
empty = 0x60 ∷ 0x18 ∷ 0 ∷ []

abbrev one_not : List ℕ
one_not = 0x60 ∷ 0x18 ∷ 1 ∷ 0x00 ∷ []

-- tests of an answer
abbrev refused_by : {A : Type 0} → ℕ → Answer A → Bool
refused_by code (refused n) = eqb n code
refused_by code (answered a) = false

abbrev is_answered : {A : Type 0} → Answer A → Bool
is_answered (refused n) = false
is_answered (answered a) = true

abbrev gives_value : ℕ → Answer ℕ → Bool
gives_value v (refused n) = false
gives_value v (answered w) = eqb w v

abbrev same : List ℕ → List ℕ → Bool
same xs ys = not (either (lex_less xs ys) (lex_less ys xs))

abbrev gives_measures : (gates cost depth : ℕ) → List ℕ → Answer Measures → Bool
gives_measures g c d ts (refused n) = false
gives_measures g c d ts (answered m) = both (eqb m.gates g) (both (eqb m.cost c) (both (eqb m.depth d) (same (ready_of m) ts)))

abbrev gives_record : List ℕ → Answer Found → Bool
gives_record bytes (refused n) = false
gives_record bytes (answered f) = same f.bytes bytes

abbrev parity_number : Parity → ℕ
parity_number even = 0
parity_number odd = 1
parity_number neither = 2

abbrev gives_parity : Parity → Answer Parity → Bool
gives_parity p (refused n) = false
gives_parity p (answered q) = eqb (parity_number q) (parity_number p)

-- a row holds: the definition gives the result
unfoldable pub holds : Sample → Bool
holds (toffoli b t low high) = both (eqb (gate_of b).target t) (toffoli_on (gate_of b).kind low high)
holds (turns b v r) = eqb (step b v) r
holds (is_lawful k w b) = lawful k w b
holds (is_unlawful k w b) = not (lawful k w b)
holds (controls b n) = eqb (ones (mask_of b)) n
holds (costs gs c) = eqb (cost (weight_of sample_prices) gs) c
holds (deep gs d) = eqb (depth (weight_of sample_durations) gs) d
holds (has_parity job p) = gives_parity p (parity_of job)
holds (parity_refused job n) = refused_by n (parity_of job)
holds (job_sound job) = is_answered (check_of (job_code job))
holds (job_refused job n) = refused_by n (check_of (job_code job))
holds (circuit_sound c) = is_answered (check_of (circuit_code c))
holds (circuit_refused c n) = refused_by n (check_of (circuit_code c))
holds (runs c v f b) = both (gives_value f (forwards_of c v)) (gives_value b (backwards_of c v))
holds (run_refused c v n) = both (refused_by n (forwards_of c v)) (refused_by n (backwards_of c v))
holds (measures job c g k d ts) = gives_measures g k d ts (measure_of job c)
holds (measure_refused job c n) = refused_by n (measure_of job c)
holds (passes job c g k d ts) = gives_measures g k d ts (verify_of job c)
holds (verify_refused job c n) = refused_by n (verify_of job c)
holds (finds job c) = gives_record c (search_of job 15)
holds (search_refused job room n) = refused_by n (search_of job room)

-- the samples of document 01 first, then a smallest record for each refusal code, with its neighbours that pass
unfoldable pub samples : List Sample
samples =
    toffoli 0x43 2 0 1  -- a Toffoli on wire 2 with controls 0 and 1
    ∷ turns 0x43 3 7
    ∷ turns 0x43 7 3
    ∷ turns 0x43 5 5
    ∷ turns 0x21 1 3
    ∷ is_unlawful 2 3 0x22  -- the target is among the controls
    ∷ is_unlawful 2 4 0x22
    ∷ is_unlawful 2 5 0x22
    ∷ is_unlawful 3 5 0x22
    ∷ controls 0x67 3  -- three controls: unlawful under a shorter job, lawful under a longer one, of four wires or five
    ∷ is_unlawful 2 4 0x67
    ∷ is_unlawful 2 5 0x67
    ∷ is_lawful 3 4 0x67
    ∷ is_lawful 3 5 0x67
    ∷ is_unlawful 3 3 0x67
    ∷ turns 0x67 7 15
    ∷ turns 0x67 15 7
    ∷ turns 0x67 11 11
    ∷ is_lawful 2 4 0x60  -- lawful for four wires, not for three
    ∷ is_unlawful 2 3 0x60
    ∷ deep (0x00 ∷ 0x20 ∷ []) 1
    ∷ deep (0x41 ∷ 0x21 ∷ []) 2
    ∷ costs (0x21 ∷ 0x43 ∷ []) 6
    ∷ deep (0x21 ∷ 0x43 ∷ []) 8
    ∷ has_parity (full4 (1 ∷ 10 ∷ 4 ∷ 12 ∷ 6 ∷ 15 ∷ 3 ∷ 9 ∷ 2 ∷ 13 ∷ 11 ∷ 7 ∷ 5 ∷ 0 ∷ 8 ∷ 14 ∷ [])) even  -- GIFT
    ∷ has_parity (full4 (0 ∷ 6 ∷ 2 ∷ 4 ∷ 9 ∷ 3 ∷ 13 ∷ 5 ∷ 1 ∷ 14 ∷ 12 ∷ 7 ∷ 8 ∷ 10 ∷ 11 ∷ 15 ∷ [])) odd  -- 062493D51EC78ABF
    ∷ has_parity (full3 (0 ∷ 1 ∷ 2 ∷ 3 ∷ 4 ∷ 5 ∷ 6 ∷ 6 ∷ [])) neither  -- 6 stands twice
    ∷ has_parity (anything 0 0 0) neither  -- no bit is wanted
    ∷ job_sound (anything 0 0 0)
    ∷ job_refused [] 1
    ∷ parity_refused [] 1
    ∷ job_refused (short 0x80 0 0 0 1 (two 0 0)) 2  -- n = 4 with 20 bytes
    ∷ job_refused (short 0x61 0 0 0 1 (two 0 0)) 3  -- the last bit of byte 0
    ∷ job_refused (anything 13 0 0) 4
    ∷ job_refused (short 0x60 0 0 0 0 (two 0 0)) 5  -- a NOT that takes no time
    ∷ job_refused (short 0x60 0 0 0 1 (two 0 1)) 6  -- a value bit outside the mask
    ∷ job_sound (long 0x60 0 0 0 11 (two 0 0))
    ∷ job_refused (long 0x80 0 0 0 11 (two 0 0)) 2  -- n = 4 with 22 bytes
    ∷ job_refused (long 0x60 0 0 0 0 (two 0 0)) 5  -- a three-control gate that takes no time
    ∷ job_refused (long 0x60 0 0 0 11 (two 0 1)) 6
    ∷ circuit_sound empty
    ∷ circuit_refused [] 7
    ∷ circuit_sound (0x61 ∷ 0x18 ∷ 0 ∷ [])  -- marked
    ∷ circuit_refused (0x62 ∷ 0x18 ∷ 0 ∷ []) 8  -- the bit beside the mark
    ∷ circuit_refused (0x60 ∷ 0x08 ∷ 0 ∷ []) 9  -- outputs 0 and 1 on wire 0
    ∷ circuit_refused (0x60 ∷ 0x18 ∷ 1 ∷ []) 10
    ∷ circuit_refused (0x60 ∷ 0x18 ∷ 1 ∷ 0x22 ∷ []) 21
    ∷ circuit_refused (0x80 ∷ 0x1B ∷ 1 ∷ 0x67 ∷ []) 21  -- three controls, not marked
    ∷ circuit_sound (0x81 ∷ 0x1B ∷ 1 ∷ 0x67 ∷ [])
    ∷ runs (0x60 ∷ 0x18 ∷ 2 ∷ 0x00 ∷ 0x21 ∷ []) 0 3 1  -- there and back
    ∷ run_refused empty 8 20
    ∷ measures (anything 0 0 0) one_not 1 1 1 (1 ∷ 0 ∷ 0 ∷ 0 ∷ 0 ∷ [])
    ∷ measures (anything 0 0 0) (0x60 ∷ 0x18 ∷ 2 ∷ 0x41 ∷ 0x21 ∷ []) 2 2 2 (2 ∷ 2 ∷ 1 ∷ 0 ∷ 0 ∷ [])
    ∷ measures (anything 0 0 0) (0x60 ∷ 0x18 ∷ 2 ∷ 0x21 ∷ 0x43 ∷ []) 2 6 8 (8 ∷ 8 ∷ 8 ∷ 0 ∷ 0 ∷ [])
    ∷ measure_refused (anything 0 0 0) (0x80 ∷ 0x1B ∷ 0 ∷ []) 12  -- four data wires for three
    ∷ verify_refused (anything 0 0 0) (0x68 ∷ 0x18 ∷ 0 ∷ []) 12  -- an ancilla for none
    ∷ measure_refused (anything 0 0 0) (0x61 ∷ 0x18 ∷ 0 ∷ []) 28  -- marked, under a shorter job
    ∷ verify_refused (anything 0 0 0) (0x61 ∷ 0x48 ∷ 0 ∷ []) 28  -- and before 15
    ∷ passes (long 0x60 0 0 0 11 (two 0 0)) empty 0 0 0 (0 ∷ 0 ∷ 0 ∷ 0 ∷ 0 ∷ [])  -- not marked, under a longer one
    ∷ passes (long 0x80 1 9 11 11 exchanged) (0x81 ∷ 0x1B ∷ 1 ∷ 0x67 ∷ []) 1 9 11 (11 ∷ 11 ∷ 11 ∷ 11 ∷ 0 ∷ [])
    ∷ verify_refused (anything 0 0 0) (0x60 ∷ 0x48 ∷ 0 ∷ []) 15  -- a layout that is not the plain one
    ∷ verify_refused (short 0x60 0 0 0 1 (two 0x11 0)) empty 16  -- row 0 wants bit 0 to be 1
    ∷ verify_refused (short 0x68 0 0 0 1 (two 0 0)) (0x68 ∷ 0x18 ∷ 1 ∷ 0x60 ∷ []) 24  -- the ancilla is left at 1, though no bit is wanted
    ∷ passes (short 0x68 2 2 2 1 (two 0 0)) (0x68 ∷ 0x18 ∷ 2 ∷ 0x60 ∷ 0x60 ∷ []) 2 2 2 (0 ∷ 0 ∷ 0 ∷ 2 ∷ 0 ∷ [])  -- it is put back
    ∷ passes (short 0x60 0 0 0 1 (two 0x10 0x11)) empty 0 0 0 (0 ∷ 0 ∷ 0 ∷ 0 ∷ 0 ∷ [])
    ∷ verify_refused (anything 0 1 1) one_not 17
    ∷ verify_refused (anything 1 0 1) one_not 18
    ∷ verify_refused (anything 1 1 0) one_not 19
    ∷ passes (anything 1 1 1) one_not 1 1 1 (1 ∷ 0 ∷ 0 ∷ 0 ∷ 0 ∷ [])  -- each limit is itself allowed
    ∷ search_refused (anything 0 0 0) 14 13  -- an answer buffer of 14 bytes
    ∷ search_refused (short 0x60 0 0 0 1 (two 0x11 0)) 15 14  -- row 0 wants bit 0 to be 1, and no gate is allowed
    ∷ finds (short 0x60 0 0 0 1 (two 0x10 0x11)) empty
    ∷ finds (long 0x60 0 0 0 11 (two 0x10 0x11)) (0x61 ∷ 0x18 ∷ 0 ∷ [])  -- marked, with no gate at all
    ∷ []

-- the number of the first row that does not hold, where the first row has the number i; 0 if all hold
unfoldable pub failing : ℕ → List Sample → ℕ
failing i [] = 0
failing i (s ∷ ss) = pick (holds s) (failing (suc i) ss) i
