-- What each refusal number means, in a sentence for whoever sent the job or the circuit. The numbers stand in groups, one list a group.
use Rattle.std.specs.Prelude.{List, [], ◌∷◌, ℕ, eqb}
use Prim.Native.String.{String}
use Rattle.logic.specs.Rules.{pick}
use Rattle.logic.specs.Words.{bytes}

infixl 20 ◌means◌
pub data Meaning : Type 0 where
  ◌means◌ : ℕ → String → Meaning

-- of a job
abbrev pub job_meanings : List Meaning
job_meanings =
    (1 means "the job is not 20, 22, 28 or 30 bytes long")
    ∷ (2 means "the job's length does not fit its data wires")
    ∷ (3 means "the job's ancillas or spare bits are not lawful")
    ∷ (4 means "the gate limit is above 12")
    ∷ (5 means "a duration is 0")
    ∷ (6 means "a row has a 1 outside its care mask or outputs")
    ∷ []

-- of a circuit
abbrev pub circuit_meanings : List Meaning
circuit_meanings =
    (7 means "the circuit is not 3 to 15 bytes long")
    ∷ (8 means "the circuit's wires or spare bits are not lawful")
    ∷ (9 means "the layout does not name each data wire once")
    ∷ (10 means "the gate count is not the number of gate bytes")
    ∷ (21 means "a gate is not lawful for the circuit's wires")
    ∷ []

-- of verifying a circuit for a job
abbrev pub verify_meanings : List Meaning
verify_meanings =
    (12 means "the circuit's wires are not those of the job")
    ∷ (28 means "the circuit is marked for three controls and the job is not")
    ∷ (15 means "the job allows the plain layout only")
    ∷ (16 means "the circuit does not realize the table")
    ∷ (24 means "the ancilla does not end at 0 in every row")
    ∷ (17 means "the circuit has more gates than the gate limit")
    ∷ (18 means "the circuit costs more than the cost limit")
    ∷ (19 means "the circuit is deeper than the depth limit")
    ∷ []

-- of a gate library
abbrev pub library_meanings : List Meaning
library_meanings =
    (29 means "the library is not up to 75 entries of three bytes each")
    ∷ (30 means "an entry's gate, duration or place in the order is not lawful")
    ∷ (31 means "the circuit has a gate that is not in the library")
    ∷ []

-- of searching, running, reading a circuit's text, batches and comparisons
abbrev pub other_meanings : List Meaning
other_meanings =
    (13 means "the answer buffer has fewer than 15 bytes")
    ∷ (14 means "no circuit within the limits realizes the table")
    ∷ (20 means "the value does not fit the circuit's wires")
    ∷ (22 means "the text departs from the form of a circuit")
    ∷ (23 means "the text has more than 12 gates")
    ∷ (26 means "the batch is not up to 64 whole records of 20 or 28 bytes")
    ∷ (27 means "the answers or the statuses have too few bytes")
    ∷ (38 means "the jobs differ in more than one price, or limit the cost")
    ∷ []

-- of rewriting a list of gates
abbrev pub listing_meanings : List Meaning
listing_meanings =
    (32 means "the wires are not 3 or 4, or the window is not 2 to 4 gates")
    ∷ (33 means "the list has more than 4,096 gates")
    ∷ (34 means "a gate of the list is not lawful, or has three controls")
    ∷ []

-- the sentence that a list has for a number, or `rest` where it has none
unfoldable pub said : ℕ → List Meaning → List ℕ → List ℕ
said n [] rest = rest
said n ((k means words) ∷ ms) rest = pick (eqb n k) (bytes words) (said n ms rest)

-- the groups in turn, the last one first
unfoldable pub other_meaning : ℕ → List ℕ
other_meaning n = said n other_meanings (bytes "no rule has this number")

unfoldable pub listing_meaning : ℕ → List ℕ
listing_meaning n = said n listing_meanings (other_meaning n)

unfoldable pub library_meaning : ℕ → List ℕ
library_meaning n = said n library_meanings (listing_meaning n)

unfoldable pub verify_meaning : ℕ → List ℕ
verify_meaning n = said n verify_meanings (library_meaning n)

unfoldable pub circuit_meaning : ℕ → List ℕ
circuit_meaning n = said n circuit_meanings (verify_meaning n)

-- the sentence of any number
unfoldable pub meaning : ℕ → List ℕ
meaning n = said n job_meanings (circuit_meaning n)
