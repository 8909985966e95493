-- Which outputs a state still misses, and which next gates can keep up with them. A gate changes only its target's column, so what all
-- other wires miss is left to this gate or to later ones. The ancilla, wire n, has to end as a column of zeros.
use Rattle.std.specs.Prelude.{◌≡◌, ◌⊎◌, Bool, not, List, ℕ, ◌+◌, eqb, ltb, leb, get_or}
use Rattle.std.specs.Int.Bits.{bit_and}
use Rattle.std.specs.Int.Count.{ones}
use Rattle.logic.specs.Rules.{both, either, pick, bit, all_below, some_below, count_below}
use Rattle.logic.specs.Bit.{bit_of}
use Rattle.gate.specs.Gates.{target_of, kind_for, gate_of}
use Rattle.gate.specs.Inner.{firing, column_step}
use Rattle.columns.specs.declared.Wanted.{Wanted}
use Rattle.columns.specs.Wanted.{misses, fitting, all_rows, dirt, tidy}

-- wire w misses output j: its column lacks a wanted bit of the output in some row
abbrev pub missed : Wanted → List ℕ → ℕ → ℕ → Bool
missed t cs w j = not (fitting t (get_or cs w 0) j)

-- output j is alone for `wire`: all other wires that a layout may give it miss it. With free layouts these are the other data wires; with
-- the fixed layout only wire j, and none if that is `wire`
unfoldable pub alone : Wanted → List ℕ → ℕ → ℕ → ℕ → ℕ → Bool
alone t cs n free wire j =
    pick (eqb free 1) (all_below n (λ w. either (eqb w wire) (missed t cs w j))) (either (eqb j wire) (missed t cs j j))

-- how many outputs are alone for `wire`: each is left to a gate on `wire`, or to a later one on another wire
unfoldable pub owed : Wanted → List ℕ → ℕ → ℕ → ℕ → ℕ
owed t cs n free wire = count_below n (alone t cs n free wire)

-- the ancilla is spoilt for a gate on `wire`: it is not 0, or it is `wire` itself, so that the gate writes it
abbrev pub spoilt : List ℕ → ℕ → ℕ → Bool
spoilt cs n wire = either (eqb n wire) (not (tidy n cs))

-- due: how many gates a list that realizes the table has at least, if its first gate has the target `wire`
unfoldable pub due : Wanted → List ℕ → ℕ → ℕ → ℕ → ℕ
due t cs n free wire = owed t cs n free wire + bit (spoilt cs n wire)

-- lost: how many outputs are missed on every wire that a layout may give them (alone for wire 4, which is no data wire), with one more if
-- the ancilla is not 0. A list that realizes the table has at least so many gates
unfoldable pub lost : Wanted → List ℕ → ℕ → ℕ → ℕ
lost t cs n free = owed t cs n free 4 + bit (not (tidy n cs))

-- with this column, `wire` has an output that all other wires miss, or it is the ancilla and the column is 0
unfoldable pub mends : Wanted → List ℕ → ℕ → ℕ → ℕ → ℕ → Bool
mends t cs n free wire column =
    pick (eqb n wire) (eqb (dirt n column) 0)
    (both (ltb wire n)
    (pick (eqb free 1) (some_below n (λ j. both (alone t cs n free wire j) (fitting t column j))) (fitting t column wire)))

-- gate g may begin a list of at most `most` gates that realizes the table: fewer are due for its target, or just as many and g mends its
-- target
unfoldable pub worth : Wanted → List ℕ → ℕ → ℕ → ℕ → ℕ → Bool
worth t cs n free g most =
    pick (eqb (due t cs n free (target_of g)) most)
    (mends t cs n free (target_of g) (get_or (column_step (gate_of g) cs) (target_of g) 0))
    (ltb (due t cs n free (target_of g)) most)

-- "at most two ones", or three: the greatest number of controls
abbrev pub Controls : ℕ → Type 0
Controls k = (k ≡ 2) ⊎ (k ≡ 3)

-- c controls are at most k
abbrev pub up_to : ℕ → ℕ → Bool
up_to k c = leb c k

-- the rows in which all wires of a mask of at most three are 1: what a gate with these controls adds to its target
abbrev pub product : List ℕ → ℕ → ℕ
product cs m = firing (kind_for (ones m) m) cs

-- some gate on wire w, with an allowed number of controls, adds just what is wanted in the rows that care
unfoldable pub adds : (ℕ → Bool) → List ℕ → ℕ → ℕ → ℕ → Bool
adds allowed cs w care want =
    some_below 32 (λ m. both (allowed (ones m)) (both (eqb (bit_of w m) 0) (eqb (bit_and (product cs m) care) want)))

-- wire w misses output j, and some gate on w mends it: of the rows that care, it changes just those that miss it
unfoldable pub mendable_on : (ℕ → Bool) → Wanted → List ℕ → ℕ → ℕ → Bool
mendable_on allowed t cs w j = both (missed t cs w j) (adds allowed cs w (get_or t.care j 0) (misses t (get_or cs w 0) j))

-- some gate mends an output on a wire that a layout may give it
unfoldable pub mendable : (ℕ → Bool) → Wanted → List ℕ → ℕ → ℕ → Bool
mendable allowed t cs n free =
    some_below n (λ w. pick (eqb free 1) (some_below n (mendable_on allowed t cs w)) (mendable_on allowed t cs w w))

-- the ancilla is not 0, and some gate on it cleans it: it changes just the rows in which the ancilla is 1
unfoldable pub cleanable : (ℕ → Bool) → List ℕ → ℕ → Bool
cleanable allowed cs n = both (not (tidy n cs)) (adds allowed cs n (all_rows n) (dirt n (get_or cs n 0)))

-- some gate mends an output or cleans the ancilla
unfoldable pub fixable : (ℕ → Bool) → Wanted → List ℕ → ℕ → ℕ → Bool
fixable allowed t cs n free = either (cleanable allowed cs n) (mendable allowed t cs n free)

-- the node is stuck: more is lost than `most`, or just as much (and not nothing) and no next gate of at most k controls mends an output or
-- cleans the ancilla. Then no list of at most `most` such gates leads from these columns to the table
unfoldable pub stuck : ℕ → Wanted → List ℕ → ℕ → ℕ → ℕ → Bool
stuck k t cs n free most =
    pick (eqb (lost t cs n free) most) (both (not (eqb most 0)) (not (fixable (up_to k) t cs n free))) (ltb most (lost t cs n free))
