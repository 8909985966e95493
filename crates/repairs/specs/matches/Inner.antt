-- The tests as the code makes them: sixteen products against four outputs at a time.
use Rattle.std.specs.Prelude.{Bool, List, ℕ, eqb, get_or}
use Rattle.std.specs.Int.Bits.{bit_and}
use Rattle.logic.specs.Rules.{both, either, pick, some_below}
use Rattle.logic.specs.Bit.{bit_of}
use Rattle.columns.specs.declared.Wanted.{Wanted}
use Rattle.columns.specs.Wanted.{misses}
use Rattle.outputs.specs.Owed.{mendable_on, cleanable}
use Rattle.repairs.specs.declared.matches.Lack.{Lack}

-- the products of a part that a gate on w may add, a bit each: those of at most three wires, without w
abbrev pub others_of : Bool → ℕ → ℕ
others_of wide w =
    pick (eqb w 0) (pick wide 5256 61141)
    (pick (eqb w 1) (pick wide 4676 56755)
    (pick (eqb w 2) (pick wide 1570 48015)
    (pick (eqb w 3) (pick wide 225 30847)
    (pick wide 15 2047))))

-- product i, which is p, is allowed, and is what is lacking in the rows that care
abbrev pub hit_bit : ℕ → ℕ → Lack → Bool
hit_bit i p l = both (eqb (bit_of i l.allowed) 1) (eqb (bit_and p l.care) l.rows)

-- product i is what one of four outputs lacks
abbrev pub any_hit : List ℕ → Lack → Lack → Lack → Lack → ℕ → Bool
any_hit ps a b c d i =
    either (hit_bit i (get_or ps i 0) d) (either (hit_bit i (get_or ps i 0) c) (either (hit_bit i (get_or ps i 0) b) (hit_bit i (get_or ps i 0) a)))

-- some product is what one of four outputs lacks
unfoldable pub hits_of : List ℕ → Lack → Lack → Lack → Lack → Bool
hits_of ps a b c d = some_below 16 (any_hit ps a b c d)

-- what is lacking of an output that is missed in these rows; if there are none, no product is allowed, since there is nothing to mend
abbrev pub lack_of : ℕ → ℕ → ℕ → Lack
lack_of allowed care rows = record { allowed = pick (eqb rows 0) 0 allowed; care = care; rows = rows }

-- what wire w lacks of output j
abbrev pub lack_on : Bool → Wanted → List ℕ → ℕ → ℕ → Lack
lack_on wide t cs w j = lack_of (others_of wide w) (get_or t.care j 0) (misses t (get_or cs w 0) j)

-- what wire w lacks of output 3: nothing if there are three outputs
abbrev pub lack_last : Bool → Wanted → List ℕ → ℕ → ℕ → Lack
lack_last wide t cs n w = lack_of (others_of wide w) (get_or t.care 3 0) (pick (eqb n 4) (misses t (get_or cs w 0) 3) 0)

-- some product mends an output on wire w
unfoldable pub wire_hits : Bool → List ℕ → Wanted → List ℕ → ℕ → ℕ → Bool
wire_hits wide ps t cs n w = hits_of ps (lack_on wide t cs w 0) (lack_on wide t cs w 1) (lack_on wide t cs w 2) (lack_last wide t cs n w)

-- some gate on w mends an output that a layout may give to wire w, or cleans the ancilla if that is w
unfoldable pub fixes_on : (ℕ → Bool) → Wanted → List ℕ → ℕ → ℕ → ℕ → Bool
fixes_on allowed t cs n free w =
    pick (eqb n w) (cleanable allowed cs n) (pick (eqb free 1) (some_below n (mendable_on allowed t cs w)) (mendable_on allowed t cs w w))
