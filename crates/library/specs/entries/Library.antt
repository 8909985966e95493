-- A library: a caller's own gates, each with its price and duration (document 02, change request 11). What its bytes mean, and
-- its checks with their refusal codes.
use Rattle.std.specs.Prelude.{Bool, true, false, List, [], ◌∷◌, map, ℕ, suc, ◌%◌, leb, eqb, length}
use Rattle.logic.specs.Rules.{both, either, pick, rule}
use Rattle.gate.specs.Gates.{lawful, gates_for}
use Rattle.record.specs.job_fields.Jobs.{most_controls, wires, price_of, duration_of}
use Rattle.problem.specs.declared.Entry.{Entry}

-- "three bytes an entry, gate, price, duration. It may be empty."
unfoldable pub entries_of : List ℕ → List Entry
entries_of [] = []
entries_of (g ∷ []) = []
entries_of (g ∷ p ∷ []) = []
entries_of (g ∷ p ∷ d ∷ l) = record { gate = g; price = p; duration = d } ∷ entries_of l

-- "its gates", in its order
abbrev pub gates_in : List ℕ → List ℕ
gates_in lib = map (λ (e : Entry). e.gate) (entries_of lib)

-- the first entry of a gate byte; where there is none, one with price and duration 0
unfoldable pub entry_for : List Entry → ℕ → Entry
entry_for [] b = record { gate = b; price = 0; duration = 0 }
entry_for (e ∷ es) b = pick (eqb e.gate b) e (entry_for es b)

-- its "prices and durations in place of the job's": looked up by gate byte
abbrev pub price_in : List ℕ → ℕ → ℕ
price_in lib b = (entry_for (entries_of lib) b).price

abbrev pub duration_in : List ℕ → ℕ → ℕ
duration_in lib b = (entry_for (entries_of lib) b).duration

-- the bytes of a library of these gates, at these prices and durations
unfoldable pub laid_out : (ℕ → ℕ) → (ℕ → ℕ) → List ℕ → List ℕ
laid_out price duration [] = []
laid_out price duration (g ∷ gs) = g ∷ price g ∷ duration g ∷ laid_out price duration gs

-- the library of all gates lawful for the job, at the job's own prices and durations
abbrev pub full_library : List ℕ → List ℕ
full_library job = laid_out (price_of job) (duration_of job) (gates_for (most_controls job) (wires job))

-- whether a gate byte has an entry
unfoldable pub entered : List Entry → ℕ → Bool
entered [] b = false
entered (e ∷ es) b = either (eqb e.gate b) (entered es b)

-- whether a library lists a gate
abbrev pub listed : List ℕ → ℕ → Bool
listed lib b = entered (entries_of lib) b

-- "29, length over 225 or no multiple of 3"
unfoldable pub library_size_ok : List ℕ → Bool
library_size_ok lib = both (leb (length lib) 225) (eqb (length lib % 3) 0)

-- "30, by entry in order, a gate unlawful for the job, a duration of 0, or a gate byte not above the last": the job allows k controls and
-- has w wires, and `least` is the least gate byte that may come next
unfoldable pub entry_ok : ℕ → ℕ → ℕ → Entry → Bool
entry_ok k w least e = both (lawful k w e.gate) (both (leb 1 e.duration) (leb least e.gate))

-- every entry keeps the rule, each gate byte above the last
unfoldable pub entries_ok : ℕ → ℕ → ℕ → List Entry → Bool
entries_ok k w least [] = true
entries_ok k w least (e ∷ es) = both (entry_ok k w least e) (entries_ok k w (suc e.gate) es)

-- every entry keeps it for the controls and wires that the job allows
abbrev pub library_sound : List ℕ → List ℕ → Bool
library_sound job lib = entries_ok (most_controls job) (wires job) 0 (entries_of lib)

-- the code of the first rule broken, or 0
unfoldable pub library_code : List ℕ → List ℕ → ℕ
library_code job lib = rule (library_size_ok lib) 29 (rule (library_sound job lib) 30 0)
