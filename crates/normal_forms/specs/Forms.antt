-- Which gates need not be tried after a list: one that fires in no row (N1), one that undoes an earlier one (N2), and one that could have
-- stood earlier (N3). The tests for N2 and N3 run along the list, gate by gate.
use Rattle.std.specs.Prelude.{Bool, false, not, List, ℕ, ◌^◌, eqb, ltb}
use Rattle.std.specs.Int.Bits.{bit_and, bit_or}
use Rattle.logic.specs.Rules.{both, either}
use Rattle.logic.specs.Lists.{along}
use Rattle.logic.specs.Bit.{bit_of}
use Rattle.gate.specs.Gates.{target_of, mask_of, gate_of}
use Rattle.gate.specs.Inner.{firing}
use Rattle.circuit.specs.run.Inner.{columns_after}

-- wire w is a control of the gate
abbrev pub controlled : ℕ → ℕ → Bool
controlled b w = eqb (bit_of w (mask_of b)) 1

-- the wires of a gate, its target and its controls, a bit each
abbrev pub wires_of : ℕ → ℕ
wires_of b = bit_or (mask_of b) (2 ^ target_of b)

-- neither gate's target is a control of the other: their order makes no difference to the columns
unfoldable pub commuting : ℕ → ℕ → Bool
commuting a b = both (not (controlled b (target_of a))) (not (controlled a (target_of b)))

-- the gates share no wire: their order makes no difference to the columns nor to the ready times
unfoldable pub disjoint : ℕ → ℕ → Bool
disjoint a b = both (not (eqb (bit_of (target_of a) (wires_of b)) 1)) (eqb (bit_and (mask_of a) (wires_of b)) 0)

-- one step of `asleep`: whether it holds of b after gate a, where t says whether it held before a. Gates that share no wire have different
-- targets, and then the targets tell which byte is greater
unfoldable pub sleep_step : ℕ → ℕ → Bool → Bool
sleep_step b a t = both (disjoint b a) (either (ltb (target_of b) (target_of a)) t)

-- gate b could stand earlier, before a gate of the list with a greater byte: it shares no wire with that gate nor with any gate after it
abbrev pub asleep : ℕ → List ℕ → Bool
asleep b l = along (sleep_step b) l false

-- one step of `cancels`: whether it holds of b after gate a, where t says whether it held before a
unfoldable pub cancel_step : ℕ → ℕ → Bool → Bool
cancel_step b a t = either (both (commuting b a) t) (eqb a b)

-- gate b would undo an earlier gate: it is in the list, and commutes with every gate after that
abbrev pub cancels : ℕ → List ℕ → Bool
cancels b l = along (cancel_step b) l false

-- gate b fires in no row: in none are its controls all 1
abbrev pub idles : ℕ → List ℕ → Bool
idles b cs = eqb (firing (gate_of b).kind cs) 0

-- gate b need not be tried after the list l, which starts from the columns cs
unfoldable pub skipped : List ℕ → List ℕ → ℕ → Bool
skipped cs l b = either (idles b (columns_after l cs)) (either (asleep b l) (cancels b l))
