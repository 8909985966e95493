use mathlib.Core.Path.{ap}
use native.Mathlib.Omega.{arith}
use lib.ListN.{length}
use Rattle.record.proofs.circuit_rules.Sound.{sound_circuit}
use Rattle.library.proofs.calls.measures_in.Goals as goal

pub measures_of-requires : goal.measures_of-requires
measures_of-requires c = omega (arith, (sound_circuit c.args.c.now c.requires).few, ap length c.gate_list.ensures)
