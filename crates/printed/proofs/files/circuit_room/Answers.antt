use native.Mathlib.Omega.{arith}
use Rattle.printed.proofs.files.Rooms.{telling_circuit}
use Rattle.printed.proofs.files.circuit_room.Goals as goal

pub returns-clause-telling_circuit : goal.returns-clause-telling_circuit
returns-clause-telling_circuit c = telling_circuit 4097 (omega arith)
