use native.Mathlib.Omega.{arith}
use Rattle.printed.proofs.files.Rooms.{telling_library}
use Rattle.printed.proofs.files.library_room.Goals as goal

pub returns-clause-telling_library : goal.returns-clause-telling_library
returns-clause-telling_library c = telling_library 226 (omega arith)
