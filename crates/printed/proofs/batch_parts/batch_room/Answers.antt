use native.Mathlib.Omega.{arith}
use Rattle.printed.proofs.batch_parts.Parts.{telling_batch}
use Rattle.printed.proofs.batch_parts.batch_room.Goals as goal

pub returns-clause-telling_batch : goal.returns-clause-telling_batch
returns-clause-telling_batch c = telling_batch 1793 (omega arith)
