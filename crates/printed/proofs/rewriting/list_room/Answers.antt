use native.Mathlib.Omega.{arith}
use Rattle.printed.proofs.rewriting.Printed.{telling_list}
use Rattle.printed.proofs.rewriting.list_room.Goals as goal

pub returns-clause-telling_list : goal.returns-clause-telling_list
returns-clause-telling_list c = telling_list 4097 (omega arith)
