use Rattle.std.proofs.Common.{rules}
use Rattle.printed.proofs.job_line.Inputs.{telling}
use Rattle.printed.proofs.files.Rooms.{telling_job}
use Rattle.printed.proofs.misses.Told.{telling_closest}
use Rattle.printed.proofs.differences.Told.{telling_pair}
use Rattle.printed.proofs.files.job_room.Goals as goal

pub returns-clause-telling : goal.returns-clause-telling
returns-clause-telling c = search (rules, telling)

pub returns-clause-telling_job : goal.returns-clause-telling_job
returns-clause-telling_job c = search (rules, telling_job)

pub returns-clause-telling_closest : goal.returns-clause-telling_closest
returns-clause-telling_closest c = search (rules, telling_closest)

pub returns-clause-telling_pair : goal.returns-clause-telling_pair
returns-clause-telling_pair c = search (rules, telling_pair)
