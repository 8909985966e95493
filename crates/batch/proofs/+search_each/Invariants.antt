-- The first record is searched into the first cell and status byte, and the others into the rest. The recursion ends since `most` falls.
use Rattle.batch.proofs.+search_each.Given as goal

abbrev pub decreases-search_each : goal.decreases-search_each
decreases-search_each l = l.most
