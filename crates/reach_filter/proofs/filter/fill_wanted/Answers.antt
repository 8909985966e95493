use Rattle.bloom.proofs.hash.Joined.{seen_at_first}
use Rattle.reach_filter.proofs.filter.fill_wanted.Goals as goal

pub fill-requires : goal.fill-requires
fill-requires c = seen_at_first c.note.new.bits c.args.reach c.aim_of-columns.result c.note.ensures.seen_but
