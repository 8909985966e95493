-- Each way keeps the tie between owners and slots.
use Rattle.slots.proofs.Work.step.Goals as goal

pub returns-then-self-ge8 : goal.returns-then-self-ge8
returns-then-self-ge8 g c = c.take_turn.ensures c.args.jobs.now

pub returns-then-count-self : goal.returns-then-count-self
returns-then-count-self g c = c.take_turn-then-count-self.ensures c.args.jobs.now
