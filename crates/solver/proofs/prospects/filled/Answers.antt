use Rattle.problem.specs.Entries.{entry_gates}
use Rattle.solver.proofs.prospects.EachOnce.{gates_among, sieve_fewer}
use Rattle.solver.proofs.prospects.filled.Goals as goal

pub returns : goal.returns
returns c = let h = c.filter_for.ensures c.args.task.controls in
    sieve_fewer c.filter_for.new.bits c.filter_for.result (entry_gates c.args.entries.now) _ c.args.task.controls c.args.task.wanted c.args.task.outputs c.args.task.free
    (gates_among c.args.entries.now _ (λ k d h. c.collected-gates.ensures _ (c.listed.ensures k d h))) h
