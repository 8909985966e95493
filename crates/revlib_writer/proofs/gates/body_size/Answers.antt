-- The sum is that of the lines' lengths.
use Rattle.std.proofs.Common.{◌≡◌, length, sum_by, rules, tests, arith}
use Rattle.std.proofs.lemmas.Iterator.{YieldsList-from_slice, YieldsList-from_map}
use Rattle.std.proofs.lemmas.Iterator.Consumers.{sum_by_from_yields_List}
use Rattle.revlib.specs.Grammar.{gate_line}
use Rattle.revlib.specs.Writing.{line_for}
use Rattle.revlib_writer.proofs.gates.Lines.{lines_few}
use Rattle.revlib_writer.proofs.gates.body_size.Goals as goal
use Rattle.revlib_writer.proofs.gates.body_size.Goals.{After-sum}

summed : (s : After-sum) → s.sum.result ≡ sum_by (λ b. length (gate_line (line_for b))) s.args.gates.now
summed s =
    sum_by_from_yields_List (λ b. length (gate_line (line_for b))) s.args.gates.now s.map.result _ s.sum.ensures.ran
    (YieldsList-from_map _ _ (YieldsList-from_slice s.args.gates.now cc) s.map.ensures.closure (λ x r q k. search (rules, tests)))

pub overflow_add-result : goal.overflow_add-result
overflow_add-result c = let n = c.requires in omega (arith, summed (goal.at.overflow_add-result c).After-sum, lines_few c.args.gates.now)

pub returns-clause-upper_bound : goal.returns-clause-upper_bound
returns-clause-upper_bound c = let n = c.requires in omega (arith, summed (goal.at.returns-clause-upper_bound c).After-sum, lines_few c.args.gates.now)
