use borrow.Author.Tests.{ne_eqb}
use Rattle.reports.specs.sentences.Meanings.{said, meaning}
use Rattle.reports.proofs.meanings.put_meaning.Goals as goal

pub returns-in-1 : goal.returns-in-1
unfolding said meaning
returns-in-1 c = rw c.in-1.is c.put_text.ensures

pub returns-in-2 : goal.returns-in-2
unfolding said meaning
returns-in-2 c = rw c.in-2.is c.put_text-in-2.ensures

pub returns-in-3 : goal.returns-in-3
unfolding said meaning
returns-in-3 c = rw c.in-3.is c.put_text-in-3.ensures

pub returns-in-4 : goal.returns-in-4
unfolding said meaning
returns-in-4 c = rw c.in-4.is c.put_text-in-4.ensures

pub returns-in-5 : goal.returns-in-5
unfolding said meaning
returns-in-5 c = rw c.in-5.is c.put_text-in-5.ensures

pub returns-in-6 : goal.returns-in-6
unfolding said meaning
returns-in-6 c = rw c.in-6.is c.put_text-in-6.ensures

pub returns-in_default : goal.returns-in_default
unfolding said meaning
returns-in_default c =
    rw (
      ne_eqb c.args.code 1 c.in_default.in_default-own.rest.0.0.0.0.0.1,
      ne_eqb c.args.code 2 c.in_default.in_default-own.rest.0.0.0.0.1,
      ne_eqb c.args.code 3 c.in_default.in_default-own.rest.0.0.0.1,
      ne_eqb c.args.code 4 c.in_default.in_default-own.rest.0.0.1,
      ne_eqb c.args.code 5 c.in_default.in_default-own.rest.0.1,
      ne_eqb c.args.code 6 c.in_default.in_default-own.rest.1,
    )
    c.put_circuit_meaning.ensures
