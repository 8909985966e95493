use borrow.Author.Tests.{ne_eqb}
use Rattle.reports.specs.sentences.Meanings.{said, circuit_meaning}
use Rattle.reports.proofs.meanings.put_circuit_meaning.Goals as goal

pub returns-in-7 : goal.returns-in-7
unfolding said circuit_meaning
returns-in-7 c = rw c.in-7.is c.put_text.ensures

pub returns-in-8 : goal.returns-in-8
unfolding said circuit_meaning
returns-in-8 c = rw c.in-8.is c.put_text-in-8.ensures

pub returns-in-9 : goal.returns-in-9
unfolding said circuit_meaning
returns-in-9 c = rw c.in-9.is c.put_text-in-9.ensures

pub returns-in-10 : goal.returns-in-10
unfolding said circuit_meaning
returns-in-10 c = rw c.in-10.is c.put_text-in-10.ensures

pub returns-in-21 : goal.returns-in-21
unfolding said circuit_meaning
returns-in-21 c = rw c.in-21.is c.put_text-in-21.ensures

pub returns-in_default : goal.returns-in_default
unfolding said circuit_meaning
returns-in_default c =
    rw (
      ne_eqb c.args.code 7 c.in_default.in_default-own.rest.0.0.0.0.1,
      ne_eqb c.args.code 8 c.in_default.in_default-own.rest.0.0.0.1,
      ne_eqb c.args.code 9 c.in_default.in_default-own.rest.0.0.1,
      ne_eqb c.args.code 10 c.in_default.in_default-own.rest.0.1,
      ne_eqb c.args.code 21 c.in_default.in_default-own.rest.1,
    )
    c.put_verify_meaning.ensures
