use borrow.Author.Tests.{ne_eqb}
use Rattle.reports.specs.sentences.Meanings.{said, verify_meaning}
use Rattle.reports.proofs.meanings.put_verify_meaning.Goals as goal

pub returns-in-12 : goal.returns-in-12
unfolding said verify_meaning
returns-in-12 c = rw c.in-12.is c.put_text.ensures

pub returns-in-28 : goal.returns-in-28
unfolding said verify_meaning
returns-in-28 c = rw c.in-28.is c.put_text-in-28.ensures

pub returns-in-15 : goal.returns-in-15
unfolding said verify_meaning
returns-in-15 c = rw c.in-15.is c.put_text-in-15.ensures

pub returns-in-16 : goal.returns-in-16
unfolding said verify_meaning
returns-in-16 c = rw c.in-16.is c.put_text-in-16.ensures

pub returns-in-24 : goal.returns-in-24
unfolding said verify_meaning
returns-in-24 c = rw c.in-24.is c.put_text-in-24.ensures

pub returns-in-17 : goal.returns-in-17
unfolding said verify_meaning
returns-in-17 c = rw c.in-17.is c.put_text-in-17.ensures

pub returns-in-18 : goal.returns-in-18
unfolding said verify_meaning
returns-in-18 c = rw c.in-18.is c.put_text-in-18.ensures

pub returns-in-19 : goal.returns-in-19
unfolding said verify_meaning
returns-in-19 c = rw c.in-19.is c.put_text-in-19.ensures

pub returns-in_default : goal.returns-in_default
unfolding said verify_meaning
returns-in_default c =
    rw (
      ne_eqb c.args.code 12 c.in_default.in_default-own.rest.0.0.0.0.0.0.0.1,
      ne_eqb c.args.code 28 c.in_default.in_default-own.rest.0.0.0.0.0.0.1,
      ne_eqb c.args.code 15 c.in_default.in_default-own.rest.0.0.0.0.0.1,
      ne_eqb c.args.code 16 c.in_default.in_default-own.rest.0.0.0.0.1,
      ne_eqb c.args.code 24 c.in_default.in_default-own.rest.0.0.0.1,
      ne_eqb c.args.code 17 c.in_default.in_default-own.rest.0.0.1,
      ne_eqb c.args.code 18 c.in_default.in_default-own.rest.0.1,
      ne_eqb c.args.code 19 c.in_default.in_default-own.rest.1,
    )
    c.put_library_meaning.ensures
