-- Each arm writes the words of its number; the last one has passed every number of the list.
use borrow.Author.Tests.{ne_eqb}
use Rattle.reports.specs.sentences.Meanings.{said, other_meaning}
use Rattle.reports.proofs.sentences.put_other_meaning.Goals as goal

pub returns-in-13 : goal.returns-in-13
unfolding said other_meaning
returns-in-13 c = rw c.in-13.is c.put_text.ensures

pub returns-in-14 : goal.returns-in-14
unfolding said other_meaning
returns-in-14 c = rw c.in-14.is c.put_text-in-14.ensures

pub returns-in-20 : goal.returns-in-20
unfolding said other_meaning
returns-in-20 c = rw c.in-20.is c.put_text-in-20.ensures

pub returns-in-22 : goal.returns-in-22
unfolding said other_meaning
returns-in-22 c = rw c.in-22.is c.put_text-in-22.ensures

pub returns-in-23 : goal.returns-in-23
unfolding said other_meaning
returns-in-23 c = rw c.in-23.is c.put_text-in-23.ensures

pub returns-in-26 : goal.returns-in-26
unfolding said other_meaning
returns-in-26 c = rw c.in-26.is c.put_text-in-26.ensures

pub returns-in-27 : goal.returns-in-27
unfolding said other_meaning
returns-in-27 c = rw c.in-27.is c.put_text-in-27.ensures

pub returns-in-38 : goal.returns-in-38
unfolding said other_meaning
returns-in-38 c = rw c.in-38.is c.put_text-in-38.ensures

pub returns-in_default : goal.returns-in_default
unfolding said other_meaning
returns-in_default c =
    rw (
      ne_eqb c.args.code 13 c.in_default.in_default-own.rest.0.0.0.0.0.0.0.1,
      ne_eqb c.args.code 14 c.in_default.in_default-own.rest.0.0.0.0.0.0.1,
      ne_eqb c.args.code 20 c.in_default.in_default-own.rest.0.0.0.0.0.1,
      ne_eqb c.args.code 22 c.in_default.in_default-own.rest.0.0.0.0.1,
      ne_eqb c.args.code 23 c.in_default.in_default-own.rest.0.0.0.1,
      ne_eqb c.args.code 26 c.in_default.in_default-own.rest.0.0.1,
      ne_eqb c.args.code 27 c.in_default.in_default-own.rest.0.1,
      ne_eqb c.args.code 38 c.in_default.in_default-own.rest.1,
    )
    c.put_text-in_default.ensures
