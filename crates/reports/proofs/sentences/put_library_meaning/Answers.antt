-- Each arm writes the words of its number; the last one has passed every number of the list.
use borrow.Author.Tests.{ne_eqb}
use Rattle.reports.specs.sentences.Meanings.{said, library_meaning}
use Rattle.reports.proofs.sentences.put_library_meaning.Goals as goal

pub returns-in-29 : goal.returns-in-29
unfolding said library_meaning
returns-in-29 c = rw c.in-29.is c.put_text.ensures

pub returns-in-30 : goal.returns-in-30
unfolding said library_meaning
returns-in-30 c = rw c.in-30.is c.put_text-in-30.ensures

pub returns-in-31 : goal.returns-in-31
unfolding said library_meaning
returns-in-31 c = rw c.in-31.is c.put_text-in-31.ensures

pub returns-in_default : goal.returns-in_default
unfolding said library_meaning
returns-in_default c = rw (ne_eqb c.args.code 29 c.in_default.in_default-own.rest.0.0.1, ne_eqb c.args.code 30 c.in_default.in_default-own.rest.0.1, ne_eqb c.args.code 31 c.in_default.in_default-own.rest.1) c.put_listing_meaning.ensures
