-- Each arm writes the words of its number; the last one has passed every number of the list.
use borrow.Author.Tests.{ne_eqb}
use Rattle.reports.specs.sentences.Meanings.{said, listing_meaning}
use Rattle.reports.proofs.sentences.put_listing_meaning.Goals as goal

pub returns-in-32 : goal.returns-in-32
unfolding said listing_meaning
returns-in-32 c = rw c.in-32.is c.put_text.ensures

pub returns-in-33 : goal.returns-in-33
unfolding said listing_meaning
returns-in-33 c = rw c.in-33.is c.put_text-in-33.ensures

pub returns-in-34 : goal.returns-in-34
unfolding said listing_meaning
returns-in-34 c = rw c.in-34.is c.put_text-in-34.ensures

pub returns-in_default : goal.returns-in_default
unfolding said listing_meaning
returns-in_default c = rw (ne_eqb c.args.code 32 c.in_default.in_default-own.rest.0.0.1, ne_eqb c.args.code 33 c.in_default.in_default-own.rest.0.1, ne_eqb c.args.code 34 c.in_default.in_default-own.rest.1) c.put_other_meaning.ensures
