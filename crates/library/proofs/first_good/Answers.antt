-- The entries of a sound library are its gates with their prices and durations.
use mathlib.Core.Path.{◌∙◌}
use Rattle.library.specs.calls.Calls.{set_in}
use Rattle.library.proofs.calls.Sound.{sound_library}
use Rattle.library.proofs.calls.Columns.{tabled, lawful_entries}
use Rattle.library.proofs.first_good.Goals as goal

pub stock-stock-requires : goal.stock-stock-requires
stock-stock-requires c = (sound_library c.args.job.now c.args.library.now c.requires.library_value).few

pub solve_among-requires-clause-lawfuls : goal.solve_among-requires-clause-lawfuls
solve_among-requires-clause-lawfuls c =
    let e = c.entries.ensures ∙ c.stock-stock.ensures in rw e (lawful_entries c.args.job.now c.args.library.now c.requires.library_value)

pub returns : goal.returns
returns c =
    let e = c.entries.ensures ∙ c.stock-stock.ensures in
    c.solve_among.ensures (set_in c.args.library.now) (rw e (tabled c.args.job.now c.args.library.now c.requires.library_value))
