-- The first record is searched into the first cell and status byte, and the others into the rest. The recursion ends since `most` falls.
use Prim.Native.Nat.{ℕ, ◌+◌, ◌-◌, ◌*◌, ◌≤◌}
use mathlib.Core.Path.{sym, ◌∙◌}
use native.Mathlib.Omega.{arith}
use borrow.Author.Rules.{rules}
use lib.ListN.{length, take, drop}
use Rattle.batch.specs.cutting.Records.{records}
use Rattle.batch.proofs.cutting.Cutting.{none_asked, none_here, long_rest}
use Rattle.batch.proofs.cells.Filling.{untouched, enough, cells_grown, statuses_grown}
use Rattle.batch.proofs.+search_each.Goals as goal
use Rattle.batch.proofs.+search_each.Goals.{Else-size-eq0}

-- there is a record at the front, and room for it and the rest
room : (t : ℕ) (c : Else-size-eq0 t)
    → (15 + 15 * length (records (c.args.most - 1) (take (length c.args.jobs.now - c.record_size-size.result) (drop c.record_size-size.result c.args.jobs.now))) ≤ length c.args.answers.now)
    × (1 + length (records (c.args.most - 1) (take (length c.args.jobs.now - c.record_size-size.result) (drop c.record_size-size.result c.args.jobs.now))) ≤ length c.args.statuses.now)
room t c =
    enough c.args.most c.args.jobs.now c.record_size-size.result c.if-most-eq0.false c.record_size-size.ensures.value c.if-size-eq0.false
    (length c.args.answers.now) (length c.args.statuses.now) c.requires.jobs_in_bounds c.requires.jobs_in_bounds_2

cell : (t : ℕ) (c : Else-size-eq0 t) → 15 ≤ length c.args.answers.now
cell t c = let h = (room t c).0 in omega arith

place : (t : ℕ) (c : Else-size-eq0 t) → 1 ≤ length c.args.statuses.now
place t c = let h = (room t c).1 in omega arith

pub returns-then-most-eq0-clause-answers_after : goal.returns-then-most-eq0-clause-answers_after
returns-then-most-eq0-clause-answers_after t c = (untouched _ c.args.answers.now c.args.statuses.now (none_asked c.args.most c.args.jobs.now c.if-most-eq0.true)).0

pub returns-then-most-eq0-clause-statuses_after : goal.returns-then-most-eq0-clause-statuses_after
returns-then-most-eq0-clause-statuses_after t c = (untouched _ c.args.answers.now c.args.statuses.now (none_asked c.args.most c.args.jobs.now c.if-most-eq0.true)).1

pub returns-then-size-eq0-clause-statuses_after : goal.returns-then-size-eq0-clause-statuses_after
returns-then-size-eq0-clause-statuses_after t c =
    (untouched _ c.args.answers.now c.args.statuses.now
    (none_here c.args.most c.args.jobs.now (sym c.record_size-size.ensures.value ∙ c.if-size-eq0.true))).1

pub returns-then-size-eq0-clause-answers_after : goal.returns-then-size-eq0-clause-answers_after
returns-then-size-eq0-clause-answers_after t c =
    (untouched _ c.args.answers.now c.args.statuses.now
    (none_here c.args.most c.args.jobs.now (sym c.record_size-size.ensures.value ∙ c.if-size-eq0.true))).0

pub search_front-requires-clause-in_bounds : goal.search_front-requires-clause-in_bounds
search_front-requires-clause-in_bounds t c = cell t (goal.at.search_front-requires-clause-in_bounds t c).Else-size-eq0

pub search_front-requires-clause-in_bounds_2 : goal.search_front-requires-clause-in_bounds_2
search_front-requires-clause-in_bounds_2 t c = place t (goal.at.search_front-requires-clause-in_bounds_2 t c).Else-size-eq0

pub slice_bounds-search_each-count-2 : goal.slice_bounds-search_each-count-2
slice_bounds-search_each-count-2 t c = let h = cell t (goal.at.slice_bounds-search_each-count-2 t c).Else-size-eq0 in search rules

pub slice_bounds-search_each-start-2 : goal.slice_bounds-search_each-start-2
slice_bounds-search_each-start-2 t c = let h = cell t (goal.at.slice_bounds-search_each-start-2 t c).Else-size-eq0 in search rules

pub slice_bounds-search_each-count-3 : goal.slice_bounds-search_each-count-3
slice_bounds-search_each-count-3 t c = let h = place t (goal.at.slice_bounds-search_each-count-3 t c).Else-size-eq0 in search rules

pub slice_bounds-search_each-start-3 : goal.slice_bounds-search_each-start-3
slice_bounds-search_each-start-3 t c = let h = place t (goal.at.slice_bounds-search_each-start-3 t c).Else-size-eq0 in search rules

pub search_each-requires : goal.search_each-requires
search_each-requires t c =
    let r = room t (goal.at.search_each-requires t c).Else-size-eq0 in
    let a = r.0 in
    let b = r.1 in
    let x = c.search_front.auto.answers in
    let y = c.search_front.auto.statuses in
    (omega arith, (long_rest _ 15 c.search_front.new.answers (omega arith), long_rest _ 1 c.search_front.new.statuses (omega arith)))

pub returns-clause-statuses_after : goal.returns-clause-statuses_after
returns-clause-statuses_after t c =
    statuses_grown c.args.most c.args.jobs.now c.record_size-size.result c.if-most-eq0.false c.record_size-size.ensures.value c.if-size-eq0.false
    c.args.statuses.now c.search_front.new.statuses c.search_each.new.statuses (place t (goal.at.returns-clause-statuses_after t c).Else-size-eq0)
    c.search_front.ensures.statuses_after c.search_each.ensures.statuses_after

pub returns-clause-answers_after : goal.returns-clause-answers_after
returns-clause-answers_after t c =
    cells_grown c.args.most c.args.jobs.now c.record_size-size.result c.if-most-eq0.false c.record_size-size.ensures.value c.if-size-eq0.false
    c.args.answers.now c.search_front.new.answers c.search_each.new.answers (cell t (goal.at.returns-clause-answers_after t c).Else-size-eq0)
    c.search_front.auto.answers c.search_front.ensures.answers_after c.search_each.ensures.answers_after
