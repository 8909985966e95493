use mathlib.Core.Path.{◌≡◌, sym, ap, ◌∙◌, subst}
use mathlib.Core.List.{List, ◌++◌}
use Prim.Native.Nat.{ℕ, ◌≤◌, ◌<◌}
use native.Mathlib.Omega.{arith}
use lib.ListN.{length, take, drop, length-append, length-drop}
use lib.Seq.{take-append-le, length-take-le}
use Rattle.peephole.specs.windows.Windows.{cost_at, better, rewritten, spliced}
use Rattle.peephole.specs.windows.Inner.{Still}
use Rattle.peephole.proofs.windows.Steps.{rewritten_stays}
use Rattle.peephole.proofs.windows.Scans.{turn_end, turn_cost, turn_still, turn_short}
use Rattle.table.specs.layouts.Layouts.{Width}
use Rattle.peephole.specs.declared.windows.Prices.{Prices}
use Rattle.peephole.specs.declared.hits.Hit.{Hit}
use Rattle.peephole.specs.Inner.{First, gates_in}
use Rattle.peephole.proofs.settle.Goals as goal
use Rattle.peephole.proofs.settle.Goals.{After-resume-from}

-- the gates that take a window's place are no more than the window's
few : (wires window : ℕ) (prices : Prices) (list : List ℕ) (hit : Hit) → Width wires → 1 ≤ window
    → First (better wires prices) window list hit → length (gates_in hit.offer) ≤ window
few wires window prices list hit width pos first =
    let f = first in
    turn_short wires window width prices pos list hit.at (gates_in hit.offer) f.fits f.before f.yielded

-- the list after a turn
module _ (c : After-resume-from) where
  abbrev hit : Hit
  hit = c.in-Some.hit

  abbrev old : List ℕ
  old = take c.loop-hit.count c.loop-hit.list

  abbrev gates : List ℕ
  gates = gates_in hit.offer

  abbrev count : ℕ
  count = c.replace-count.result

  abbrev last : List ℕ
  last = c.replace-count.new.list

  first : First (better c.args.wires c.args.prices) c.args.window old hit
  first = c.in-Some.ensures c.loop-hit.invariant.1.1.1.1

  fewer : length gates ≤ c.args.window
  fewer = few c.args.wires c.args.window c.args.prices old hit c.requires.width c.requires.le_window.0 first

  -- the gates are handed over as they stand in the record
  handed : c.gates.result.now ≡ gates
  handed = c.gates.ensures

  long : length last ≡ c.loop-hit.count
  long = c.replace-count.auto.list ∙ length-take-le c.loop-hit.count c.loop-hit.list c.loop-hit.invariant.0

  counted : (hit.at ≤ count) × (count ≤ length last)
  counted =
      let r = c.replace-count.ensures.value in
      let f = first.fits in
      let n = fewer in
      let same = ap length handed in
      let h = c.replace-count.auto.list in
      (omega arith, omega arith)

  new_is : take count (last ++ drop c.loop-hit.count c.loop-hit.list) ≡ spliced c.args.window hit.at gates old
  new_is = take-append-le count last (drop c.loop-hit.count c.loop-hit.list) counted.1 ∙ c.replace-count.ensures.list_after ∙ ap (λ (g : List ℕ). spliced c.args.window hit.at g old) handed

  cheaper : cost_at c.args.prices (take count (last ++ drop c.loop-hit.count c.loop-hit.list)) < cost_at c.args.prices old
  cheaper =
      subst (λ (x : List ℕ). cost_at c.args.prices x < cost_at c.args.prices old) (sym new_is)
      (turn_cost c.args.wires c.args.window c.requires.width c.args.prices c.requires.le_window.0 old hit.at gates first.fits first.before first.yielded)

  ends : rewritten c.args.wires c.args.window c.args.prices (take count (last ++ drop c.loop-hit.count c.loop-hit.list))
      ≡ rewritten c.args.wires c.args.window c.args.prices c.args.list.now
  ends =
      ap (rewritten c.args.wires c.args.window c.args.prices) new_is
      ∙ turn_end c.args.wires c.args.window c.requires.width c.args.prices c.requires.le_window.0 old hit.at gates first.fits first.before first.yielded
      ∙ c.loop-hit.invariant.1.1.1.0

  still : Still (better c.args.wires c.args.prices) c.args.window c.resume-from.result (take count (last ++ drop c.loop-hit.count c.loop-hit.list))
  still =
      subst (λ (x : List ℕ). Still (better c.args.wires c.args.prices) c.args.window c.resume-from.result x) (sym new_is)
      (subst (λ (i : ℕ). Still (better c.args.wires c.args.prices) c.args.window i (spliced c.args.window hit.at gates old)) (sym c.resume-from.ensures)
      (turn_still c.args.wires c.args.window c.requires.width c.args.prices c.requires.le_window.0 old hit.at gates first.fits first.before first.yielded))

pub replace-count-requires-clause-len_le_window : goal.replace-count-requires-clause-len_le_window
replace-count-requires-clause-len_le_window c =
    let n = few c.args.wires c.args.window c.args.prices _ c.in-Some.hit c.requires.width c.requires.le_window.0 (c.in-Some.ensures c.loop-hit.invariant.1.1.1.1) in
    omega (arith, n, ap length c.gates.ensures)

pub loop-hit-smaller : goal.loop-hit-smaller
loop-hit-smaller c = cheaper (goal.at.loop-hit-smaller c).After-resume-from

pub loop-hit-preserved : goal.loop-hit-preserved
loop-hit-preserved c =
    let q = (goal.at.loop-hit-preserved c).After-resume-from in
    let n = counted q in
    let joined = length-append c.replace-count.new.list (drop c.loop-hit.count c.loop-hit.list) in
    let left = length-drop c.loop-hit.count c.loop-hit.list in
    let size = long q in
    let f = first q in
    let fits = f.fits in
    let e = c.resume-from.ensures in
    let r = c.replace-count.ensures.value in
    let short = fewer q in
    let same = ap length (handed q) in
    (omega arith, (omega arith, (omega arith, (ends q, still q))))

pub returns-clause-list_after : goal.returns-clause-list_after
returns-clause-list_after c =
    let none = c.in_default.ensures c.loop-hit.invariant.1.1.1.1 in
    sym (rewritten_stays c.args.wires c.args.window c.requires.width c.args.prices (take c.loop-hit.count c.loop-hit.list) none)
    ∙ c.loop-hit.invariant.1.1.1.0
