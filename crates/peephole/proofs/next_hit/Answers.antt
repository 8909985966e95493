use mathlib.Core.Path.{◌≡◌, sym, ap, ◌∙◌}
use mathlib.Core.List.{List}
use Prim.Native.Nat.{ℕ, ◌+◌, ◌-◌}
use native.Mathlib.Omega.{arith}
use lib.ListN.{take, drop}
use Rattle.peephole.specs.windows.Windows.{better, window_at}
use Rattle.peephole.proofs.windows.Scans.{still_more, still_all}
use Rattle.std.specs.Prelude.{Some, None}
use mathlib.Core.Option.{Option, none, some}
use Rattle.peephole.specs.declared.hits.Offer.{Offer}
use Rattle.peephole.specs.Inner.{offered, gates_in}
use Rattle.peephole.proofs.next_hit.Goals as goal

-- the part that is lent is the window
window_is : (k i : ℕ) (l : List ℕ) → take (i + k - i) (drop i l) ≡ window_at k i l
window_is k i l = let e : i + k - i ≡ k = omega arith in ap (λ (n : ℕ). take n (drop i l)) e

module _ {answer : Option (List ℕ)} where
  offered_some : (o : Offer) → offered (Some o) ≡ answer → some (gates_in o) ≡ answer
  unfolding offered
  offered_some o e = e

  offered_none : offered None ≡ answer → none ≡ answer
  unfolding offered
  offered_none e = e

pub returns-in-Some : goal.returns-in-Some
returns-in-Some c =
    λ still. record {
      fits = let h = c.loop-at-test.true in omega (arith, c.saturating_sub-end.ensures);
      before = c.loop-at.invariant.1 still;
      yielded =
          ap (better c.args.wires c.args.prices) (sym (window_is c.args.window c.loop-at.at c.args.list.now))
          ∙ sym (offered_some c.in-Some.offer c.in-Some.ensures);
    }

pub loop-at-preserved : goal.loop-at-preserved
loop-at-preserved c =
    let h = c.loop-at-test.true in
    let k = c.requires.le_window.0 in (
      omega (arith, c.saturating_sub-end.ensures),
      λ still.
          still_more (better c.args.wires c.args.prices) c.args.window c.args.list.now c.loop-at.at (c.loop-at.invariant.1 still)
          (ap (better c.args.wires c.args.prices) (sym (window_is c.args.window c.loop-at.at c.args.list.now))
          ∙ sym (offered_none c.in_default.ensures)),
    )

pub returns : goal.returns
returns c =
    λ still. still_all (better c.args.wires c.args.prices) c.args.window c.args.list.now c.loop-at.at c.requires.le_window.0 c.loop-at.invariant.0
    (let h = c.loop-at-test.false in omega (arith, c.saturating_sub-end.ensures)) (c.loop-at.invariant.1 still)
