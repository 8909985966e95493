use mathlib.Core.Path.{◌≡◌, refl, sym, ap, ◌∙◌}
use mathlib.Core.Bool.{Bool, true, false, not}
use Prim.Native.Nat.{ℕ, ◌+◌}
use borrow.Author.Tests.{eq-eqb, ne_eqb}
use mathlib.Core.List.{List}
use lib.Dec.{eqb}
use lib.ListN.{get_or}
use Rattle.logic.specs.Rules.{both, either, bit}
use Rattle.logic.proofs.Chains.{from_bool_is_bit}
use Rattle.columns.specs.declared.Wanted.{Wanted}
use Rattle.columns.specs.Wanted.{dirt}
use Rattle.outputs.specs.Owed.{Controls, owed, lost, up_to, mendable, cleanable, fixable, stuck}
use Rattle.outputs.specs.products.Products.{part}
use Rattle.repairs.proofs.matches.Joined.{bit_none}
use Rattle.repairs.proofs.stuck.Parts.{fixable_parts}
use Rattle.repairs.proofs.stuck.stuck.Goals as goal
use Rattle.repairs.proofs.stuck.stuck.Goals.{Joined-not-cleanable, then-most-ne0, else-most-ne0, then-not-cleanable, else-not-cleanable}

-- the sum is what is lost
least : (t : Wanted) (cs : List ℕ) (n free missed dirty spilt : ℕ) → missed ≡ owed t cs n free 4 → dirty ≡ bit (not (eqb spilt 0))
    → spilt ≡ dirt n (get_or cs n 0) → missed + dirty ≡ lost t cs n free
unfolding lost
least t cs n free missed dirty spilt e f g = let h = f ∙ ap (λ d. bit (not (eqb d 0))) g in λ i. e i + h i

-- what gates put right, in the order in which the code asks
parted : (k : ℕ) (t : Wanted) (cs : List ℕ) (n free : ℕ) → Controls k
    → fixable (up_to k) t cs n free
    ≡ either (either (cleanable (part false) cs n) (mendable (part false) t cs n free)) (both (not (eqb k 2)) (fixable (part true) t cs n free))
unfolding fixable
parted k t cs n free h = fixable_parts cs t k n free h

-- a test told as a bit
told : (b : Bool) (r : ℕ) → r ≡ bit b → eqb r 0 ≡ not b
told b r h = ap (λ x. eqb x 0) h ∙ bit_none b

pub returns-then-least-most : goal.returns-then-least-most
unfolding stuck
returns-then-least-most c = rw (← least c.args.t c.args.columns c.args.n c.args.free _ _ _ c.missing.ensures.value (c.from.ensures ∙ from_bool_is_bit _) c.spilt-dirt.ensures, ne_eqb _ _ c.if-least-most.true)

-- the tests in the order in which the code makes them
in_turn : (m a b e f : Bool) → both (not m) (not (either (either a b) (both (not e) f))) ≡ both (both (both (not m) (not a)) (not b)) (either e (not f))
in_turn true a b e f = refl
in_turn false true b e f = refl
in_turn false false true e f = refl
in_turn false false false true f = refl
in_turn false false false false f = refl

-- more than nothing is lost, and no product of at most two columns puts any of it right
none_of_two : (c : Joined-not-cleanable)
    → c.if-not-cleanable.value
    ≡ both (both (not (eqb c.args.most 0)) (not (cleanable (part false) c.args.columns c.args.n))) (not (mendable (part false) c.args.t c.args.columns c.args.n c.args.free))
none_of_two c = second
  where
    m : Bool
    m = mendable (part false) c.args.t c.args.columns c.args.n c.args.free

    k : Bool
    k = cleanable (part false) c.args.columns c.args.n

    first : c.if-most-ne0.value ≡ both (not (eqb c.args.most 0)) (not k)
    first = elim c.if-most-ne0.branch [ then-most-ne0 w ↦ rw (ne_eqb _ _ w.if-most-ne0.true) (w.value-is ∙ ap not w.cleanable.ensures) | else-most-ne0 w ↦ rw w.if-most-ne0.false (rw w.if-most-ne0.false at w.value-is) ]

    second : c.if-not-cleanable.value ≡ both (both (not (eqb c.args.most 0)) (not k)) (not m)
    second = elim c.if-not-cleanable.branch [ then-not-cleanable w ↦ rw (sym first ∙ w.if-not-cleanable.true) (w.value-is ∙ told m _ w.mendable.ensures) | else-not-cleanable w ↦ rw (sym first ∙ w.if-not-cleanable.false) (w.value-is ∙ w.if-not-cleanable.false) ]

asked : (c : Joined-not-cleanable)
    → stuck c.args.controls c.args.t c.args.columns c.args.n c.args.free c.args.most
    ≡ both c.if-not-cleanable.value (either (eqb c.args.controls 2) (not (fixable (part true) c.args.t c.args.columns c.args.n c.args.free)))
unfolding stuck
asked c =
    rw (
      ← least c.args.t c.args.columns c.args.n c.args.free _ _ _ c.missing.ensures.value (c.from.ensures ∙ from_bool_is_bit _) c.spilt-dirt.ensures,
      eq-eqb _ _ c.if-least-most.false,
      parted c.args.controls c.args.t c.args.columns c.args.n c.args.free c.requires.0,
      none_of_two c,
    )
    (in_turn (eqb c.args.most 0) (cleanable (part false) c.args.columns c.args.n) (mendable (part false) c.args.t c.args.columns c.args.n c.args.free) (eqb c.args.controls 2) (fixable (part true) c.args.t c.args.columns c.args.n c.args.free))

pub returns-then-controls-eq2 : goal.returns-then-controls-eq2
returns-then-controls-eq2 c = rw (asked (goal.at.returns-then-controls-eq2 c).Joined-not-cleanable, c.if-mendable-eq0.true, eq-eqb _ _ c.if-controls-eq2.true) refl

pub returns-else-controls-eq2 : goal.returns-else-controls-eq2
returns-else-controls-eq2 c = rw (asked (goal.at.returns-else-controls-eq2 c).Joined-not-cleanable, c.if-mendable-eq0.true, ne_eqb _ _ c.if-controls-eq2.false, ← c.wide_fixable.ensures) refl

pub returns-else-mendable-eq0 : goal.returns-else-mendable-eq0
returns-else-mendable-eq0 c = rw (asked (goal.at.returns-else-mendable-eq0 c).Joined-not-cleanable, c.if-mendable-eq0.false) refl
