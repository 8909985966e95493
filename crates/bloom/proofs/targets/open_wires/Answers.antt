-- By how many gates may still come: one wire is left out, or two are, or the filter is not asked.
use mathlib.Core.Path.{◌≡◌, refl, sym, ap, ◌∙◌}
use mathlib.Core.Bool.{Bool, true, false}
use mathlib.Core.List.{List}
use Prim.Native.Nat.{ℕ, ◌+◌, ◌/◌, ◌<◌}
use native.Mathlib.Omega.{arith}
use borrow.Author.Tests.{le-leb, lt-leb}
use lib.Dec.{leb}
use lib.ListN.{length}
use Rattle.std.proofs.lemmas.Bool.{eqb-true}
use Rattle.logic.specs.Rules.{pick, bit, some_below}
use Rattle.logic.specs.Bit.{bit_of}
use Rattle.logic.proofs.Counts.{some_at}
use Rattle.bloom.specs.declared.hash.Reach.{Reach}
use Rattle.bloom.specs.hash.Reach.{shares_of, part_of, held, open_on}
use Rattle.bloom.specs.bits.Places.{key_of, lit_at}
use Rattle.bloom.proofs.hash.Words.{spelt}
use Rattle.bloom.proofs.targets.open_wires.Goals as goal

-- every wire
all_open : (w : ℕ) → w < 5 → bit_of w 31 ≡ bit true
all_open = spelt (λ v. 1) (λ v. omega arith)

-- with no bits every state is in the set, whatever is left out
module _ (bits : List ℕ) (none : length bits ≡ 0) where
  lit : (k : ℕ) → lit_at bits k ≡ true
  unfolding lit_at
  lit k = rw (le-leb (length bits) (k / 4096) (omega arith))

  open_all : (r : Reach) (ss : List ℕ) (left w : ℕ) → open_on bits r ss left w ≡ true
  unfolding open_on
  open_all r ss left w = by_radius (leb left r.radius) (leb left (r.radius + 1))
    where
      by_radius : (a b : Bool) → pick a (held bits r.size ss w w) (pick b (some_below 5 (held bits r.size ss w)) true) ≡ true
      by_radius true b = lit (key_of r.size (part_of ss w w))
      by_radius false true = some_at (held bits r.size ss w) 5 0 (omega arith) (lit (key_of r.size (part_of ss w 0)))
      by_radius false false = refl

pub returns-then-is_empty : goal.returns-then-is_empty
returns-then-is_empty c =
    λ w l.
    all_open w l ∙ ap bit (sym (open_all c.args.bits.now (eqb-true _ _ (sym c.is_empty.ensures ∙ c.if-is_empty.true)) c.args.reach (shares_of c.args.reach c.args.columns) c.args.left w))

pub returns-then-left-reach : goal.returns-then-left-reach
unfolding open_on
returns-then-left-reach c =
    λ w l.
    rw (le-leb c.args.left c.args.reach.radius c.if-left-reach.true)
    (c.open_alone.ensures w l ∙ ap (λ (ss : List ℕ). bit (held c.args.bits.now c.args.reach.size ss w w)) c.shares.ensures)

pub returns-then-left-reach-2 : goal.returns-then-left-reach-2
unfolding open_on
returns-then-left-reach-2 c =
    λ w l.
    rw (lt-leb c.args.left c.args.reach.radius (omega arith), le-leb c.args.left (c.args.reach.radius + 1) (omega arith))
    (c.open_pairs.ensures w l ∙ ap (λ (ss : List ℕ). bit (some_below 5 (held c.args.bits.now c.args.reach.size ss w))) c.shares-then-left-reach-2.ensures)

pub returns-else-left-reach-2 : goal.returns-else-left-reach-2
unfolding open_on
returns-else-left-reach-2 c =
    λ w l.
    rw (lt-leb c.args.left c.args.reach.radius (omega arith), lt-leb c.args.left (c.args.reach.radius + 1) (omega arith)) (all_open w l)
