-- The invariant: no bit was cleared, and for each share passed that is not 0, the hash less it and one before it is in.
use mathlib.Core.Path.{◌≡◌}
use mathlib.Core.Bool.{true}
use Prim.Native.Nat.{ℕ, ◌-◌, ◌<◌}
use lib.Dec.{eqb}
use lib.ListN.{length, get_or}
use Rattle.logic.specs.Rules.{pick}
use Rattle.bloom.specs.bits.Places.{key_of, lit_at, Grown}
use Rattle.bloom.proofs.insert.mark_pairs.Given as goal

abbrev pub invariant-loop-a : goal.invariant-loop-a
invariant-loop-a l = (length l.bits ≡ length l.initial.bits) × Grown l.initial.bits l.bits
    × ((v : ℕ) → v < l.a → (b : ℕ) → b < pick (eqb v l.but) 0 (pick (eqb (get_or l.shares v 0) 0) 0 v) → (b ≡ l.but → ⊥) → lit_at l.bits (key_of l.size (l.hash - get_or l.shares v 0 - get_or l.shares b 0)) ≡ true)
