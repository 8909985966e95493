-- The invariant: no bit was cleared, and the hash less each of the shares passed is in, except that of wire `but`.
use mathlib.Core.Path.{◌≡◌}
use mathlib.Core.Bool.{true}
use Prim.Native.Nat.{ℕ, ◌-◌, ◌<◌}
use lib.ListN.{length, get_or}
use Rattle.bloom.specs.bits.Places.{key_of, lit_at, Grown}
use Rattle.bloom.proofs.insert.mark_less.Given as goal

abbrev pub invariant-loop-w : goal.invariant-loop-w
invariant-loop-w l = (length l.bits ≡ length l.initial.bits) × Grown l.initial.bits l.bits × ((v : ℕ) → v < l.w → (v ≡ l.but → ⊥) → lit_at l.bits (key_of l.size (l.hash - get_or l.shares v 0)) ≡ true)
