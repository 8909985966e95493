-- Reach filters: the states within some gates of what is wanted, on the rows that want every output; and what makes a filter right.
use Rattle.std.specs.Prelude.{◌≡◌, true, ℕ, zero, suc, ◌+◌, ◌≤◌, ◌<◌, ltb, length, get_or}
use mathlib.Core.List.{List, map, Memᴰ}
use Rattle.std.specs.Int.Bits.{bit_and}
use Rattle.logic.specs.Rules.{pick}
use Rattle.logic.specs.Lists.{numbers_from, Among}
use Rattle.gate.specs.Gates.{lawful, gate_of}
use Rattle.gate.specs.Inner.{column_step}
use Rattle.circuit.specs.run.Inner.{columns_after}
use Rattle.table.specs.layouts.Layouts.{layouts_for}
use Rattle.columns.specs.declared.Wanted.{Wanted}
use Rattle.columns.specs.Wanted.{start_columns, all_rows}
use Rattle.columns.specs.Finish.{Finish}
use Rattle.bounds.specs.span.Span.{full_rows}
use Rattle.bloom.specs.declared.hash.Reach.{Reach}
use Rattle.bloom.specs.hash.Reach.{Seen}
use Rattle.reach_filter.specs.mirrors.Mirrors.{wire_at, mirrors}

-- P holds of every state that at most k of these gates lead to from cs
unfoldable pub Near : (List ℕ → Type 0) → List ℕ → List ℕ → ℕ → Type 0
Near P gates cs zero = P cs
Near P gates cs (suc k) = P cs × ((i : ℕ) → i < length gates → Near P gates (column_step (gate_of (get_or gates i 0)) cs) k)

-- the rows that a filter looks at: those of the table that want every output
unfoldable pub rows_of : Wanted → ℕ → ℕ
rows_of t n = bit_and (full_rows t n) (all_rows n)

-- what is wanted of wire w under the plain layout: its output, or 0 if it has none
abbrev pub aim_at : Wanted → ℕ → ℕ → ℕ
aim_at t n w = pick (ltb w n) (get_or t.value w 0) 0

-- the wanted columns of the plain layout
unfoldable pub aim_of : Wanted → ℕ → List ℕ
aim_of t n = map (aim_at t n) (numbers_from 0 5)

-- what a layout is tested for: every gate of the list has a mirror in it, and each wire has the factor of the wire that it is renamed to
pub record Suits (gates factors : List ℕ) (n p : ℕ) : Type 0 where
  pub mirrored : (i : ℕ) → i < length gates → (h : ℕ) × (Memᴰ h gates × (mirrors n p (get_or gates i 0) h ≡ true))
  pub even : (w : ℕ) → w < 5 → get_or factors (wire_at n p w) 0 ≡ get_or factors w 0

-- one filling serves every allowed layout: the gates are closed under it, and each wire has the same factor as the wire that it is renamed
-- to
pub record Sound (gates : List ℕ) (r : Reach) (n free : ℕ) : Type 0 where
  pub kinds : (g : ℕ) → Memᴰ g gates → lawful 3 (n + 1) g ≡ true
  pub closed : (p : ℕ) → Memᴰ p (layouts_for n free) → (g : ℕ) → Memᴰ g gates
      → (h : ℕ) × (Memᴰ h gates × (mirrors n p g h ≡ true))
  pub even : (p : ℕ) → Memᴰ p (layouts_for n free) → (w : ℕ) → w < 5 → get_or r.factors (wire_at n p w) 0 ≡ get_or r.factors w 0

-- the filter is right: every state that the gates lead to from the start, and from which they finish within the radius, is in it
pub record Sieve (bits : List ℕ) (r : Reach) (gates : List ℕ) (k : ℕ) (t : Wanted) (n free : ℕ) : Type 0 where
  pub seen : (l e : List ℕ) (p : ℕ) → Among gates l → Among gates e → Finish k t n free (columns_after l start_columns) e p
      → length e ≤ r.radius
      → Seen bits r (columns_after l start_columns)

-- a filter of no bits, in which all states have the same place
unfoldable pub emptied : Reach → Reach
emptied r = record { radius = 0; size = 0; rows = r.rows; factors = r.factors }
