-- A way to finish: a gate list that leads from a state to the table. Every bound of the search is a law about it.
use Rattle.std.specs.Prelude.{◌≡◌, true, ℕ, length}
use mathlib.Core.List.{List, Memᴰ}
use Rattle.logic.specs.Lists.{all_of}
use Rattle.gate.specs.Gates.{lawful}
use Rattle.circuit.specs.run.Inner.{columns_after}
use Rattle.table.specs.layouts.Layouts.{Width, layouts_for}
use Rattle.columns.specs.declared.Wanted.{Wanted}
use Rattle.columns.specs.Wanted.{met, tidy}

-- a list of gates with at most k controls leads from these columns to columns that meet the wanted ones of n outputs under an allowed
-- layout, with the ancilla at 0
pub record Finish (k : ℕ) (t : Wanted) (n free : ℕ) (cs e : List ℕ) (p : ℕ) : Type 0 where
  pub width : Width n
  pub four : length t.care ≡ 4
  pub five : length cs ≡ 5
  pub kept : all_of (lawful k 5) e ≡ true
  pub laid : Memᴰ p (layouts_for n free)
  pub meets : met t (columns_after e cs) p ≡ true
  pub tidied : tidy n (columns_after e cs) ≡ true
