-- When a text fits the form of change request 1, as the promises on reading say it.
use Rattle.std.specs.Prelude.{◌≡◌, true, List, ℕ, ◌≤◌, length}
use Rattle.revlib.specs.Grammar.{Description, well_formed, render}

-- the text is the rendering of the well-formed description d, and "The text is at most 4,096 bytes"
pub record Fits (text : List ℕ) (d : Description) : Type 0 where
  pub well : well_formed d ≡ true
  pub rendered : render d ≡ text
  pub short : length text ≤ 4096
