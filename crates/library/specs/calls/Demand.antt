-- Demand 2 with a library, in its own words: "a pass needs each gate listed".
use Rattle.std.specs.Prelude.{◌≡◌, List, ℕ}
use Rattle.logic.specs.Lists.{Among}
use Rattle.record.specs.circuit_fields.Circuits.{gates}
use Rattle.verify.specs.Demand.{PassesAt}
use Rattle.library.specs.entries.Library.{gates_in, price_in, duration_in, library_code}

pub record PassesWith (job lib c : List ℕ) : Type 0 where
  -- "a table that breaks neither 29 nor 30"
  pub library_sound_law : library_code job lib ≡ 0
  -- "each gate listed"
  pub all_listed : Among (gates_in lib) (gates c)
  -- and demand 2's words on verifying, at the library's prices and durations
  pub passes : PassesAt (price_in lib) (duration_in lib) job c
