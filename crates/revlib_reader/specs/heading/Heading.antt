-- What a heading that was read says of the text.
use Rattle.std.specs.Prelude.{◌≡◌, true, false, List, ℕ, length, take, Option, Some, None, Result, Ok, Err}
use Rattle.revlib.specs.Grammar.{ancilla_count, heading}
use Rattle.revlib.specs.Reading.{names_at, constants_in, heading_here}
use Rattle.revlib_reader.specs.declared.heading.Heading.{Heading}

pub record HeadingIs (s : List ℕ) (h : Heading) : Type 0 where
  pub sound : heading_here s ≡ true
  pub names : take h.wires h.names ≡ names_at s
  pub spare : h.ancillas ≡ ancilla_count (constants_in s)
  pub end : h.end ≡ length (heading (names_at s) (constants_in s))

-- no heading in order stands there; its letters, wires and ancillas were read off their places all the same
pub record HeadingBroken (s : List ℕ) (h : Heading) : Type 0 where
  pub unsound : heading_here s ≡ false
  pub names : take h.wires h.names ≡ names_at s
  pub spare : h.ancillas ≡ ancilla_count (constants_in s)

-- what is told of a heading, in order or not
abbrev pub HeadingTold : List ℕ → Result Heading Heading → Type 0
HeadingTold s (Ok h) = HeadingIs s h
HeadingTold s (Err h) = HeadingBroken s h

-- there is a heading exactly where one in order stands at the start of the text
abbrev pub HeadingRead : List ℕ → Option Heading → Type 0
HeadingRead s None = heading_here s ≡ false
HeadingRead s (Some h) = HeadingIs s h
