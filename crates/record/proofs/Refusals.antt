-- Refusals and their numbers: none is 0, so a check that refuses gives the code of the first rule broken, whatever rules follow it.
use Rattle.std.proofs.Common.{◌≡◌, ℕ, ◌<◌, arith}
use borrow.Author.Tests.{ne_eqb}
use Rattle.logic.specs.Rules.{and_then}
use Rattle.logic.specs.Answers.{refused, answer_of}
use Rattle.record.specs.declared.refusal.Refusal.{Refusal}
use Rattle.record.specs.declared.refusal.Refusal.TheVariants as broken
use Rattle.record.specs.Answers.{number}

pub number_pos : (r : Refusal) → 0 < number r
number_pos broken.JobLength = omega arith
number_pos broken.JobSize = omega arith
number_pos broken.JobHead = omega arith
number_pos broken.GateLimit = omega arith
number_pos broken.Duration = omega arith
number_pos broken.Row = omega arith
number_pos broken.CircuitLength = omega arith
number_pos broken.CircuitHead = omega arith
number_pos broken.Layout = omega arith
number_pos broken.GateCount = omega arith
number_pos broken.OtherWires = omega arith
number_pos broken.AnswerRoom = omega arith
number_pos broken.NoCircuit = omega arith
number_pos broken.LayoutNotAllowed = omega arith
number_pos broken.TableMissed = omega arith
number_pos broken.TooManyGates = omega arith
number_pos broken.TooDear = omega arith
number_pos broken.TooDeep = omega arith
number_pos broken.Value = omega arith
number_pos broken.UnlawfulGate = omega arith
number_pos broken.TextForm = omega arith
number_pos broken.TextGates = omega arith
number_pos broken.DirtyAncilla = omega arith
number_pos broken.SizesLength = omega arith
number_pos broken.BatchForm = omega arith
number_pos broken.BatchRoom = omega arith
number_pos broken.UnfitMark = omega arith
number_pos broken.LibraryLength = omega arith
number_pos broken.LibraryEntry = omega arith
number_pos broken.UnlistedGate = omega arith
number_pos broken.Window = omega arith
number_pos broken.ListLength = omega arith
number_pos broken.ListGate = omega arith
number_pos broken.NoSlot = omega arith
number_pos broken.SlotTaken = omega arith
number_pos broken.SlotUnfinished = omega arith
number_pos broken.NotComparable = omega arith

module _ (r : Refusal) (code : ℕ) (h : number r ≡ code) where
  -- the rules that follow a broken one don't matter
  pub code_first : (rest : ℕ) → number r ≡ and_then code rest
  code_first rest = rw (ne_eqb code 0 (λ e. omega (arith, number_pos r))) h

  pub refused_first : {A : Type 0} (v : A) → refused (number r) ≡ answer_of code v
  refused_first v = rw (ne_eqb code 0 (λ e. omega (arith, number_pos r)), h)

pub ruleset refusals = (code_first, refused_first)
