-- What a call answers: the number of a refusal, as documents 01 and 02 give it, or a value.
use Rattle.std.specs.Prelude.{ℕ, Result, Ok, Err}
use Rattle.logic.specs.Answers.{Answer, refused, answered, answer_of}
use Rattle.record.specs.declared.refusal.Refusal.{Refusal}
use Rattle.record.specs.declared.refusal.Refusal.TheVariants as broken

-- 11 is reserved and unused
abbrev pub number : Refusal → ℕ
number broken.JobLength = 1
number broken.JobSize = 2
number broken.JobHead = 3
number broken.GateLimit = 4
number broken.Duration = 5
number broken.Row = 6
number broken.CircuitLength = 7
number broken.CircuitHead = 8
number broken.Layout = 9
number broken.GateCount = 10
number broken.OtherWires = 12
number broken.AnswerRoom = 13
number broken.NoCircuit = 14
number broken.LayoutNotAllowed = 15
number broken.TableMissed = 16
number broken.TooManyGates = 17
number broken.TooDear = 18
number broken.TooDeep = 19
number broken.Value = 20
number broken.UnlawfulGate = 21
number broken.TextForm = 22
number broken.TextGates = 23
number broken.DirtyAncilla = 24
number broken.SizesLength = 25
number broken.BatchForm = 26
number broken.BatchRoom = 27
number broken.UnfitMark = 28
number broken.LibraryLength = 29
number broken.LibraryEntry = 30
number broken.UnlistedGate = 31
number broken.Window = 32
number broken.ListLength = 33
number broken.ListGate = 34
number broken.NoSlot = 35
number broken.SlotTaken = 36
number broken.SlotUnfinished = 37
number broken.NotComparable = 38

-- the code of the first rule broken, or 0
abbrev pub code_of : {A : Type 0} → Result A Refusal → ℕ
code_of (Ok value) = 0
code_of (Err r) = number r

-- the value, or a refusal with the number of the first rule broken
abbrev pub reply : {A : Type 0} → Result A Refusal → Answer A
reply (Ok value) = answered value
reply (Err r) = refused (number r)

-- the answer of a check for the code of the first rule broken
abbrev pub check_of : ℕ → Answer (Unit {0})
check_of code = answer_of code tt
