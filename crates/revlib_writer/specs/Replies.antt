-- The answer of writing a text: a refusal with the documents' number, or the length of the text.
use Rattle.std.specs.Prelude.{ℕ, Result, Ok, Err}
use Rattle.record.specs.Answers.{number}
use Rattle.revlib.specs.Writing.{Reply}
use Rattle.revlib_writer.specs.declared.WriteError.{WriteError}

-- a buffer that is too short is document 01's 13, with the length that is needed
abbrev pub written_reply : Result ℕ WriteError → Reply ℕ
written_reply (Ok size) = Reply.answered size
written_reply (Err (WriteError.Refused r)) = Reply.refused (number r)
written_reply (Err (WriteError.Short needed)) = Reply.short 13 needed

-- the length that an answer states, 0 for a refusal: callers cut their buffer there
abbrev pub length_in : Result ℕ WriteError → ℕ
length_in (Ok size) = size
length_in (Err (WriteError.Refused r)) = 0
length_in (Err (WriteError.Short needed)) = needed
