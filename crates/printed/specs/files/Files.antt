-- What `gazbolk verify` and `gazbolk search` print for the bytes of a job, of a circuit and of a library, if one is named.
use Rattle.std.specs.Prelude.{◌≡◌, Bool, List, [], ◌++◌, ℕ, take}
use Rattle.std.specs.Prelude as Lent
use Rattle.std.specs.Prelude.{Some, None}
use denote.Ref.{Bor}
use Rattle.std.proofs.Math.Option.{Option, none, some}
use Rattle.logic.specs.Rules.{pick}
use Rattle.logic.specs.Answers.{Answer, refused, answered}
use Rattle.logic.specs.Words.{bytes}
use Rattle.circuit.specs.declared.measures.Measures.{Measures}
use Rattle.verify.specs.Calls.{verify_of}
use Rattle.outcomes.specs.Outcomes.{Found, search_of}
use Rattle.library.specs.calls.Calls.{verify_with, search_with}
use Rattle.revlib.specs.Reading.{starts, read_of}
use Rattle.text.specs.pieces.Text.{line_feed}
use Rattle.printed.specs.job_line.Lines.{line_for}
use Rattle.reports.specs.sentences.Meanings.{meaning}
use Rattle.reports.specs.refusal.Report.{report_of}

-- RevLib text begins with this word, and no sound record does: a full stop as its first byte would say that it has one data wire
unfoldable pub is_text : List ℕ → Bool
is_text file = starts (bytes ".version") file

-- the record that a file holds: the one that its text describes, or the file itself
unfoldable pub circuit_in : List ℕ → Answer (List ℕ)
circuit_in file = pick (is_text file) (read_of file 15) (answered file)

-- the bytes of the library, where one is lent
abbrev pub lent : Lent.Option (Bor (List ℕ)) → Option (List ℕ)
lent None = none
lent (Some library) = some library.now

-- verifying a circuit, with a library or without one
unfoldable pub verdict : List ℕ → Option (List ℕ) → List ℕ → Answer Measures
verdict job none circuit = verify_of job circuit
verdict job (some library) circuit = verify_with job library circuit

-- searching, with a library or without one
unfoldable pub finding : List ℕ → Option (List ℕ) → ℕ → Answer Found
finding job none room = search_of job room
finding job (some library) room = search_with job library room

-- "Buyers send RevLib `.real` text and want it judged": a text that gives no circuit is refused, with its own number, before the job is
-- looked at
abbrev pub verdict_on : List ℕ → Option (List ℕ) → Answer (List ℕ) → Answer Measures
verdict_on job library (refused code) = refused code
verdict_on job library (answered circuit) = verdict job library circuit

-- the verdict on the circuit of a file
unfoldable pub verify_file : List ℕ → Option (List ℕ) → List ℕ → Answer Measures
verify_file job library file = verdict_on job library (circuit_in file)

-- `gazbolk verify`
unfoldable pub verify_text : List ℕ → Option (List ℕ) → List ℕ → List ℕ
verify_text job library file = report_of (verify_file job library file)

-- after a refusal, a second line with what its number means
abbrev pub explained : Answer Found → List ℕ
explained (refused code) = meaning code ++ line_feed
explained (answered f) = []

-- `gazbolk search`: the line that `main` prints, and what a refusal means
unfoldable pub search_text : List ℕ → Option (List ℕ) → List ℕ
search_text job library = line_for (finding job library 15) ++ explained (finding job library 15)

-- the first `room` bytes of a job, of a circuit's file or of a library decide what is printed, however long it is
pub record TellingJob (room : ℕ) : Type 0 where
  pub verified : (job file : List ℕ) (library : Option (List ℕ)) → verify_text (take room job) library file ≡ verify_text job library file
  pub searched : (job : List ℕ) (library : Option (List ℕ)) → search_text (take room job) library ≡ search_text job library

abbrev pub TellingCircuit : ℕ → Type 0
TellingCircuit room =
    (job file : List ℕ) (library : Option (List ℕ)) → verify_text job library (take room file) ≡ verify_text job library file

pub record TellingLibrary (room : ℕ) : Type 0 where
  pub verified : (job file library : List ℕ) → verify_text job (some (take room library)) file ≡ verify_text job (some library) file
  pub searched : (job library : List ℕ) → search_text job (some (take room library)) ≡ search_text job (some library)
