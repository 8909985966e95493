-- A job longer than every job, a file longer than every text and a library longer than every library are refused by their length, whatever
-- follows.
use mathlib.Core.Path.{◌≡◌, refl, sym, ap, ◌∙◌}
use mathlib.Core.Bool.{Bool, true, false}
use mathlib.Core.List.{List, [], ◌∷◌, ◌++◌}
use mathlib.Core.Option.{Option, none, some}
use Prim.Native.Nat.{ℕ, zero, suc, ◌≤◌, ◌<◌}
use native.Mathlib.Omega.{arith}
use borrow.Author.Tests.{ne_eqb, lt-leb}
use lib.Dec.{eqb}
use lib.ListN.{length, take}
use Rattle.logic.specs.Rules.{both, pick, and_then}
use Rattle.logic.specs.Answers.{Answer, refused, answered, answer_of}
use Rattle.logic.specs.Words.{bytes}
use Rattle.logic.proofs.Chain.{and_then_zero}
use Rattle.logic.proofs.Prefixes.{cut_length, any_length, told_by}
use Rattle.record.specs.JobRules.{longest_job, job_code}
use Rattle.record.proofs.Long.{long_job}
use Rattle.record.proofs.circuit_rules.Sound.{long_circuit}
use Rattle.verify.specs.Calls.{measures_for, verify_code, verify_of, verify_rest}
use Rattle.record.specs.pair_codes.Codes.{circuit_code_for, measure_code, search_code}
use Rattle.outcomes.specs.Outcomes.{Found, search_over, search_of}
use Rattle.library.specs.entries.Library.{library_size_ok, library_code}
use Rattle.library.specs.calls.Calls.{job_with_code, circuit_with_code, measures_in, rest_with_code, verify_with_code, verify_with, search_with_code, search_with}
use Rattle.revlib.specs.Reading.{starts, read_of}
use Rattle.printed.specs.job_line.Lines.{line_for}
use Rattle.reports.specs.refusal.Report.{report_of}
use Rattle.printed.specs.files.Files.{is_text, circuit_in, verdict, finding, verdict_on, verify_file, verify_text, explained, search_text, TellingJob, TellingCircuit, TellingLibrary}

-- a job of another length
job_verdict : (circuit : List ℕ) (library : Option (List ℕ)) (job : List ℕ) → longest_job < length job → verdict job library circuit ≡ refused 1
unfolding verdict verify_of verify_code measure_code verify_with verify_with_code circuit_with_code job_with_code
job_verdict circuit none job h = rw (long_job job h)
job_verdict circuit (some library) job h = rw (long_job job h)

job_finding : (library : Option (List ℕ)) (job : List ℕ) → longest_job < length job → finding job library 15 ≡ refused 1
unfolding finding search_of search_code search_with search_with_code job_with_code search_over
job_finding none job h = rw (long_job job h)
job_finding (some library) job h = rw (long_job job h)

-- what is printed for a verdict on each circuit, and for a finding
said_of : (job other : List ℕ) (library named : Option (List ℕ)) → ((circuit : List ℕ) → verdict job library circuit ≡ verdict other named circuit)
    → (file : List ℕ) → verify_text job library file ≡ verify_text other named file
unfolding verify_text verify_file
said_of job other library named same file = ap report_of (by_circuit (circuit_in file))
  where
    by_circuit : (o : Answer (List ℕ)) → verdict_on job library o ≡ verdict_on other named o
    by_circuit (refused code) = refl
    by_circuit (answered circuit) = same circuit

printed : (o p : Answer Found) → o ≡ p → line_for o ++ explained o ≡ line_for p ++ explained p
printed o p e = rw e

pub telling_job : (room : ℕ) → longest_job < room → TellingJob room
unfolding search_text
telling_job room h = record {
  verified = λ job file library.
      said_of (take room job) job library library
      (λ circuit. told_by (λ (j : List ℕ). verdict j library circuit) (refused 1) longest_job (job_verdict circuit library) room h job) file;
  searched = λ job library.
      printed (finding (take room job) library 15) (finding job library 15)
      (told_by (λ (j : List ℕ). finding j library 15) (refused 1) longest_job (job_finding library) room h job);
}

-- checks of which one fails for sure tell the first that does, and nothing after them counts
failing : (code n : ℕ) → 0 < n → and_then code n ≡ 0 → ⊥
failing code n p e = let z = (and_then_zero code n e).1 in omega arith

stopped : (code rest : ℕ) {A : Type 0} (value : A) → (code ≡ 0 → ⊥) → answer_of (and_then code rest) value ≡ refused code
stopped code rest value h = rw (ne_eqb code 0 h, ne_eqb code 0 h)

-- a library that is too long: the job's number, or 29
long_library : (job library : List ℕ) → 225 < length library → job_with_code job library ≡ and_then (job_code job) 29
unfolding job_with_code library_code library_size_ok
long_library job library h = rw (lt-leb (length library) 225 h)

library_verdict : (job circuit library : List ℕ) → 225 < length library → verdict job (some library) circuit ≡ refused (and_then (job_code job) 29)
unfolding verdict verify_with verify_with_code circuit_with_code
library_verdict job circuit library h =
    let f = failing (job_code job) 29 (omega arith) in
    rw (long_library job library h, ne_eqb (and_then (job_code job) 29) 0 f) (stopped (and_then (job_code job) 29) (rest_with_code job library circuit (measures_in library circuit)) (measures_in library circuit) f)

library_finding : (job library : List ℕ) → 225 < length library → finding job (some library) 15 ≡ refused (and_then (job_code job) 29)
unfolding finding search_with search_with_code search_over
library_finding job library h =
    let f = failing (job_code job) 29 (omega arith) in
    rw (long_library job library h, ne_eqb (and_then (job_code job) 29) 0 f, ne_eqb (and_then (job_code job) 29) 0 f)

pub telling_library : (room : ℕ) → 225 < room → TellingLibrary room
unfolding search_text
telling_library room h = record {
  verified = λ job file library.
      said_of job job (some (take room library)) (some library)
      (λ circuit. told_by (λ (l : List ℕ). verdict job (some l) circuit) (refused (and_then (job_code job) 29)) 225 (library_verdict job circuit) room h library) file;
  searched = λ job library.
      printed (finding job (some (take room library)) 15) (finding job (some library) 15)
      (told_by (λ (l : List ℕ). finding job (some l) 15) (refused (and_then (job_code job) 29)) 225 (library_finding job) room h library);
}

-- a circuit that is too long for a record: a number of the job or the library, or 7
code_of : List ℕ → Option (List ℕ) → ℕ
code_of job none = job_code job
code_of job (some library) = job_with_code job library

circuit_verdict : (job : List ℕ) (library : Option (List ℕ)) (circuit : List ℕ) → 15 < length circuit → verdict job library circuit ≡ refused (and_then (code_of job library) 7)
unfolding code_of verdict verify_of verify_code measure_code circuit_code_for verify_with verify_with_code circuit_with_code
circuit_verdict job none circuit h =
    rw (long_circuit circuit h) (stopped (and_then (job_code job) 7) (verify_rest job circuit (measures_for job circuit)) (measures_for job circuit) (failing (job_code job) 7 (omega arith)))
circuit_verdict job (some library) circuit h =
    rw (long_circuit circuit h) (stopped (and_then (job_with_code job library) 7) (rest_with_code job library circuit (measures_in library circuit)) (measures_in library circuit) (failing (job_with_code job library) 7 (omega arith)))

-- a part that is long enough begins as the whole
in_part : (word s : List ℕ) (n : ℕ) → length word ≤ n → starts word (take n s) ≡ starts word s
unfolding starts
in_part [] s n h = refl
in_part (x ∷ word) s zero h = absurd (omega arith)
in_part (x ∷ word) [] (suc n) h = refl
in_part (x ∷ word) (y ∷ s) (suc n) h = ap (both (eqb y x)) (in_part word s n (omega arith))

long_text : (text : List ℕ) → 4096 < length text → read_of text 15 ≡ refused 22
unfolding read_of
long_text text h = rw (lt-leb (length text) 4096 h)

-- a long file is refused as text and as a record, as its part is
long_file : (job : List ℕ) (library : Option (List ℕ)) (t : Bool) (file : List ℕ) → 4096 < length file
    → verdict_on job library (pick t (read_of file 15) (answered file)) ≡ pick t (refused 22) (refused (and_then (code_of job library) 7))
long_file job library true file h = ap (verdict_on job library) (long_text file h)
long_file job library false file h = circuit_verdict job library file (omega arith)

pub telling_circuit : (room : ℕ) → 4096 < room → TellingCircuit room
unfolding verify_text verify_file circuit_in is_text
telling_circuit room h job file library =
    any_length (λ (f : List ℕ). report_of (verdict_on job library (circuit_in f))) room
    (λ f k.
    ap report_of (rw (in_part (bytes ".version") f room (omega arith))
    (long_file job library (is_text f) (take room f) (rw (cut_length room f k) h) ∙ sym (long_file job library (is_text f) f (omega arith))))) file
