-- With the library that lists all gates lawful for the job, at the job's own prices and durations, the calls answer what they answer without.
use mathlib.Core.Path.{◌≡◌, sym, ap, ap₂, ◌∙◌}
use mathlib.Core.Bool.{true}
use mathlib.Core.List.{List, Memᴰ}
use Prim.Native.Nat.{ℕ, ◌%◌}
use native.Mathlib.Decide.{ℕ_discrete}
use native.Mathlib.Omega.{arith}
use borrow.Author.Tests.{eq-eqb, ne_eqb, le-leb}
use lib.Dec.{leb}
use lib.ListN.{length}
use Rattle.logic.specs.Rules.{rule, and_then}
use Rattle.logic.specs.Lists.{all_of, Among}
use Rattle.logic.specs.Answers.{answer_of}
use Rattle.logic.proofs.Answers.{refused_by}
use Rattle.logic.proofs.Chain.{both_true, and_then_zero}
use Rattle.gate.specs.Gates.{gates_for}
use Rattle.gate.proofs.Tables.{gates_most, lawful_among}
use Rattle.record.specs.JobRules.{job_code}
use Rattle.record.specs.job_fields.Jobs.{longer, most_controls, wires, price_of, duration_of}
use Rattle.record.specs.circuit_fields.Circuits.{gates}
use Rattle.record.proofs.Kept.{sound_job, wires_within}
use Rattle.record.proofs.job_fields.Widths.{two_or_three}
use Rattle.circuit.specs.measures.Measures.{measures_of}
use Rattle.verify.specs.Calls.{measures_for, verify_code, verify_of, verify_rest}
use Rattle.record.specs.pair_codes.Codes.{circuit_code_for, measure_code, search_code}
use Rattle.verify.proofs.Codes.{circuit_parts}
use Rattle.verify.proofs.Bounds.{lawful_here}
use Rattle.outcomes.specs.Outcomes.{own_set, search_over, search_of}
use Rattle.problem.specs.declared.Entry.{Entry}
use Rattle.library.specs.entries.Library.{gates_in, price_in, duration_in, full_library, listed, library_size_ok, library_sound, library_code}
use Rattle.library.specs.calls.Calls.{job_with_code, set_in, search_with_code, search_with, circuit_with_code, measures_in, rest_with_code, verify_with_code, verify_with}
use Rattle.library.proofs.calls.Laid.{gates_laid, length_laid, find_laid, sound_laid, measures_same}
use Rattle.library.proofs.calls.Alike.{search_same}
use Rattle.library.proofs.calls.Sound.{among_listed}

module _ (job : List ℕ) where
  abbrev own : List ℕ
  own = gates_for (most_controls job) (wires job)

  pub full_gates : gates_in (full_library job) ≡ own
  full_gates = gates_laid (price_of job) (duration_of job) own

  -- on the job's gates it has the job's prices and durations
  module _ (b : ℕ) (m : Memᴰ b own) where
    pub full_price : price_in (full_library job) b ≡ price_of job b
    full_price = ap (λ (e : Entry). e.price) (find_laid (price_of job) (duration_of job) own b m)

    pub full_duration : duration_in (full_library job) b ≡ duration_of job b
    full_duration = ap (λ (e : Entry). e.duration) (find_laid (price_of job) (duration_of job) own b m)

  pub full_measures : (l : List ℕ) → Among own l
      → measures_of (price_in (full_library job)) (duration_in (full_library job)) l ≡ measures_of (price_of job) (duration_of job) l
  full_measures l a =
      measures_same (price_in (full_library job)) (duration_in (full_library job)) (price_of job) (duration_of job) l
      (λ b m. full_price b (a b m)) (λ b m. full_duration b (a b m))

  module _ (sound : job_code job ≡ 0) where
    sized : library_size_ok (full_library job) ≡ true
    unfolding library_size_ok
    sized =
        let l = length_laid (price_of job) (duration_of job) own in
        let few = gates_most (most_controls job) (wires job) (two_or_three (longer job)).1 (wires_within job sound).1 in
        both_true (le-leb (length (full_library job)) 225 (omega arith)) (eq-eqb (length (full_library job) % 3) 0 (omega arith))

    ordered : library_sound job (full_library job) ≡ true
    unfolding gates_for
    ordered =
        sound_laid (price_of job) (duration_of job) (most_controls job) (wires job) ((sound_job job sound).slow (wires job)) 256 0 0 (omega arith)

    -- it breaks no rule
    pub full_sound : library_code job (full_library job) ≡ 0
    unfolding library_code
    full_sound = rw (sized, ordered)

-- a list of rules that breaks one stops there; one that breaks none goes on
stops : (code rest : ℕ) → (code ≡ 0 → ⊥) → and_then code rest ≡ code
stops code rest n = rw (ne_eqb code 0 n)

goes_on : (code rest : ℕ) → code ≡ 0 → and_then code rest ≡ rest
goes_on code rest e = rw (eq-eqb code 0 e)

-- the checks of the job and the library are the job's own
full_code : (job : List ℕ) → job_with_code job (full_library job) ≡ job_code job
unfolding job_with_code
full_code job = by_code (ℕ_discrete (job_code job) 0)
  where
    by_code : Dec (job_code job ≡ 0) → and_then (job_code job) (library_code job (full_library job)) ≡ job_code job
    by_code (yes e) = goes_on (job_code job) (library_code job (full_library job)) e ∙ full_sound job e ∙ sym e
    by_code (no n) = stops (job_code job) (library_code job (full_library job)) n

pub full_search : (job : List ℕ) (room : ℕ) → search_with job (full_library job) room ≡ search_of job room
unfolding search_with search_with_code search_of search_code
full_search job room =
    ap (λ (code : ℕ). search_over (set_in (full_library job)) job (and_then code (rule (leb 15 room) 13 0))) (full_code job)
    ∙ search_same (set_in (full_library job)) (own_set job) job (full_gates job) (full_price job) (full_duration job)
    (and_then (job_code job) (rule (leb 15 room) 13 0))

pub full_verify : (job c : List ℕ) → verify_with job (full_library job) c ≡ verify_of job c
unfolding verify_with verify_with_code circuit_with_code rest_with_code verify_of verify_code measure_code
full_verify job c =
    ap (λ (code : ℕ). answer_of (and_then (and_then code (circuit_code_for job c)) rest) (measures_in lib c)) (full_code job)
    ∙ by_code (ℕ_discrete (and_then (job_code job) (circuit_code_for job c)) 0)
  where
    lib : List ℕ
    lib = full_library job

    rest : ℕ
    rest = rule (all_of (listed lib) (gates c)) 31 (verify_rest job c (measures_in lib c))

    own : ℕ
    own = verify_rest job c (measures_for job c)

    before : ℕ
    before = and_then (job_code job) (circuit_code_for job c)

    by_code : Dec (before ≡ 0) → answer_of (and_then before rest) (measures_in lib c) ≡ answer_of (and_then before own) (measures_for job c)
    by_code (no n) =
        ap (λ (code : ℕ). answer_of code (measures_in lib c)) (stops before rest n) ∙ refused_by before (measures_in lib c) n
        ∙ sym (ap (λ (code : ℕ). answer_of code (measures_for job c)) (stops before own n) ∙ refused_by before (measures_for job c) n)
    by_code (yes e) =
        let z = and_then_zero (job_code job) (circuit_code_for job c) e in
        let p = circuit_parts job c z.1 in
        let kept = lawful_here job c z.0 p.0 p.1.0 p.1.1 in
        let among = lawful_among (most_controls job) (wires job) (wires_within job z.0).1 (gates c) kept in
        let m = full_measures job (gates c) among in
        let here : Among (gates_in lib) (gates c) = rw (full_gates job) among in
        let same : rest ≡ own = rw (among_listed lib (gates c) here) (ap (verify_rest job c) m) in
        ap₂ answer_of (goes_on before rest e ∙ same ∙ sym (goes_on before own e)) m
