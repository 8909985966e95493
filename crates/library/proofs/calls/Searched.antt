-- The search with a library in demand 3's words, over the library's gates alone, and its tie to verifying with the same library.
use mathlib.Core.Path.{◌≡◌}
use mathlib.Core.Bool.{true}
use mathlib.Core.Logic.{◌⊎◌, ◌↔◌}
use mathlib.Core.List.{List}
use Prim.Native.Nat.{ℕ}
use native.Mathlib.Omega.{arith}
use borrow.Author.Tests.{le-leb}
use lib.Dec.{leb}
use Rattle.logic.specs.Lists.{all_of}
use Rattle.logic.specs.Answers.{refused, answered}
use Rattle.logic.proofs.Chain.{rule_never, and_then_never}
use Rattle.logic.proofs.Members.{all_member}
use Rattle.gate.specs.Gates.{lawful}
use Rattle.record.specs.job_fields.Jobs.{longer, data_wires, ancillas, wires, Bytes}
use Rattle.record.specs.circuit_fields.Circuits.{marked}
use Rattle.parity.specs.Parity.{odd, table_parity}
use Rattle.verify.specs.Demand.{Timed}
use Rattle.problem.specs.Demand.{Solves}
use Rattle.outcomes.specs.Outcomes.{Found}
use Rattle.outcomes.specs.Inner.{Lawfuls}
use Rattle.outcomes.proofs.Facts.{Told, found_code, found_over, none_over, answers_over, over_never, odd_over}
use Rattle.outcomes.proofs.Verified.{none_passes_over, over_passes, over_among, over_measures, over_mark}
use Rattle.library.specs.entries.Library.{gates_in}
use Rattle.library.specs.calls.Calls.{job_with_code, set_in, problem_with, search_with_code, search_with, verify_with}
use Rattle.library.specs.calls.Demand.{PassesWith}
use Rattle.library.proofs.calls.Sound.{sound_library, gates_lawful, Searchable, searchable}
use Rattle.library.proofs.calls.Pass.{pass_with, ready_with, job_with_never}

module _ (job lib : List ℕ) (room : ℕ) where
  abbrev code : ℕ
  code = search_with_code job lib room

  -- a well-formed job, a sound library and 15 bytes break no rule
  clear : Searchable job lib room → code ≡ 0
  unfolding search_with_code job_with_code
  clear s = rw (s.job_sound_law, s.library_sound_law, le-leb 15 room s.wide)

  module _ (s : Searchable job lib room) where
    lawfuls : Lawfuls job (gates_in lib)
    lawfuls = gates_lawful job lib (sound_library job lib s.library_sound_law).sound

    -- 2. "None" exactly when no list of the library's gates solves the job,
    pub none_with : (search_with job lib room ≡ refused 14) ↔ ((l : List ℕ) (p : ℕ) → Solves (problem_with job lib) l p → ⊥)
    unfolding search_with
    none_with = none_over (set_in lib) job code (clear s)

    -- exactly when no record of any bytes passes with the library,
    pub none_passes_with : (search_with job lib room ≡ refused 14) ↔ ((c : List ℕ) → Bytes c → PassesWith job lib c → ⊥)
    unfolding search_with
    none_passes_with =
        let n = none_passes_over (set_in lib) job s.job_sound_law lawfuls code (clear s) in (
          (λ h c small p. n.0 h c small p.all_listed p.passes),
          (λ f. n.1 (λ c small a p. f c small (record { library_sound_law = s.library_sound_law; all_listed = a; passes = p }))),
        )

    -- and no other refusal
    pub answers_with : (search_with job lib room ≡ refused 14) ⊎ ((f : Found) × (search_with job lib room ≡ answered f))
    unfolding search_with
    answers_with = answers_over (set_in lib) job code (clear s)

    -- 3. Four data wires, no ancilla, an odd table, and a library without three-control gates: 14 at every limit.
    pub odd_none_with : data_wires job ≡ 4 → ancillas job ≡ 0 → table_parity job ≡ odd → all_of (lawful 2 4) (gates_in lib) ≡ true
        → search_with job lib room ≡ refused 14
    unfolding search_with
    odd_none_with four bare is_odd few =
        odd_over (set_in lib) job s.job_sound_law lawfuls four bare is_odd (λ g m. all_member (lawful 2 4) g (gates_in lib) few m) code (clear s)

  -- 11 is never said
  pub search_with_never : search_with job lib room ≡ refused 11 → ⊥
  unfolding search_with search_with_code
  search_with_never =
      over_never (set_in lib) job code 11
      (and_then_never 11 (job_with_code job lib) _ (job_with_never job lib) (rule_never 11 (leb 15 room) 13 0 (λ e. omega arith) (λ e. omega arith)))
      (λ e. omega arith)

  module _ (f : Found) (h : search_with job lib room ≡ answered f) where
    no_code : code ≡ 0
    unfolding search_with
    no_code = found_code (set_in lib) job code f h

    -- a circuit is returned only for a well-formed job, a sound library and at least 15 bytes
    pub found_sound_with : Searchable job lib room
    found_sound_with = searchable job lib room no_code

    -- 1. It is the first of those made of the library's gates that solve the job, with the job's n and m, its own length and measures.
    pub found_with : Told (set_in lib) job code f
    unfolding search_with
    found_with = found_over (set_in lib) job code no_code f h

    -- It passes with the library, with the measures found.
    pub found_passes_with : verify_with job lib f.bytes ≡ answered f.measures
    unfolding search_with
    found_passes_with =
        let s = found_sound_with in
        let k = lawfuls s in
        let e = no_code in
        (pass_with job lib f.bytes f.measures).1 (
          record {
            library_sound_law = s.library_sound_law;
            all_listed = over_among (set_in lib) job s.job_sound_law k code e f h;
            passes = over_passes (set_in lib) job s.job_sound_law k code e f h;
          },
          over_measures (set_in lib) job s.job_sound_law k code e f h,
        )

    -- The ready times returned are the circuit's, and its mark is the job's.
    pub found_ready_with : Timed (wires f.bytes) f.measures
    found_ready_with = ready_with job lib f.bytes f.measures found_passes_with

    pub found_mark_with : marked f.bytes ≡ longer job
    unfolding search_with
    found_mark_with = let s = found_sound_with in over_mark (set_in lib) job s.job_sound_law (lawfuls s) code no_code f h
