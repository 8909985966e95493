-- The search in demand 3's words: what a found circuit is, when there is none, and that nothing else is refused.
use mathlib.Core.Path.{◌≡◌, refl, sym, ap, ◌∙◌}
use mathlib.Core.Bool.{true, false}
use mathlib.Core.Logic.{◌⊎◌, inl, inr, ◌↔◌}
use mathlib.Core.List.{List, Memᴰ}
use mathlib.Core.Option.{Option, none, some}
use Prim.Native.Nat.{ℕ, ◌≤◌, ◌<◌}
use native.Mathlib.Decide.{ℕ_discrete}
use native.Mathlib.Omega.{arith}
use borrow.Author.Tests.{leb-true, le-leb, ne_eqb}
use lib.Dec.{leb, lit<, lit≤}
use lib.ListN.{length}
use Rattle.logic.specs.Rules.{rule}
use Rattle.logic.specs.Lists.{all_of}
use Rattle.logic.specs.Answers.{refused, answered}
use Rattle.logic.proofs.Chain.{and_then_zero, rule_kept}
use Rattle.logic.proofs.Members.{among_all}
use Rattle.gate.specs.Gates.{lawful}
use Rattle.gate.proofs.Tables.{gate_is, among_lawful, lawful_among, all_widen}
use Rattle.table.specs.layouts.Layouts.{allowed}
use Rattle.table.proofs.layouts.Layouts.{layout_is, layout_has, allowed_ok}
use Rattle.record.specs.JobRules.{job_code}
use Rattle.record.specs.job_fields.Jobs.{longer, most_controls, data_wires, ancillas, wires, free_layout, gate_limit}
use Rattle.record.proofs.Kept.{sound_job, wires_within}
use Rattle.record.proofs.Never.{search_code_never, one_number, no_number, answer_never}
use Rattle.record.proofs.job_fields.Widths.{two_or_three}
use Rattle.circuit.specs.measures.Measures.{measures_of}
use Rattle.parity.specs.Parity.{odd, table_parity}
use Rattle.parity.specs.odd_tables.Ends.{three_control_gates}
use Rattle.parity.proofs.odd_tables.Even.{none_of_three}
use Rattle.parity.proofs.odd_tables.Never.{odd_needs_three}
use Rattle.problem.specs.order.Choices.{Choice}
use Rattle.problem.specs.Problems.{Problem, first_good}
use Rattle.problem.specs.Demand.{Admitted, Solves, Winner}
use Rattle.problem.proofs.Facts as Demand
use Rattle.outcomes.specs.Outcomes.{GateSet, own_set, problem_over, problem_of, record_of, Found, found_of, outcome_of, search_over, search_of}
use Rattle.record.specs.pair_codes.Codes.{search_code}
use Rattle.outcomes.specs.Inner.{Lawfuls}

-- a code of 0: a well-formed job and at least 15 bytes
pub code_parts : (job : List ℕ) (room : ℕ) → search_code job room ≡ 0 → (job_code job ≡ 0) × (15 ≤ room)
unfolding search_code
code_parts job room h =
    let p = and_then_zero (job_code job) (rule (leb 15 room) 13 0) h in
    (p.0, leb-true 15 room (rule_kept (leb 15 room) 13 0 (lit< tt) p.1).0)

-- A search among any gates, after checks that gave a code.
module _ (G : GateSet) (job : List ℕ) (code : ℕ) where
  abbrev problem : Problem
  problem = problem_over G job

  -- a list and a layout that win, and what is told of them
  abbrev pub Told : Found → Type 0
  Told f =
      (l : List ℕ) × ((p : ℕ) × (Winner problem l p
      × ((f.bytes ≡ record_of job p l) × (f.measures ≡ measures_of G.price G.duration l))))

  -- a circuit is found only where no check was broken
  pub found_code : (f : Found) → search_over G job code ≡ answered f → code ≡ 0
  unfolding search_over
  found_code f h = by_code (ℕ_discrete code 0)
    where
      by_code : Dec (code ≡ 0) → code ≡ 0
      by_code (yes e) = e
      by_code (no n) = let w = rw (ne_eqb code 0 n) at h in let z : ◌≡◌ {A = ℕ} 0 1 = cc in absurd (omega arith)

  module _ (kept : code ≡ 0) where
    -- past the checks the answer is that of the first good choice
    past : search_over G job code ≡ outcome_of G job (first_good problem)
    unfolding search_over
    past = rw kept

    -- 1. A circuit that the search returns is the first of those that solve the job, with the job's n and m, its own length and measures.
    pub found_over : (f : Found) → search_over G job code ≡ answered f → Told f
    found_over f h = by_first (first_good problem) refl (sym past ∙ h)
      where
        by_first : (o : Option Choice) → first_good problem ≡ o → outcome_of G job o ≡ answered f → Told f
        by_first none e k = let z : ◌≡◌ {A = ℕ} 0 1 = cc in absurd (omega arith)
        by_first (some c) e k =
            let w = Demand.found_is problem c e in
            let s : f ≡ found_of G job c = cc in
            (c.bytes, (c.layout, (w.0, (ap (λ (g : Found). g.bytes) s, ap (λ (g : Found). g.measures) s))))

    -- 2. "None" exactly when no choice solves the job.
    pub none_over : (search_over G job code ≡ refused 14) ↔ ((l : List ℕ) (p : ℕ) → Solves problem l p → ⊥)
    none_over = (
      (λ h. (Demand.none_is problem).0 (nothing (first_good problem) (sym past ∙ h))),
      (λ f. past ∙ ap (outcome_of G job) ((Demand.none_is problem).1 f)),
    )
      where
        nothing : (o : Option Choice) → outcome_of G job o ≡ refused 14 → o ≡ none
        nothing none k = refl
        nothing (some c) k = let z : ◌≡◌ {A = ℕ} 0 1 = cc in absurd (omega arith)

    -- and no other refusal
    pub answers_over : (search_over G job code ≡ refused 14) ⊎ ((f : Found) × (search_over G job code ≡ answered f))
    answers_over = by_first (first_good problem) refl
      where
        by_first : (o : Option Choice) → first_good problem ≡ o
            → (search_over G job code ≡ refused 14) ⊎ ((f : Found) × (search_over G job code ≡ answered f))
        by_first none e = inl (past ∙ ap (outcome_of G job) e)
        by_first (some c) e = inr (found_of G job c, past ∙ ap (outcome_of G job) e)

module _ (G : GateSet) (job : List ℕ) where
  -- a search that has passed its checks refuses with 14 alone
  pub outcome_never : (n : ℕ) → (14 ≡ n → ⊥) → (o : Option Choice) → outcome_of G job o ≡ refused n → ⊥
  outcome_never n other none h = other (one_number n 14 h)
  outcome_never n other (some c) h = no_number n (found_of G job c) h

  pub over_never : (code n : ℕ) → (code ≡ n → ⊥) → (14 ≡ n → ⊥) → search_over G job code ≡ refused n → ⊥
  unfolding search_over
  over_never code n c other =
      answer_never n code (outcome_of G job (first_good (problem_over G job))) c (outcome_never n other (first_good (problem_over G job)))

-- whatever the job and the buffer: a circuit is returned only for a well-formed job and at least 15 bytes
pub found_sound : (job : List ℕ) (room : ℕ) (f : Found) → search_of job room ≡ answered f → (job_code job ≡ 0) × (15 ≤ room)
unfolding search_of
found_sound job room f h = code_parts job room (found_code (own_set job) job (search_code job room) f h)

module _ (job : List ℕ) (sound : job_code job ≡ 0) where
  -- what the job's problem admits, in the job's own words: lawful gates within the limit, and an allowed layout byte
  pub admitted_is : (l : List ℕ) (p : ℕ)
      → Admitted (problem_of job) l p
      ↔ ((all_of (lawful (most_controls job) (wires job)) l ≡ true) × ((length l ≤ gate_limit job) × ((allowed (data_wires job) (free_layout job) p ≡ true) × (p < 256))))
  unfolding problem_over
  admitted_is l p = (
    (λ a. (
      among_lawful (most_controls job) (wires job) l a.gates_listed,
      (
        a.gates_within,
        (
          layout_is (data_wires job) (free_layout job) p a.layout_listed,
          (allowed_ok (data_wires job) (free_layout job) p (sound_job job sound).width a.layout_listed).0,
        ),
      ),
    )),
    (λ h. record {
      gates_listed = lawful_among (most_controls job) (wires job) (wires_within job sound).1 l h.0;
      gates_within = h.1.0;
      layout_listed = layout_has (data_wires job) (free_layout job) p h.1.1.1 h.1.1.0;
    }),
  )

  module _ (room : ℕ) (wide : 15 ≤ room) where
    pub kept_code : search_code job room ≡ 0
    unfolding search_code
    kept_code = rw (sound, le-leb 15 room wide)

    pub found_is : (f : Found) → search_of job room ≡ answered f → Told (own_set job) job (search_code job room) f
    unfolding search_of
    found_is = found_over (own_set job) job (search_code job room) kept_code

    pub none_is : (search_of job room ≡ refused 14) ↔ ((l : List ℕ) (p : ℕ) → Solves (problem_of job) l p → ⊥)
    unfolding search_of
    none_is = none_over (own_set job) job (search_code job room) kept_code

    pub answers : (search_of job room ≡ refused 14) ⊎ ((f : Found) × (search_of job room ≡ answered f))
    unfolding search_of
    answers = answers_over (own_set job) job (search_code job room) kept_code

-- so whatever the job and the buffer: what is told of a circuit that is returned
pub returned : (job : List ℕ) (room : ℕ) (f : Found) → search_of job room ≡ answered f → Told (own_set job) job (search_code job room) f
returned job room f h = let s = found_sound job room f h in found_is job s.0 room s.1 f h

-- 11 is never said
pub search_never : (job : List ℕ) (room : ℕ) → search_of job room ≡ refused 11 → ⊥
unfolding search_of
search_never job room = over_never (own_set job) job (search_code job room) 11 (search_code_never job room) (λ e. omega arith)

-- 3. Four data wires, no ancilla, an odd table: what solves the job has a three-control gate, so nothing does with gates of at most two
-- controls, as those of a shorter job are, at any limit.
module _ (G : GateSet) (job : List ℕ) (sound : job_code job ≡ 0) (lawfuls : Lawfuls job G.gates) where
  module _ (four : data_wires job ≡ 4) (bare : ancillas job ≡ 0) (is_odd : table_parity job ≡ odd) where
    four_wires : wires job ≡ 4
    unfolding wires
    four_wires = omega arith

    kept : (l : List ℕ) (p : ℕ) → Solves (problem_over G job) l p → all_of (lawful (most_controls job) 4) l ≡ true
    unfolding problem_over
    kept l p s = rw four_wires at (among_all (lawful (most_controls job) (wires job)) G.gates l lawfuls s.admitted.gates_listed)

    pub odd_solved : (l : List ℕ) (p : ℕ) → Solves (problem_over G job) l p → 1 ≤ three_control_gates l
    unfolding problem_over
    odd_solved l p s =
        let ok = allowed_ok (data_wires job) (free_layout job) p (sound_job job sound).width s.admitted.layout_listed in
        odd_needs_three job sound four is_odd l p
        (all_widen (most_controls job) 4 3 4 (two_or_three (longer job)).1 (lit≤ tt) l (kept l p s)) ok.0 (rw four at ok.1)
        (rw four at s.realizing)

    module _ (few : (g : ℕ) → Memᴰ g G.gates → lawful 2 4 g ≡ true) where
      unsolved : (l : List ℕ) (p : ℕ) → Solves (problem_over G job) l p → ⊥
      unfolding problem_over
      unsolved l p s = omega (arith, odd_solved l p s, none_of_three l (among_all (lawful 2 4) G.gates l few s.admitted.gates_listed))

      pub odd_over : (code : ℕ) → code ≡ 0 → search_over G job code ≡ refused 14
      odd_over code clear = (none_over G job code clear).1 unsolved

    module _ (shorter : longer job ≡ false) where
      pub shorter_few : (g : ℕ) → Memᴰ g G.gates → lawful 2 4 g ≡ true
      shorter_few g m = rw (shorter, four_wires) at (lawfuls g m)

      pub odd_first : first_good (problem_over G job) ≡ none
      odd_first = (Demand.none_is (problem_over G job)).1 (unsolved shorter_few)

-- the job's own gates are those lawful for it
pub own_kept : (job : List ℕ) → Lawfuls job (own_set job).gates
own_kept job = gate_is (most_controls job) (wires job)

pub odd_none : (job : List ℕ) → job_code job ≡ 0 → data_wires job ≡ 4 → ancillas job ≡ 0 → table_parity job ≡ odd → longer job ≡ false
    → (room : ℕ) → 15 ≤ room → search_of job room ≡ refused 14
unfolding search_of
odd_none job sound four bare is_odd shorter room wide =
    odd_over (own_set job) job sound (own_kept job) four bare is_odd
    (shorter_few (own_set job) job sound (own_kept job) four bare is_odd shorter) (search_code job room) (kept_code job sound room wide)
