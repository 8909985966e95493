-- In the words of the calls: a full permutation and its inverse, searched with at least 15 bytes, are both found or both 14, and what is found
-- agrees in cost, gates and depth. With the jobs' own gates, and with the same library.
use mathlib.Core.Path.{◌≡◌, refl, sym, ap, ◌∙◌}
use mathlib.Core.Logic.{◌⊎◌, inl, inr}
use mathlib.Core.List.{List}
use mathlib.Core.Option.{Option, none, some}
use Prim.Native.Nat.{ℕ, ◌≤◌}
use native.Mathlib.Decide.{ℕ_discrete}
use native.Mathlib.Omega.{arith}
use borrow.Author.Tests.{ne_eqb, le-leb}
use Rattle.logic.specs.Rules.{pick, rule}
use Rattle.logic.specs.Answers.{Answer, refused, answered}
use Rattle.gate.specs.Gates.{gates_for}
use Rattle.circuit.specs.Measure.{weight_of}
use Rattle.circuit.specs.measures.Measures.{measures_of}
use Rattle.problem.specs.order.Choices.{Choice}
use Rattle.problem.specs.Problems.{choice_of, first_good}
use Rattle.problem.proofs.Facts as Demand
use Rattle.outcomes.specs.Outcomes.{GateSet, own_set, problem_over, Found, outcome_of, search_over, search_of}
use Rattle.record.specs.pair_codes.Codes.{search_code}
use Rattle.outcomes.specs.Inner.{Lawfuls}
use Rattle.outcomes.proofs.Facts as Search
use Rattle.library.specs.entries.Library.{entries_of, entries_ok, library_size_ok, library_code}
use Rattle.library.specs.calls.Calls.{job_with_code, set_in, search_with_code, search_with}
use Rattle.library.proofs.calls.Sound.{sound_library, gates_lawful, searchable}
use Rattle.library.proofs.calls.Searched.{answers_with}
use Rattle.inverse.specs.Mirror.{Three, three, first_three, answered_three, Alike}
use Rattle.inverse.specs.Inverse.{Inverse}
use Rattle.inverse.proofs.Problems.{first_same}
use Rattle.inverse.proofs.Jobs.{same_wires_law, mirrored}

-- what a search answers of the first good choice
abbrev told_of : Option Three → Answer Three
told_of none = refused 14
told_of (some t) = answered t

outcome_three : (G : GateSet) (job : List ℕ) (o : Option Choice) → first_good (problem_over G job) ≡ o
    → answered_three (outcome_of G job o) ≡ told_of (first_three o)
unfolding problem_over choice_of measures_of
outcome_three G job none e = refl
outcome_three G job (some c) e = ap (λ (a : Choice). answered (three a)) (Demand.found_is (problem_over G job) c e).1

-- answers with the same three numbers, of which the first is a circuit or 14
alike : (a b : Answer Found) → answered_three a ≡ answered_three b → (a ≡ refused 14) ⊎ ((f : Found) × (a ≡ answered f)) → Alike a b
alike (refused x) (refused y) e (inl h) = inl (h, let z : y ≡ 14 = cc in ap refused z)
alike (refused x) (refused y) e (inr h) = let f = h.1 in let z : ◌≡◌ {A = ℕ} 0 1 = cc in absurd (omega arith)
alike (refused x) (answered g) e s = let z : ◌≡◌ {A = ℕ} 0 1 = cc in absurd (omega arith)
alike (answered f) (refused y) e s = let z : ◌≡◌ {A = ℕ} 0 1 = cc in absurd (omega arith)
alike (answered f) (answered g) e s = inr (f, (g, (refl, (refl, cc))))

module _ (job other : List ℕ) (i : Inverse job other) where
  -- among any gates lawful for the job, after checks that gave a code
  pub same_over : (G : GateSet) (code : ℕ) → (code ≡ 0 → Lawfuls job G.gates)
      → answered_three (search_over G job code) ≡ answered_three (search_over G other code)
  unfolding search_over
  same_over G code lawfuls = by_code (ℕ_discrete code 0)
    where
      by_code : Dec (code ≡ 0) → answered_three (search_over G job code) ≡ answered_three (search_over G other code)
      by_code (yes e) =
          rw e
          (outcome_three G job (first_good (problem_over G job)) refl
          ∙ ap told_of (first_same (problem_over G job) (problem_over G other) (mirrored job other i G (lawfuls e)))
          ∙ sym (outcome_three G other (first_good (problem_over G other)) refl))
      by_code (no n) = rw (ne_eqb code 0 n)

  same_own : own_set job ≡ own_set other
  same_own =
      let k = i.same_size in
      let w = same_wires_law job other i in
      let p = i.same_prices in
      let d = i.same_durations in
      λ j. record { gates = gates_for (pick (k j) 3 2) (w j); price = λ b. weight_of (p j) b; duration = λ b. weight_of (d j) b }

  -- a library that breaks no rule for the one breaks none for the other
  pub same_library : (lib : List ℕ) → library_code job lib ≡ library_code other lib
  unfolding library_code
  same_library lib =
      let k = i.same_size in
      let w = same_wires_law job other i in
      λ j. rule (library_size_ok lib) 29 (rule (entries_ok (pick (k j) 3 2) (w j) 0 (entries_of lib)) 30 0)

  module _ (room space : ℕ) (wide : 15 ≤ room) (broad : 15 ≤ space) where
    -- the same three numbers, or the same refusal
    pub same_search : answered_three (search_of job room) ≡ answered_three (search_of other space)
    unfolding search_of
    same_search =
        let a = Search.kept_code job i.this.sound room wide in
        let b = Search.kept_code other i.that.sound space broad in
        same_over (own_set job) (search_code job room) (λ e. Search.own_kept job)
        ∙ (λ j. answered_three (search_over (same_own j) other ((a ∙ sym b) j)))

    -- so both are found or both are 14, and what is found agrees
    pub search_alike : Alike (search_of job room) (search_of other space)
    search_alike = alike (search_of job room) (search_of other space) same_search (Search.answers job i.this.sound room wide)

    module _ (lib : List ℕ) where
      codes_same : search_with_code job lib room ≡ search_with_code other lib space
      unfolding search_with_code job_with_code
      codes_same = rw (i.this.sound, i.that.sound, le-leb 15 room wide, le-leb 15 space broad, same_library lib)

      -- the same with a library, whatever its bytes
      pub same_search_with : answered_three (search_with job lib room) ≡ answered_three (search_with other lib space)
      unfolding search_with
      same_search_with =
          same_over (set_in lib) (search_with_code job lib room)
          (λ e. gates_lawful job lib (sound_library job lib (searchable job lib room e).library_sound_law).sound)
          ∙ ap (λ (code : ℕ). answered_three (search_over (set_in lib) other code)) codes_same

      -- and where it breaks no rule, both are found or both are 14
      pub search_with_alike : library_code job lib ≡ 0 → Alike (search_with job lib room) (search_with other lib space)
      search_with_alike sound =
          alike (search_with job lib room) (search_with other lib space) same_search_with
          (answers_with job lib room (record { job_sound_law = i.this.sound; library_sound_law = sound; wide = wide }))
