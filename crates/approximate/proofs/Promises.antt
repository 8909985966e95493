-- The closest circuit in a caller's words: there is always one, none misses fewer, and where nothing is missed it is the search's.
use mathlib.Core.Path.{◌≡◌, refl, sym, ap, ◌∙◌}
use mathlib.Core.Bool.{Bool, true, false}
use mathlib.Core.Logic.{⊎_elim}
use mathlib.Core.List.{List, [], Memᴰ}
use mathlib.Core.Option.{Option, none, some}
use Prim.Native.Nat.{ℕ, ◌≤◌}
use native.Mathlib.Decide.{ℕ_discrete}
use native.Mathlib.Omega.{arith}
use borrow.Author.Tests.{le-leb}
use lib.Dec.{eqb, leb, lit<}
use Rattle.logic.specs.Rules.{pick}
use Rattle.logic.specs.Lists.{all_of, total, along}
use Rattle.logic.specs.Answers.{refused, answered}
use Rattle.logic.proofs.Chain.{both_parts, both_true, rule_never, and_then_never}
use Rattle.logic.proofs.Members.{among_nil}
use Rattle.circuit.specs.Measure.{greatest}
use Rattle.table.specs.layouts.Layouts.{Width, layout_ok, plain, allowed, layouts_for}
use Rattle.table.proofs.layouts.Layouts.{layout_has}
use Rattle.table.proofs.Rows.{bare_clean}
use Rattle.record.specs.JobRules.{job_length_ok, size_ok, head_ok, limit_ok, durations_ok, rows_ok, job_code}
use Rattle.record.specs.job_fields.Jobs.{data_wires, free_layout, rows, price_of, duration_of}
use Rattle.record.proofs.Kept.{sound_job}
use Rattle.record.proofs.Never.{search_code_never, one_number, no_number, answer_never}
use Rattle.circuit.specs.measures.Measures.{measures_of}
use Rattle.problem.specs.order.Choices.{Choice}
use Rattle.problem.specs.Problems.{choice_of, good, first_good}
use Rattle.problem.specs.Demand.{Solves}
use Rattle.problem.proofs.Facts as Demand
use Rattle.problem.proofs.Listed.{unlisted, within_joined}
use Rattle.near_misses.specs.misses.Misses.{missed_bits, missed_in, tidily, approximates, missing_any, closest_choice}
use Rattle.near_misses.proofs.misses.Rows.{most_missed}
use Rattle.near_misses.proofs.misses.Fewest.{none_fewer, fewest_found, closest_misses, closest_some}
use Rattle.outcomes.specs.Outcomes.{own_set, problem_over, problem_of, record_of, Found, found_of, outcome_of, search_over, search_of}
use Rattle.record.specs.pair_codes.Codes.{search_code}
use Rattle.outcomes.proofs.Facts.{code_parts, found_code}
use Rattle.search.proofs.Posed.{rows_few}
use Rattle.approximate.specs.Calls.{fewest_for, closest_for, Close, close_of, closest_of}
use Rattle.approximate.specs.Demand.{Allowed, Closest}
use Rattle.approximate.proofs.Posed.{near, none_first}
use Rattle.approximate.proofs.Answer.{by_code, past}

-- what solves one of the problems of a job, solves another where its misses allow that
module _ (job : List ℕ) where
  near_allowed : (k : ℕ) (l : List ℕ) (p : ℕ) → Solves (near job k) l p → Allowed job l p
  unfolding approximates
  near_allowed k l p s = record {
    admitted = record { gates_listed = s.admitted.gates_listed; gates_within = s.admitted.gates_within; layout_listed = s.admitted.layout_listed };
    realizing = (both_parts (leb (missed_bits (rows job) p l) k) (tidily (data_wires job) p l) s.realizing).1;
    cost_within = s.cost_within;
    depth_within = s.depth_within;
  }

  allowed_near : (k : ℕ) (l : List ℕ) (p : ℕ) → Allowed job l p → missed_bits (rows job) p l ≤ k → Solves (near job k) l p
  unfolding approximates
  allowed_near k l p s h = record {
    admitted = record { gates_listed = s.admitted.gates_listed; gates_within = s.admitted.gates_within; layout_listed = s.admitted.layout_listed };
    realizing = both_true (le-leb (missed_bits (rows job) p l) k h) s.realizing;
    cost_within = s.cost_within;
    depth_within = s.depth_within;
  }

  -- what is allowed misses no fewer bits than the fewest
  none_below : (e : List ℕ) (q : ℕ) → Allowed job e q → fewest_for job ≤ missed_bits (rows job) q e
  unfolding choice_of
  none_below e q s =
      none_fewer (data_wires job) (rows job) (problem_of job) (choice_of (problem_of job) e q)
      (unlisted (problem_of job) [] (problem_of job).most_gates e q s.admitted.gates_listed s.admitted.gates_within s.admitted.layout_listed)
      (within_joined (missing_any (data_wires job) (problem_of job)) (problem_of job).most_cost (choice_of (problem_of job) e q) s.realizing s.cost_within s.depth_within)

  closest_choice_law : (c : Choice) → closest_for job ≡ some c → Closest job c.bytes c.layout
  unfolding closest_choice choice_of
  closest_choice_law c e =
      let k = fewest_for job in
      let w = (Demand.found_is (near job k) c e).0 in
      let m = closest_misses (data_wires job) (rows job) (problem_of job) c e in
      record {
        allowed = near_allowed k c.bytes c.layout w.solution;
        fewest = λ d q s. omega (arith, none_below d q s, m);
        foremost = λ d q s h. w.foremost d q (allowed_near k d q s (omega arith));
      }

  -- 1. The answer misses as few wanted bits as any circuit that is allowed, and of those that miss so few it is the first in the search's order.
  pub closest_is : (room : ℕ) (c : Close) → closest_of job room ≡ answered c
      → (l : List ℕ) × ((p : ℕ) × (Closest job l p
      × ((c.circuit.bytes ≡ record_of job p l) × ((c.circuit.measures ≡ measures_of (price_of job) (duration_of job) l) × (c.misses ≡ missed_bits (rows job) p l)))))
  closest_is room c h = by_code_of (ℕ_discrete (search_code job room) 0)
    where
      by_choice : (o : Option Choice) → closest_for job ≡ o → close_of job o ≡ answered c
          → (l : List ℕ) × ((p : ℕ) × (Closest job l p
          × ((c.circuit.bytes ≡ record_of job p l) × ((c.circuit.measures ≡ measures_of (price_of job) (duration_of job) l) × (c.misses ≡ missed_bits (rows job) p l)))))
      by_choice none e k = let z : ◌≡◌ {A = ℕ} 0 1 = cc in absurd (omega arith)
      by_choice (some d) e k =
          let s : c ≡ record { circuit = found_of (own_set job) job d; misses = missed_in (rows job) d } = cc in
          (d.bytes, (d.layout, (closest_choice_law d e, (ap (λ (x : Close). x.circuit.bytes) s, (ap (λ (x : Close). x.circuit.measures) s, ap (λ (x : Close). x.misses) s)))))

      by_code_of : Dec (search_code job room ≡ 0)
          → (l : List ℕ) × ((p : ℕ) × (Closest job l p
          × ((c.circuit.bytes ≡ record_of job p l) × ((c.circuit.measures ≡ measures_of (price_of job) (duration_of job) l) × (c.misses ≡ missed_bits (rows job) p l)))))
      by_code_of (yes z) = by_choice (closest_for job) refl (sym (past job room z) ∙ h)
      by_code_of (no n) = let k = sym (by_code job room n) ∙ h in let z : ◌≡◌ {A = ℕ} 0 1 = cc in absurd (omega arith)

-- the plain layout is allowed
plain_listed : (n free : ℕ) → Width n → Memᴰ (plain n) (layouts_for n free)
unfolding allowed layout_ok
plain_listed n free width =
    ⊎_elim
    (λ (e : n ≡ 3). rw e (layout_has 3 free 24 (lit< tt) (by_free (eqb free 1) 24)))
    (λ (e : n ≡ 4). rw e (layout_has 4 free 27 (lit< tt) (by_free (eqb free 1) 27)))
    width
  where
    by_free : (t : Bool) (p : ℕ) → pick t true true ≡ true
    by_free true p = refl
    by_free false p = refl

-- 2. There is always an answer, past the job's checks and 13: 14 is never told.
module _ (job : List ℕ) (room : ℕ) (kept : search_code job room ≡ 0) where
  empty_allowed : good (missing_any (data_wires job) (problem_of job)) (choice_of (problem_of job) [] (plain (data_wires job))) ≡ true
  unfolding choice_of total along greatest all_of
  empty_allowed =
      within_joined (missing_any (data_wires job) (problem_of job)) (problem_of job).most_cost (choice_of (problem_of job) [] (plain (data_wires job)))
      (bare_clean 3 (data_wires job) [] refl) (omega arith) (omega arith)

  some_closest : closest_for job ≡ none → ⊥
  unfolding choice_of problem_over
  some_closest e =
      let sound = (code_parts job room kept).0 in
      let p = plain (data_wires job) in
      closest_some (data_wires job) (rows job) (problem_of job) (choice_of (problem_of job) [] p)
      (unlisted (problem_of job) [] (problem_of job).most_gates [] p among_nil (omega arith) (plain_listed (data_wires job) (free_layout job) (sound_job job sound).width))
      empty_allowed (most_missed (rows job) p [] (rows_few job sound)) e

  pub always : (c : Close) × (closest_of job room ≡ answered c)
  always = by_choice (closest_for job) refl
    where
      by_choice : (o : Option Choice) → closest_for job ≡ o → (c : Close) × (closest_of job room ≡ answered c)
      by_choice none e = absurd (some_closest e)
      by_choice (some c) e = (record { circuit = found_of (own_set job) job c; misses = missed_in (rows job) c }, past job room kept ∙ ap (close_of job) e)

-- 14 is no code of the checks
code_never : (job : List ℕ) (room : ℕ) → search_code job room ≡ 14 → ⊥
unfolding search_code job_code
code_never job room =
    and_then_never 14 (job_code job) _
    (rule_never 14 (job_length_ok job) 1 _ (λ e. omega arith)
    (rule_never 14 (size_ok job) 2 _ (λ e. omega arith)
    (rule_never 14 (head_ok job) 3 _ (λ e. omega arith)
    (rule_never 14 (limit_ok job) 4 _ (λ e. omega arith)
    (rule_never 14 (durations_ok job) 5 _ (λ e. omega arith)
    (rule_never 14 (rows_ok job) 6 0 (λ e. omega arith) (λ e. omega arith)))))))
    (rule_never 14 (leb 15 room) 13 0 (λ e. omega arith) (λ e. omega arith))

pub never_fourteen : (job : List ℕ) (room : ℕ) → closest_of job room ≡ refused 14 → ⊥
never_fourteen job room h = by_code_of (ℕ_discrete (search_code job room) 0)
  where
    by_code_of : Dec (search_code job room ≡ 0) → ⊥
    by_code_of (yes z) = let a = sym (always job room z).1 ∙ h in let w : ◌≡◌ {A = ℕ} 0 1 = cc in absurd (omega arith)
    by_code_of (no n) = let k = sym (by_code job room n) ∙ h in let e : search_code job room ≡ 14 = cc in code_never job room e

-- nor is 11
pub closest_never : (job : List ℕ) (room : ℕ) → closest_of job room ≡ refused 11 → ⊥
unfolding closest_of
closest_never job room =
    answer_never 11 (search_code job room) (close_of job (closest_for job)) (search_code_never job room) (by_choice (closest_for job))
  where
    by_choice : (o : Option Choice) → close_of job o ≡ refused 11 → ⊥
    by_choice none h = omega (arith, one_number 11 14 h)
    by_choice (some c) h = no_number 11 (record { circuit = found_of (own_set job) job c; misses = missed_in (rows job) c }) h

-- 3. Nothing is missed exactly where the search finds a circuit, and then both answer with the same record and measures.
module _ (job : List ℕ) where
  first_both : (c : Choice) → first_good (problem_of job) ≡ some c → (closest_for job ≡ some c) × (missed_in (rows job) c ≡ 0)
  unfolding closest_choice
  first_both c e =
      let n = data_wires job in
      let q : first_good (near job 0) ≡ some c = none_first job ∙ e in
      let z = fewest_found n (rows job) (problem_of job) 0 (omega arith) (λ j h. absurd (omega arith)) c q in
      let k : closest_for job ≡ some c = ap (λ (m : ℕ). first_good (near job m)) (sym z) ∙ q in
      (k, closest_misses n (rows job) (problem_of job) c k ∙ sym z)

  both_first : (c : Choice) → closest_for job ≡ some c → missed_in (rows job) c ≡ 0 → first_good (problem_of job) ≡ some c
  unfolding closest_choice
  both_first c e h =
      let z = closest_misses (data_wires job) (rows job) (problem_of job) c e in
      sym (none_first job) ∙ ap (λ (m : ℕ). first_good (near job m)) (sym h ∙ z) ∙ e

  module _ (room : ℕ) where
    searched : search_code job room ≡ 0 → search_of job room ≡ outcome_of (own_set job) job (first_good (problem_of job))
    unfolding search_of search_over
    searched z = rw z

    pub found_both : (f : Found) → search_of job room ≡ answered f → closest_of job room ≡ answered (record { circuit = f; misses = 0 })
    unfolding search_of
    found_both f h = let z = found_code (own_set job) job (search_code job room) f h in by_first z (first_good (problem_of job)) refl (sym (searched z) ∙ h)
      where
        by_first : search_code job room ≡ 0 → (o : Option Choice) → first_good (problem_of job) ≡ o → outcome_of (own_set job) job o ≡ answered f
            → closest_of job room ≡ answered (record { circuit = f; misses = 0 })
        by_first z none e k = let w : ◌≡◌ {A = ℕ} 0 1 = cc in absurd (omega arith)
        by_first z (some c) e k =
            let s : found_of (own_set job) job c ≡ f = cc in
            let b = first_both c e in
            past job room z ∙ ap (close_of job) b.0 ∙ (λ i. answered (record { circuit = s i; misses = b.1 i }))

    pub none_missed : (c : Close) → closest_of job room ≡ answered c → c.misses ≡ 0 → search_of job room ≡ answered c.circuit
    none_missed c h m = by_code_of (ℕ_discrete (search_code job room) 0)
      where
        by_choice : search_code job room ≡ 0 → (o : Option Choice) → closest_for job ≡ o → close_of job o ≡ answered c → search_of job room ≡ answered c.circuit
        by_choice z none e k = let w : ◌≡◌ {A = ℕ} 0 1 = cc in absurd (omega arith)
        by_choice z (some d) e k =
            let s : record { circuit = found_of (own_set job) job d; misses = missed_in (rows job) d } ≡ c = cc in
            searched z ∙ ap (outcome_of (own_set job) job) (both_first d e (ap (λ (x : Close). x.misses) s ∙ m)) ∙ ap (λ (x : Close). answered x.circuit) s

        by_code_of : Dec (search_code job room ≡ 0) → search_of job room ≡ answered c.circuit
        by_code_of (yes z) = by_choice z (closest_for job) refl (sym (past job room z) ∙ h)
        by_code_of (no n) = let k = sym (by_code job room n) ∙ h in let w : ◌≡◌ {A = ℕ} 0 1 = cc in absurd (omega arith)
