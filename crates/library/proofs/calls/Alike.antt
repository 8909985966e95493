-- Two sets of the same gates, whose prices and durations agree on them, are searched alike.
use mathlib.Core.Path.{◌≡◌, refl, ap, ap₂, ◌∙◌}
use mathlib.Core.List.{List, [], ◌∷◌, ◌++◌, map, flat_map, Memᴰ}
use mathlib.Core.Option.{Option, none, some}
use Prim.Native.Nat.{ℕ, zero, suc}
use lib.Dec.{eqb}
use lib.ListN.{length}
use Rattle.logic.specs.Rules.{pick}
use Rattle.logic.specs.Lists.{Among}
use Rattle.logic.specs.Answers.{Answer, refused, answered}
use Rattle.logic.proofs.Members.{among_nil, among_cons, among_append}
use Rattle.circuit.specs.Measure.{greatest, idle}
use Rattle.table.specs.layouts.Layouts.{layouts_for}
use Rattle.record.specs.job_fields.Jobs.{data_wires, free_layout, gate_limit}
use Rattle.problem.specs.order.Choices.{Choice, improve, under}
use Rattle.problem.specs.Problems.{choice_of, here, within, good, first_good}
use Rattle.problem.proofs.Facts as Demand
use Rattle.outcomes.specs.Outcomes.{GateSet, problem_over, record_of, Found, outcome_of, search_over}
use Rattle.library.proofs.calls.Laid.{Agree, total_same, along_same, measures_same}

flat_map_same : {A B : Type 0} (f g : A → List B) (l : List A) → ((x : A) → Memᴰ x l → f x ≡ g x) → flat_map f l ≡ flat_map g l
unfolding flat_map
flat_map_same f g [] h = refl
flat_map_same f g (x ∷ l) h = ap₂ ◌++◌ (h x (Memᴰ.head refl)) (flat_map_same f g l (λ y m. h y (Memᴰ.tail m)))

-- choices that are the same for each list of the gates are the same below every one
under_same : (f g : List ℕ → List Choice) (gates : List ℕ) → ((l : List ℕ) → Among gates l → f l ≡ g l)
    → (k : ℕ) (l : List ℕ) → Among gates l → under f gates l k ≡ under g gates l k
unfolding under
under_same f g gates same zero l a = same l a
under_same f g gates same (suc k) l a =
    ap₂ ◌++◌ (same l a)
    (flat_map_same (λ (b : ℕ). under f gates (l ++ (b ∷ [])) k) (λ (b : ℕ). under g gates (l ++ (b ∷ [])) k) gates
    (λ b m. under_same f g gates same k (l ++ (b ∷ [])) (among_append l (b ∷ []) a (among_cons m among_nil))))

module _ (G H : GateSet) (job : List ℕ) (listed : G.gates ≡ H.gates)
    (paid : Agree G.price H.price H.gates) (timed : Agree G.duration H.duration H.gates) where
  agree_on : (f g : ℕ → ℕ) → Agree f g H.gates → (l : List ℕ) → Among H.gates l → Agree f g l
  agree_on f g a l among b m = a b (among b m)

  here_same : (l : List ℕ) → Among H.gates l → here (problem_over G job) l ≡ here (problem_over H job) l
  unfolding here choice_of problem_over
  here_same l a =
      let c = total_same G.price H.price l (agree_on G.price H.price paid l a) in
      let t = along_same G.duration H.duration l idle (agree_on G.duration H.duration timed l a) in
      λ i. map (λ (p : ℕ). record { cost = c i; gates = length l; depth = greatest (t i); layout = p; bytes = l })
      (layouts_for (data_wires job) (free_layout job))

  first_same : first_good (problem_over G job) ≡ first_good (problem_over H job)
  unfolding first_good problem_over within
  first_same =
      ap (λ (gates : List ℕ). improve (good (problem_over G job)) none (under (here (problem_over G job)) gates [] (gate_limit job))) listed
      ∙ ap (improve (good (problem_over G job)) none)
      (under_same (here (problem_over G job)) (here (problem_over H job)) H.gates here_same (gate_limit job) [] among_nil)

  pub search_same : (code : ℕ) → search_over G job code ≡ search_over H job code
  unfolding search_over problem_over
  search_same code =
      ap (λ (a : Answer Found). pick (eqb code 0) a (refused code)) (ap (outcome_of G job) first_same ∙ by_first (first_good (problem_over H job)) refl)
    where
      by_first : (o : Option Choice) → first_good (problem_over H job) ≡ o → outcome_of G job o ≡ outcome_of H job o
      by_first none e = refl
      by_first (some c) e =
          let a = (Demand.found_is (problem_over H job) c e).0.solution.admitted.gates_listed in
          let m = measures_same G.price G.duration H.price H.duration c.bytes (agree_on G.price H.price paid c.bytes a)
          (agree_on G.duration H.duration timed c.bytes a) in
          λ i. answered (record { bytes = record_of job c.layout c.bytes; measures = m i })
