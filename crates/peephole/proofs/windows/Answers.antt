-- What the search's answer to a window is: gates that do the same for less, and where there is no such answer, nothing that does the same costs less.
use mathlib.Core.Path.{◌≡◌, refl, sym, ap, ◌∙◌, subst}
use mathlib.Core.Bool.{Bool, true, false}
use mathlib.Core.Logic.{⊎_elim}
use mathlib.Core.List.Memᴰ
use mathlib.Core.List.{List, Memᴰ}
use mathlib.Core.Option.{none, some, none-ne-some}
use Prim.Native.Nat.{ℕ, ◌+◌, ◌*◌, ◌^◌, ◌≤◌, ◌<◌}
use native.Mathlib.Nat.{add-zero}
use native.Mathlib.Omega.{arith}
use borrow.Author.Tests.{ltb-true, ltb-false, lt-ltb}
use lib.Dec.{ltb, lit≤}
use lib.ListN.{length}
use Rattle.logic.specs.Rules.{pick}
use Rattle.logic.specs.Lists.{all_of}
use Rattle.logic.specs.Answers.{Answer, refused, answered}
use Rattle.gate.specs.declared.Kind.{Kind}
use Rattle.gate.specs.declared.Kind.TheVariants.{Not, Cnot, Toffoli, Cccnot}
use Rattle.gate.specs.Gates.{lawful, gate_of}
use Rattle.gate.proofs.Tables.{among_lawful, lawful_among}
use Rattle.circuit.specs.declared.Weights.{Weights}
use Rattle.circuit.specs.Measure.{weight_for, weight_of, cost, depth}
use Rattle.circuit.specs.run.Run.{forwards}
use Rattle.circuit.proofs.Prefix.{depth_most}
use Rattle.table.specs.layouts.Layouts.{Width, plain}
use Rattle.table.specs.Rows.{realizes}
use Rattle.record.specs.JobRules.{job_code}
use Rattle.record.specs.job_fields.Jobs.{most_controls, data_wires, wires, gate_limit, price_of, duration_of, rows}
use Rattle.record.specs.circuit_fields.Circuits.{gates, circuit_bytes}
use Rattle.record.proofs.Kept.{wires_within}
use Rattle.circuit.specs.declared.measures.Measures.{Measures}
use Rattle.circuit.specs.measures.Measures.{measures_of}
use Rattle.problem.specs.Demand.{Solves}
use Rattle.outcomes.specs.Outcomes.{problem_over, problem_of, record_of, Found, search_of}
use Rattle.outcomes.proofs.Facts.{found_sound, found_is, none_is, answers}
use Rattle.record.proofs.job_fields.Small.{total_small}
use Rattle.inverse.proofs.Tables.{realized_is}
use Rattle.inverse.proofs.Jobs.{plain_only}
use Rattle.peephole.specs.declared.windows.Prices.{Prices}
use Rattle.peephole.specs.windows.Windows.{weights, cost_at, window_job, cheaper_than, better}
use Rattle.peephole.specs.windows.Listings.{ByteEach}
use Rattle.peephole.proofs.windows.Asked.{unhurried, Fields, fields, value_at_law, sound, window_permutes}

-- no gate costs more than 255, and none lasts longer than 1
price_most : (p : Prices) → ByteEach p → (b : ℕ) → weight_of (weights p) b ≤ 255
unfolding weight_of
price_most p small b = by_kind (gate_of b).kind
  where
    by_kind : (k : Kind) → weight_for (weights p) k ≤ 255
    by_kind Not = small.0
    by_kind (Cnot x) = small.1.0
    by_kind (Toffoli x y) = small.1.1
    by_kind (Cccnot x y z) = omega arith

duration_most : (b : ℕ) → weight_of unhurried b ≤ 255
duration_most = price_most (record { not = 1; cnot = 1; toffoli = 1 }) (omega arith, (omega arith, omega arith))

module _ (n : ℕ) (wide : Width n) (p : Prices) (w : List ℕ) where
  abbrev job : List ℕ
  job = window_job n p w

  abbrev field : Fields n p w
  field = fields p w n wide

  priced : (l : List ℕ) → cost (price_of job) l ≡ cost_at p l
  priced l = ap (λ (ws : Weights). cost (weight_of ws) l) field.priced

  all_wires : wires job ≡ n
  unfolding wires
  all_wires = ap (λ (m : ℕ). data_wires job + m) field.bare ∙ add-zero (data_wires job) ∙ field.data_wires_law

  -- the gates that a search may choose are those of at most two controls
  same_law : (l : List ℕ) → all_of (lawful (most_controls job) (wires job)) l ≡ all_of (lawful 2 n) l
  same_law l =
      let k = field.shorter in
      let v = all_wires in
      λ i. all_of (lawful (pick (k i) 3 2) (v i)) l

  -- what stands behind a better answer
  pub found_parts : (a : List ℕ) → better n p w ≡ some a
      → (f : Found) × ((search_of job 15 ≡ answered f) × ((gates f.bytes ≡ a) × (f.measures.cost < cost_at p w)))
  unfolding better
  found_parts a e = by_answer (search_of job 15) refl e
    where
      by_cost : (f : Found) (t : Bool) → ltb f.measures.cost (cost_at p w) ≡ t → pick t (some (gates f.bytes)) none ≡ some a
          → (gates f.bytes ≡ a) × (f.measures.cost < cost_at p w)
      by_cost f true q r = (cc, ltb-true f.measures.cost (cost_at p w) q)
      by_cost f false q r = absurd (none-ne-some a r)

      by_answer : (o : Answer Found) → search_of job 15 ≡ o → cheaper_than (cost_at p w) o ≡ some a
          → (f : Found) × ((search_of job 15 ≡ answered f) × ((gates f.bytes ≡ a) × (f.measures.cost < cost_at p w)))
      by_answer (refused code) q r = absurd (none-ne-some a r)
      by_answer (answered f) q r = (f, (q, by_cost f (ltb f.measures.cost (cost_at p w)) refl r))

  -- the cost that the search tells is the cost of the gates that it found
  found_cost : (f : Found) → search_of job 15 ≡ answered f → f.measures.cost ≡ cost_at p (gates f.bytes)
  unfolding record_of circuit_bytes measures_of
  found_cost f e =
      let s = found_sound job 15 f e in
      let t = found_is job s.0 15 s.1 f e in
      ap (λ (m : Measures). m.cost) t.1.1.1.1 ∙ priced t.0 ∙ ap (cost_at p) (sym (ap gates t.1.1.1.0))

  -- so gates that it found and that cost less are a better answer
  pub found_better : (f : Found) → search_of job 15 ≡ answered f → cost_at p (gates f.bytes) < cost_at p w → better n p w ≡ some (gates f.bytes)
  unfolding better
  found_better f e h =
      ap (cheaper_than (cost_at p w)) e ∙ rw (lt-ltb f.measures.cost (cost_at p w) (rw (found_cost f e) h))

  -- a better answer: lawful gates that solve the window's job, no more than it has, at lower cost
  pub record Better (a : List ℕ) : Type 0 where
    pub well : job_code job ≡ 0
    pub layout : ℕ
    pub solving : Solves (problem_of job) a layout
    pub cheaper : cost_at p a < cost_at p w

  pub better_is : (a : List ℕ) → better n p w ≡ some a → Better a
  unfolding record_of circuit_bytes measures_of
  better_is a e =
      let q = found_parts a e in
      let f = q.0 in
      let s = found_sound job 15 f q.1.0 in
      let t = found_is job s.0 15 s.1 f q.1.0 in
      let l = t.0 in
      let same : l ≡ a = sym (ap gates t.1.1.1.0) ∙ q.1.1.0 in
      let least : f.measures.cost ≡ cost_at p l = ap (λ (m : Measures). m.cost) t.1.1.1.1 ∙ priced l in
      subst Better same
      (record { well = s.0; layout = t.1.0; solving = t.1.1.0.solution; cheaper = subst (λ (c : ℕ). c < cost_at p w) least q.1.1.1 })

  module _ (a : List ℕ) (b : Better a) where
    pub better_lawful : all_of (lawful 2 n) a ≡ true
    unfolding problem_over
    better_lawful = sym (same_law a) ∙ among_lawful (most_controls job) (wires job) a b.solving.admitted.gates_listed

    pub better_short : length a ≤ length w
    unfolding problem_over
    better_short = subst (λ (k : ℕ). length a ≤ k) field.limit b.solving.admitted.gates_within

  module _ (kept : all_of (lawful 2 n) w ≡ true) (short : length w ≤ 12) where
    -- a list realizes the window's table exactly where it does to every value what the window does
    module _ (l : List ℕ) (h : all_of (lawful 2 n) l ≡ true) where
      on_data : all_of (lawful 2 (data_wires job)) l ≡ true
      on_data = subst (λ (k : ℕ). all_of (lawful 2 k) l ≡ true) (sym field.data_wires_law) h

      alike : realizes (data_wires job) (rows job) (plain (data_wires job)) l ≡ true → (v : ℕ) → v < 2 ^ n → forwards l v ≡ forwards w v
      alike r v g =
          (realized_is job (window_permutes n wide p w kept short) 2 l on_data).0 r v (subst (λ (k : ℕ). v < 2 ^ k) (sym field.data_wires_law) g)
          ∙ value_at_law n wide p w kept v g

      realizing : ((v : ℕ) → v < 2 ^ n → forwards l v ≡ forwards w v) → realizes (data_wires job) (rows job) (plain (data_wires job)) l ≡ true
      realizing same =
          (realized_is job (window_permutes n wide p w kept short) 2 l on_data).1 (λ v g.
          let k : v < 2 ^ n = subst (λ (m : ℕ). v < 2 ^ m) field.data_wires_law g in
          same v k ∙ sym (value_at_law n wide p w kept v k))

    pub better_same : (a : List ℕ) → Better a → (v : ℕ) → v < 2 ^ n → forwards a v ≡ forwards w v
    unfolding problem_over
    better_same a b =
        let only = plain_only job (window_permutes n wide p w kept short) in
        let e : b.layout ≡ plain (data_wires job)
        = Memᴰ.eq_of_singleton (subst (λ (ps : List ℕ). Memᴰ b.layout ps) only b.solving.admitted.layout_listed) in
        alike a (better_lawful a b) (subst (λ (q : ℕ). realizes (data_wires job) (rows job) q a ≡ true) e b.solving.realizing)

    -- a list that does the same, of no more gates, solves the window's job
    solves : (l : List ℕ) → ByteEach p → all_of (lawful 2 n) l ≡ true → length l ≤ length w → ((v : ℕ) → v < 2 ^ n → forwards l v ≡ forwards w v)
        → Solves (problem_of job) l (plain (data_wires job))
    unfolding problem_over
    solves l small h few same =
        let only = plain_only job (window_permutes n wide p w kept short) in
        let fewer : length l ≤ gate_limit job = subst (λ (k : ℕ). length l ≤ k) (sym field.limit) few in
        let law = sound n wide p w kept short in
        let costs : cost_at p l ≤ 255 * length l = total_small (weight_of (weights p)) (price_most p small) l in
        let lasts : cost (weight_of unhurried) l ≤ 255 * length l = total_small (weight_of unhurried) duration_most l in
        let deep : depth (duration_of job) l ≤ cost (weight_of unhurried) l
        = subst (λ (ws : Weights). depth (duration_of job) l ≤ cost (weight_of ws) l) field.timed (depth_most (duration_of job) l) in
        let paid = priced l in
        let c = field.cost_limit_law in
        let d = field.depth_limit_law in
        record {
          admitted = record {
            gates_listed = lawful_among (most_controls job) (wires job) (wires_within job law).1 l (same_law l ∙ h);
            gates_within = fewer;
            layout_listed = subst (λ (ps : List ℕ). Memᴰ (plain (data_wires job)) ps) (sym only) (Memᴰ.head refl);
          };
          realizing = realizing l h same;
          cost_within = omega arith;
          depth_within = omega arith;
        }

    -- where the search has nothing better, nothing is
    pub nothing_better : better n p w ≡ none → ByteEach p → (l : List ℕ) → all_of (lawful 2 n) l ≡ true → length l ≤ length w
        → ((v : ℕ) → v < 2 ^ n → forwards l v ≡ forwards w v) → cost_at p w ≤ cost_at p l
    unfolding better measures_of problem_over
    nothing_better e small l h few same =
        let law = sound n wide p w kept short in
        let solved = solves l small h few same in
        ⊎_elim
        (λ (z : search_of job 15 ≡ refused 14). absurd ((none_is job law 15 (lit≤ tt)).0 z l (plain (data_wires job)) solved))
        (λ (z : (f : Found) × (search_of job 15 ≡ answered f)).
        let f = z.0 in
        let t = found_is job law 15 (lit≤ tt) f z.1 in
        let least : f.measures.cost ≡ cost_at p t.0 = ap (λ (m : Measures). m.cost) t.1.1.1.1 ∙ priced t.0 in
        let first : cost (price_of job) t.0 ≤ cost (price_of job) l = t.1.1.0.cheapest l (plain (data_wires job)) solved in
        let same_price = priced l in
        let other-price = priced t.0 in
        let dear = not_cheaper f (ltb f.measures.cost (cost_at p w)) refl (sym (ap (cheaper_than (cost_at p w)) z.1) ∙ e) in
        omega arith)
        (answers job law 15 (lit≤ tt))
      where
        not_cheaper : (f : Found) (t : Bool) → ltb f.measures.cost (cost_at p w) ≡ t → pick t (some (gates f.bytes)) none ≡ none
            → cost_at p w ≤ f.measures.cost
        not_cheaper f true q r = absurd (none-ne-some (gates f.bytes) (sym r))
        not_cheaper f false q r = ltb-false f.measures.cost (cost_at p w) q
