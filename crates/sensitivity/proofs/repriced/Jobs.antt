-- Two jobs that differ in one price at most, as two problems that differ in the price of one kind.
use mathlib.Core.Path.{◌≡◌, refl, sym, ap, ap₂, ◌∙◌, subst}
use mathlib.Core.Bool.{Bool, true, false}
use mathlib.Core.Logic.{⊎_elim}
use mathlib.Core.List.{List}
use Prim.Native.Nat.{ℕ, ◌+◌, ◌-◌, ◌*◌, ◌/◌, ◌%◌, ◌<◌}
use native.Mathlib.Nat.{mul-zero, mul-suc}
use native.Mathlib.Decide.{ℕ_discrete}
use native.Mathlib.Omega.{arith}
use borrow.Author.Tests.{eq-eqb, ne_eqb, eqb-true, ltb-true, ltb-false}
use lib.Dec.{eqb, leb, ltb}
use lib.ListN.{length, get_or, drop, length-drop, get_or-eq_default}
use lib.Seq.{ext_get_or, get_or-drop}
use Rattle.logic.specs.Rules.{both, either, implies, pick, bit}
use Rattle.logic.proofs.Chain.{both_left, both_parts, either_cases}
use Rattle.logic.proofs.Below.{below}
use Rattle.gate.specs.declared.Kind.{Kind}
use Rattle.gate.specs.declared.Kind.TheVariants.{Not, Cnot, Toffoli, Cccnot}
use Rattle.gate.specs.Gates.{gate_of, gates_for}
use Rattle.circuit.specs.Measure.{weight_for, weight_of}
use Rattle.table.specs.layouts.Layouts.{layouts_for}
use Rattle.table.specs.Rows.{realizes}
use Rattle.record.specs.job_fields.Jobs.{longer, data_wires, ancillas, wires, free_layout, gate_limit, cost_limit, depth_limit, weights_at, prices, durations, rows}
use Rattle.outcomes.specs.Outcomes.{problem_over, problem_of}
use Rattle.sensitivity.specs.alike.Alike.{price_count, price_place, same_but, alike_but, one_price, comparable}
use Rattle.sensitivity.specs.repriced.Demand.{kind_number, of_kind, AlikeButPrices, Raised}
use Rattle.sensitivity.proofs.alike.Scan.{some_is}

-- what tells two jobs apart is at most the price of the k-th kind
pub record Changed (old new : List ℕ) (k : ℕ) : Type 0 where
  pub same_length : length old ≡ length new
  pub priced : k < price_count old
  pub elsewhere : (i : ℕ) → (i ≡ price_place k → ⊥) → get_or old i 0 ≡ get_or new i 0

-- records alike but for a place are the same at every other, past their end too
same_at : (old new : List ℕ) (place : ℕ) → length old ≡ length new → alike_but old new place ≡ true
    → (i : ℕ) → (i ≡ place → ⊥) → get_or old i 0 ≡ get_or new i 0
unfolding alike_but same_but
same_at old new place e h i d = by_length (ltb i (length old)) refl
  where
    by_length : (t : Bool) → ltb i (length old) ≡ t → get_or old i 0 ≡ get_or new i 0
    by_length true l =
        ⊎_elim
        (λ (q : eqb i place ≡ true). absurd (d (eqb-true i place q)))
        (λ (q : eqb (get_or old i 0) (get_or new i 0) ≡ true). eqb-true (get_or old i 0) (get_or new i 0) q)
        (either_cases (eqb i place) (eqb (get_or old i 0) (get_or new i 0)) (below (length old) (same_but old new place) h i (ltb-true i (length old) l)))
    by_length false l =
        let g = ltb-false i (length old) l in
        get_or-eq_default old 0 {n = i} g ∙ sym (get_or-eq_default new 0 {n = i} (omega arith))

pub changed_is : (old new : List ℕ) → comparable old new ≡ true → (k : ℕ) × Changed old new k
unfolding comparable one_price
changed_is old new h =
    let wide = both (leb 65535 (cost_limit old)) (leb 65535 (cost_limit new)) in
    let p = both_parts (eqb (length old) (length new)) (both (one_price old new) wide) h in
    let r = some_is (λ k. alike_but old new (price_place k)) (price_count old) (both_left (one_price old new) wide p.1) in
    let e = eqb-true (length old) (length new) p.0 in
    (r.0, record { same_length = e; priced = r.1.0; elsewhere = λ i d. same_at old new (price_place r.0) e r.1.1 i d })

-- a kind's price by its place; a shorter job has none for three controls
weight_at : (four : Bool) (job : List ℕ) (κ : Kind)
    → weight_for (weights_at four job 6) κ ≡ pick (implies (eqb (kind_number κ) 3) four) (get_or job (6 + kind_number κ) 0) 0
weight_at four job Not = refl
weight_at four job (Cnot a) = refl
weight_at four job (Toffoli a b) = refl
weight_at four job (Cccnot a b c) = refl

-- a kind that has a price
held : (n : ℕ) (four : Bool) → n < pick four 4 3 → implies (eqb n 3) four ≡ true
held n true h = any (eqb n 3)
  where
    any : (t : Bool) → implies t true ≡ true
    any true = refl
    any false = refl
held n false h = rw (ne_eqb n 3 (λ (e : n ≡ 3). omega arith))

module _ (old new : List ℕ) (k : ℕ) (c : Changed old new k) where
  same_longer : longer old ≡ longer new
  unfolding longer
  same_longer = ap (λ (n : ℕ). either (eqb n 22) (eqb n 30)) c.same_length

  pub other_way : Changed new old k
  other_way = record {
    same_length = sym c.same_length;
    priced = subst (λ (t : Bool). k < pick t 4 3) same_longer c.priced;
    elsewhere = λ i d. sym (c.elsewhere i d);
  }

  -- the bytes before the prices
  early : (i : ℕ) → i < 6 → get_or old i 0 ≡ get_or new i 0
  early i h = c.elsewhere i (λ (e : i ≡ 6 + k). omega arith)

  same_data : data_wires old ≡ data_wires new
  unfolding data_wires
  same_data = ap (λ (b : ℕ). b / 32) (early 0 (omega arith))

  same_ancillas : ancillas old ≡ ancillas new
  unfolding ancillas
  same_ancillas = ap (λ (b : ℕ). b / 8 % 4) (early 0 (omega arith))

  same_wires_law : wires old ≡ wires new
  unfolding wires
  same_wires_law = ap₂ ◌+◌ same_data same_ancillas

  same_free : free_layout old ≡ free_layout new
  unfolding free_layout
  same_free = ap (λ (b : ℕ). b / 4 % 2) (early 0 (omega arith))

  same_gate_limit : gate_limit old ≡ gate_limit new
  unfolding gate_limit
  same_gate_limit = early 1 (omega arith)

  same_depth_limit : depth_limit old ≡ depth_limit new
  unfolding depth_limit
  same_depth_limit = ap₂ (λ (x y : ℕ). 256 * x + y) (early 4 (omega arith)) (early 5 (omega arith))

  -- the bytes after them
  late : (i : ℕ) → 6 + k < i → get_or old i 0 ≡ get_or new i 0
  late i h = c.elsewhere i (λ (e : i ≡ 6 + k). omega arith)

  same_durations : durations old ≡ durations new
  unfolding durations
  same_durations = by_size (longer old) c.priced ∙ ap (λ (four : Bool). weights_at four new (pick four 10 9)) same_longer
    where
      by_size : (four : Bool) → k < pick four 4 3 → weights_at four old (pick four 10 9) ≡ weights_at four new (pick four 10 9)
      by_size true h =
          let x = late 10 (omega arith) in
          let y = late 11 (omega arith) in
          let z = late 12 (omega arith) in
          let w = late 13 (omega arith) in
          λ i. record { not = x i; cnot = y i; toffoli = z i; cccnot = w i }
      by_size false h =
          let x = late 9 (omega arith) in
          let y = late 10 (omega arith) in
          let z = late 11 (omega arith) in
          λ i. record { not = x i; cnot = y i; toffoli = z i; cccnot = 0 }

  rest : (n : ℕ) → 6 + k < n → drop n old ≡ drop n new
  rest n h =
      ext_get_or 0 (drop n old) (drop n new) (length-drop n old ∙ ap (λ (m : ℕ). m - n) c.same_length ∙ sym (length-drop n new))
      (λ i l. get_or-drop n old i 0 ∙ late (n + i) (omega arith) ∙ sym (get_or-drop n new i 0))

  same_rows : rows old ≡ rows new
  same_rows = by_size (longer old) c.priced ∙ ap (λ (four : Bool). drop (pick four 14 12) new) same_longer
    where
      by_size : (four : Bool) → k < pick four 4 3 → drop (pick four 14 12) old ≡ drop (pick four 14 12) new
      by_size true h = rest 14 (omega arith)
      by_size false h = rest 12 (omega arith)

  pub alike : AlikeButPrices (problem_of old) (problem_of new)
  unfolding problem_over
  alike = record {
    same_gates = λ i. gates_for (pick (same_longer i) 3 2) (same_wires_law i);
    same_layouts = ap₂ layouts_for same_data same_free;
    same_duration = λ i b. weight_of (same_durations i) b;
    same_realized = ap₂ realizes same_data same_rows;
    same_most_gates = same_gate_limit;
    same_most_depth = same_depth_limit;
  }

  module _ (d : ℕ) (more : get_or new (price_place k) 0 ≡ get_or old (price_place k) 0 + d) where
    -- the price of the n-th kind, where it has one
    raised_at : (n : ℕ) (t : Bool) → (n ≡ k → t ≡ true)
        → pick t (get_or new (6 + n) 0) 0 ≡ pick t (get_or old (6 + n) 0) 0 + d * bit (eqb n k)
    raised_at n t priced = by_kind (ℕ_discrete n k)
      where
        one : (x y : ℕ) → x ≡ y + d → x ≡ y + d * 1
        one x y h = let m = mul-suc d 0 in let z = mul-zero d in omega arith

        none : (z : ℕ) → z ≡ z + d * 0
        none z = let m = mul-zero d in omega arith

        by_kind : Dec (n ≡ k) → pick t (get_or new (6 + n) 0) 0 ≡ pick t (get_or old (6 + n) 0) 0 + d * bit (eqb n k)
        by_kind (yes e) =
            rw (priced e, eq-eqb n k e)
            (one (get_or new (6 + n) 0) (get_or old (6 + n) 0) (subst (λ (m : ℕ). get_or new (6 + m) 0 ≡ get_or old (6 + m) 0 + d) (sym e) more))
        by_kind (no e) =
            rw (ne_eqb n k e)
            (ap (λ (x : ℕ). pick t x 0) (sym (c.elsewhere (6 + n) (λ (q : 6 + n ≡ 6 + k). e (omega arith)))) ∙ none (pick t (get_or old (6 + n) 0) 0))

    pub raised : Raised (problem_of old) (problem_of new) (of_kind k) d
    unfolding problem_over prices weight_of of_kind
    raised g =
        let κ = (gate_of g).kind in
        let n = kind_number κ in
        ap (λ (four : Bool). weight_for (weights_at four new 6) κ) (sym same_longer)
        ∙ weight_at (longer old) new κ
        ∙ raised_at n (implies (eqb n 3) (longer old))
        (λ (e : n ≡ k). held n (longer old) (subst (λ (m : ℕ). m < pick (longer old) 4 3) (sym e) c.priced))
        ∙ sym (ap (λ (x : ℕ). x + d * bit (eqb n k)) (weight_at (longer old) old κ))
