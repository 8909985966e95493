-- A job and its inverse are mirrored problems, over the same gates at the same prices and durations.
use mathlib.Core.Path.{◌≡◌, refl, sym, ap, ◌∙◌, subst}
use mathlib.Core.Bool.{true}
use mathlib.Core.List.Memᴰ
use mathlib.Core.List.{List, [], ◌∷◌, reverse, Memᴰ}
use Prim.Native.Nat.{ℕ, ◌+◌, ◌^◌, ◌≤◌, ◌<◌}
use native.Mathlib.Nat.{add-zero}
use native.Mathlib.Omega.{arith}
use lib.ListN.{length, length-map, get_or-map}
use Rattle.logic.specs.Rules.{pick}
use Rattle.logic.specs.Lists.{all_of}
use Rattle.logic.proofs.Chain.{both_right}
use Rattle.logic.proofs.Members.{place_of, among_all}
use Rattle.gate.specs.Gates.{lawful}
use Rattle.circuit.specs.run.Run.{forwards}
use Rattle.circuit.proofs.reversal.Runs.{runs_back, lawful_reverse}
use Rattle.table.specs.layouts.Layouts.{plain, layouts_for}
use Rattle.table.specs.Rows.{value_of, realizes}
use Rattle.table.proofs.layouts.Named.{fixed}
use Rattle.record.specs.job_fields.Jobs.{most_controls, data_wires, wires, free_layout, rows}
use Rattle.record.proofs.Kept.{sound_job, wires_within}
use Rattle.parity.specs.Parity.{values, full, distinct, permutes}
use Rattle.parity.proofs.odd_tables.Permutation.{permutation}
use Rattle.problem.specs.Demand.{Admitted}
use Rattle.outcomes.specs.Outcomes.{GateSet, problem_over}
use Rattle.outcomes.specs.Inner.{Lawfuls}
use Rattle.inverse.specs.Mirror.{Mirrored}
use Rattle.inverse.specs.Inverse.{Permutation, Inverse, value_at}
use Rattle.inverse.proofs.Tables.{value_low, realized_is}

module _ (job : List ℕ) (perm : Permutation job) where
  -- without an ancilla the data wires are all there are
  pub bare_wires : wires job ≡ data_wires job
  unfolding wires
  bare_wires = ap (λ (m : ℕ). data_wires job + m) perm.bare ∙ add-zero (data_wires job)

  -- the plain layout alone is allowed
  pub plain_only : layouts_for (data_wires job) (free_layout job) ≡ plain (data_wires job) ∷ []
  plain_only = fixed (data_wires job) (free_layout job) (λ (e : free_layout job ≡ 1). clash (sym perm.fixed ∙ e))
    where
      clash : ◌≡◌ {A = ℕ} 0 1 → ⊥
      clash e = omega arith

  -- every value stands in a row
  pub row_with : (v : ℕ) → v < 2 ^ data_wires job → (x : ℕ) × ((x < 2 ^ data_wires job) × (value_at job x ≡ v))
  unfolding permutes
  row_with v h =
      let d = both_right (full job) (distinct (values job)) perm.permuting in
      let r = place_of v (values job) ((permutation job perm.sound).0 d v h) in
      let s : length (values job) ≡ 2 ^ data_wires job = length-map (rows job) value_of ∙ (sound_job job perm.sound).rows_many in (
        r.0,
        (subst (λ (n : ℕ). r.0 < n) s r.1.0, sym (get_or-map value_of (rows job) r.0 0) ∙ r.1.1),
      )

module _ (job other : List ℕ) (i : Inverse job other) where
  redone : (v : ℕ) → v < 2 ^ data_wires other → value_at job (value_at other v) ≡ v
  redone v h =
      let r = row_with job i.this v (subst (λ (n : ℕ). v < 2 ^ n) (sym i.same_data) h) in
      ap (λ (y : ℕ). value_at job (value_at other y)) (sym r.1.1) ∙ ap (value_at job) (i.undone r.0 r.1.0) ∙ r.1.1

  -- the inverse of the inverse is the table
  pub turned : Inverse other job
  turned = record {
    this = i.that;
    that = i.this;
    same_data = sym i.same_data;
    same_size = sym i.same_size;
    same_gate_limit = sym i.same_gate_limit;
    same_cost_limit = sym i.same_cost_limit;
    same_depth_limit = sym i.same_depth_limit;
    same_prices = sym i.same_prices;
    same_durations = sym i.same_durations;
    undone = redone;
  }

module _ (job other : List ℕ) (i : Inverse job other) (G : GateSet) (lawfuls : Lawfuls job G.gates) where
  -- what realizes the one table realizes the other backwards
  backwards_too : (l : List ℕ) (p : ℕ) → Admitted (problem_over G job) l p → realizes (data_wires job) (rows job) p l ≡ true
      → realizes (data_wires other) (rows other) p (reverse l) ≡ true
  unfolding problem_over
  backwards_too l p a h =
      let n = data_wires job in
      let k = most_controls job in
      let w = bare_wires job i.this in
      let five : n ≤ 5 = subst (λ (m : ℕ). m ≤ 5) w (wires_within job i.this.sound).1 in
      let kept : all_of (lawful k n) l ≡ true
      = subst (λ (m : ℕ). all_of (lawful k m) l ≡ true) w (among_all (lawful k (wires job)) G.gates l lawfuls a.gates_listed) in
      let e : p ≡ plain n = Memᴰ.eq_of_singleton (subst (λ (ps : List ℕ). Memᴰ p ps) (plain_only job i.this) a.layout_listed) in
      let ends = (realized_is job i.this k l kept).0 (subst (λ (q : ℕ). realizes n (rows job) q l ≡ true) e h) in
      let same = i.same_data in
      let kept_back : all_of (lawful k (data_wires other)) (reverse l) ≡ true
      = subst (λ (m : ℕ). all_of (lawful k m) (reverse l) ≡ true) same (lawful_reverse k n l ∙ kept) in
      subst (λ (q : ℕ). realizes (data_wires other) (rows other) q (reverse l) ≡ true) (ap plain (sym same) ∙ sym e)
      ((realized_is other i.that k (reverse l) kept_back).1 (λ v hv.
      let x = value_at other v in
      let hx : x < 2 ^ n = subst (λ (m : ℕ). x < 2 ^ m) (sym same) (value_low other i.that v hv) in
      ap (forwards (reverse l)) (sym (ends x hx ∙ (turned job other i).undone v hv)) ∙ runs_back k n l x five kept hx))

module _ (job other : List ℕ) (i : Inverse job other) where
  pub same_wires_law : wires job ≡ wires other
  same_wires_law = bare_wires job i.this ∙ i.same_data ∙ sym (bare_wires other i.that)

  pub lawfuls_too : (gates : List ℕ) → Lawfuls job gates → Lawfuls other gates
  lawfuls_too gates h g m = sym (λ j. lawful (pick (i.same_size j) 3 2) (same_wires_law j) g) ∙ h g m

  pub mirrored : (G : GateSet) → Lawfuls job G.gates → Mirrored (problem_over G job) (problem_over G other)
  unfolding problem_over
  mirrored G lawfuls = record {
    same_gates = refl;
    same_layouts = plain_only job i.this ∙ ap (λ (n : ℕ). plain n ∷ []) i.same_data ∙ sym (plain_only other i.that);
    same_price = refl;
    same_duration = refl;
    same_most_gates = i.same_gate_limit;
    same_most_cost = i.same_cost_limit;
    same_most_depth = i.same_depth_limit;
    forth = backwards_too job other i G lawfuls;
    back = backwards_too other job (turned job other i) G (lawfuls_too G.gates lawfuls);
  }
