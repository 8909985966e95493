-- A counting job is solved by exactly the lists of gates within its limit that make its permutation.
use mathlib.Core.Path.{◌≡◌, refl, sym, ap, ◌∙◌, subst}
use mathlib.Core.Bool.{true}
use mathlib.Core.List.Memᴰ
use mathlib.Core.List.{List, Memᴰ}
use Prim.Native.Nat.{ℕ, ◌^◌, ◌≤◌, ◌<◌}
use native.Mathlib.Omega.{arith}
use lib.ListN.{length, get_or, length-map, get_or-map}
use Rattle.logic.specs.Rules.{pick}
use Rattle.logic.specs.Lists.{all_of, Among}
use Rattle.logic.proofs.Chain.{both_right}
use Rattle.logic.proofs.Members.{place_of, numbers_has}
use Rattle.gate.specs.Gates.{lawful, gates_for, gate_of}
use Rattle.gate.proofs.Tables.{among_lawful, on_three}
use Rattle.circuit.specs.Measure.{weight_of, depth}
use Rattle.circuit.proofs.Prefix.{depth_most}
use Rattle.table.specs.layouts.Layouts.{plain}
use Rattle.table.specs.Rows.{value_of, realizes}
use Rattle.record.specs.job_fields.Jobs.{longer, most_controls, data_wires, wires, gate_limit, depth_limit, durations, duration_of, rows}
use Rattle.record.proofs.Kept.{sound_job}
use Rattle.record.proofs.job_fields.Widths.{two_or_three}
use Rattle.parity.specs.Parity.{values, full, distinct, permutes}
use Rattle.problem.specs.Demand.{Solves}
use Rattle.outcomes.specs.Outcomes.{problem_over, problem_of}
use Rattle.outcomes.proofs.Limits.{roomy}
use Rattle.record.proofs.job_fields.Small.{weight_small, total_small}
use Rattle.inverse.specs.Inverse.{value_at}
use Rattle.inverse.proofs.Tables.{value_low, realized_is}
use Rattle.inverse.proofs.Jobs.{bare_wires, plain_only}
use Rattle.sizes.specs.permutations.Orders.{eight, Arranges}
use Rattle.sizes.specs.permutations.Sizes.{twelve, Makes}
use Rattle.inverse.specs.least.Counting.{Counting}

module _ (job : List ℕ) (c : Counting job) where
  low : (x : ℕ) → x < 8 → value_at job x < 8
  low x h =
      subst (λ (n : ℕ). value_at job x < 2 ^ n) c.three
      (value_low job c.permutation x (subst (λ (n : ℕ). x < 2 ^ n) (sym c.three) h))

  value_is : (x : ℕ) → get_or (values job) x 0 ≡ value_at job x
  value_is x = get_or-map value_of (rows job) x 0

  long : length (values job) ≡ 8
  long = length-map (rows job) value_of ∙ (sound_job job c.permutation.sound).rows_many ∙ ap (λ (n : ℕ). 2 ^ n) c.three

  -- the job's values are one of the permutations
  pub arranges : Arranges eight (values job)
  unfolding permutes
  arranges = record {
    same_length = long;
    once = both_right (full job) (distinct (values job)) c.permutation.permuting;
    among = λ v m.
        let p = place_of v (values job) m in
        let h : p.0 < 8 = (let q = p.1.0 in let l = long in omega arith) in
        numbers_has 8 0 v (omega arith)
        (let k = subst (λ (y : ℕ). y < 8) (sym (value_is p.0) ∙ p.1.1) (low p.0 h) in omega arith);
  }

  -- its gates are the twelve, whether it has three prices or four
  gates_are : gates_for (most_controls job) (wires job) ≡ twelve
  gates_are =
      let t = two_or_three (longer job) in
      ap (gates_for (most_controls job)) (bare_wires job c.permutation ∙ c.three) ∙ on_three (most_controls job) t.0 t.1

  duration_small : (b : ℕ) → duration_of job b ≤ 255
  unfolding durations weight_of
  duration_small b = weight_small (longer job) job (pick (longer job) 10 9) c.bytes (gate_of b).kind

  module _ (l : List ℕ) where
    kept : Among twelve l → all_of (lawful 2 (data_wires job)) l ≡ true
    kept w = subst (λ (n : ℕ). all_of (lawful 2 n) l ≡ true) (sym c.three) (among_lawful 2 3 l w)

    -- to realize its table is to make its permutation
    realized_made : Among twelve l
        → (realizes (data_wires job) (rows job) (plain (data_wires job)) l ≡ true → Makes (values job) l)
        × (Makes (values job) l → realizes (data_wires job) (rows job) (plain (data_wires job)) l ≡ true)
    realized_made w =
        let r = realized_is job c.permutation 2 l (kept w) in (
          (λ h x k. r.0 h x (subst (λ (n : ℕ). x < 2 ^ n) (sym c.three) k) ∙ sym (value_is x)),
          (λ m. r.1 (λ x k. m x (subst (λ (n : ℕ). x < 2 ^ n) c.three k) ∙ value_is x)),
        )

    -- twelve gates take at most 3,060
    soon : length l ≤ gate_limit job → depth (duration_of job) l ≤ depth_limit job
    soon few =
        let s = total_small (duration_of job) duration_small l in
        omega (arith, depth_most (duration_of job) l, c.any_depth, (sound_job job c.permutation.sound).limit)

    pub solves : Among twelve l → length l ≤ gate_limit job → Makes (values job) l → Solves (problem_of job) l (plain (data_wires job))
    unfolding problem_over
    solves w few m = record {
      admitted = record {
        gates_listed = subst (λ (gs : List ℕ). Among gs l) (sym gates_are) w;
        gates_within = few;
        layout_listed = subst (λ (ps : List ℕ). Memᴰ (plain (data_wires job)) ps) (sym (plain_only job c.permutation)) (Memᴰ.head refl);
      };
      realizing = (realized_made w).1 m;
      cost_within = roomy job c.bytes c.permutation.sound (let e = c.any_cost in omega arith) l few;
      depth_within = soon few;
    }

    pub solved : (p : ℕ) → Solves (problem_of job) l p → Among twelve l × ((length l ≤ gate_limit job) × Makes (values job) l)
    unfolding problem_over
    solved p s =
        let a = s.admitted in
        let w : Among twelve l = subst (λ (gs : List ℕ). Among gs l) gates_are a.gates_listed in
        let e : p ≡ plain (data_wires job)
        = Memᴰ.eq_of_singleton (subst (λ (ps : List ℕ). Memᴰ p ps) (plain_only job c.permutation) a.layout_listed) in
        (w, (a.gates_within, (realized_made w).0 (subst (λ (q : ℕ). realizes (data_wires job) (rows job) q l ≡ true) e s.realizing)))
