-- The job of a window: its fields, that it breaks no rule, and that its table is a full permutation, which sends each value where the window does.
use mathlib.Core.Path.{◌≡◌, refl, sym, ap, ap₂, ◌∙◌, subst}
use mathlib.Core.Bool.{Bool, true, false}
use mathlib.Core.Logic.{⊎_elim}
use mathlib.Core.List.Memᴰ
use mathlib.Core.List.{List, map, reverse, reverse-reverse, Memᴰ}
use Prim.Native.Nat.{ℕ, ◌+◌, ◌-◌, ◌*◌, ◌/◌, ◌%◌, ◌^◌, ◌≤◌, ◌<◌}
use native.Mathlib.Nat.{zero-add}
use native.Mathlib.Omega.{arith}
use borrow.Author.Tests.{eq-eqb, le-leb}
use lib.Dec.{leb}
use lib.ListN.{length, get_or, length-map, get_or-map}
use Rattle.logic.specs.Lists.{all_of, numbers_from}
use Rattle.logic.proofs.Chain.{both_true}
use Rattle.logic.proofs.Members.{member_at}
use Rattle.gate.specs.Gates.{lawful}
use Rattle.circuit.specs.declared.Weights.{Weights}
use Rattle.circuit.specs.run.Run.{forwards}
use Rattle.circuit.proofs.run.Reversal.{stays}
use Rattle.circuit.proofs.reversal.Runs.{runs_back, lawful_reverse}
use Rattle.table.specs.layouts.Layouts.{Width}
use Rattle.table.specs.Rows.{care_of, value_of, row_ok}
use Rattle.record.specs.job_fields.Jobs.{longer, data_wires, ancillas, free_layout, gate_limit, cost_limit, depth_limit, prices, durations, rows}
use Rattle.record.specs.JobRules.{job_length_ok, size_ok, head_ok, limit_ok, durations_ok, rows_ok, job_code}
use Rattle.parity.specs.Parity.{values, full_row, full, permutes}
use Rattle.parity.proofs.odd_tables.Permutation.{permutation}
use Rattle.inverse.specs.Inverse.{Permutation, value_at}
use Rattle.inverse.proofs.Tables.{full_of}
use Rattle.inverse.proofs.Made.{made_at, made_length, all_placed, fine_at, sized}
use Rattle.peephole.specs.declared.windows.Prices.{Prices}
use Rattle.peephole.specs.windows.Windows.{weights, window_row, window_job}

-- durations of 1
abbrev pub unhurried : Weights
unhurried = record { not = 1; cnot = 1; toffoli = 1; cccnot = 0 }

pub record Fields (n : ℕ) (p : Prices) (w : List ℕ) : Type 0 where
  pub data_wires_law : data_wires (window_job n p w) ≡ n
  pub bare : ancillas (window_job n p w) ≡ 0
  pub fixed : free_layout (window_job n p w) ≡ 0
  pub shorter : longer (window_job n p w) ≡ false
  pub limit : gate_limit (window_job n p w) ≡ length w
  pub cost_limit_law : cost_limit (window_job n p w) ≡ 65535
  pub depth_limit_law : depth_limit (window_job n p w) ≡ 65535
  pub priced : prices (window_job n p w) ≡ weights p
  pub timed : durations (window_job n p w) ≡ unhurried
  pub tabled : rows (window_job n p w) ≡ map (window_row n w) (numbers_from 0 (2 ^ n))
  pub long : job_length_ok (window_job n p w) ≡ true
  pub fitting : size_ok (window_job n p w) ≡ true
  pub headed : head_ok (window_job n p w) ≡ true
  pub slow : durations_ok (window_job n p w) ≡ true

module _ (p : Prices) (w : List ℕ) where
  three : Fields 3 p w
  unfolding window_job data_wires ancillas free_layout longer gate_limit cost_limit depth_limit prices durations job_length_ok size_ok head_ok durations_ok
  three = record {
    data_wires_law = refl;
    bare = refl;
    fixed = refl;
    shorter = refl;
    limit = refl;
    cost_limit_law = refl;
    depth_limit_law = refl;
    priced = refl;
    timed = refl;
    tabled = refl;
    long = refl;
    fitting = refl;
    headed = refl;
    slow = refl;
  }

  four : Fields 4 p w
  unfolding window_job data_wires ancillas free_layout longer gate_limit cost_limit depth_limit prices durations job_length_ok size_ok head_ok durations_ok
  four = record {
    data_wires_law = refl;
    bare = refl;
    fixed = refl;
    shorter = refl;
    limit = refl;
    cost_limit_law = refl;
    depth_limit_law = refl;
    priced = refl;
    timed = refl;
    tabled = refl;
    long = refl;
    fitting = refl;
    headed = refl;
    slow = refl;
  }

  pub fields : (n : ℕ) → Width n → Fields n p w
  fields n wide =
      ⊎_elim
      (λ (e : n ≡ 3). subst (λ (m : ℕ). Fields m p w) (sym e) three)
      (λ (e : n ≡ 4). subst (λ (m : ℕ). Fields m p w) (sym e) four)
      wide

-- the two halves of a row
low_half : (c t : ℕ) → t < 16 → (16 * c + t) % 16 ≡ t
low_half c t l = omega arith

high_half : (c t : ℕ) → t < 16 → (16 * c + t) / 16 ≡ c
high_half c t l = omega arith

module _ (n : ℕ) (wide : Width n) (p : Prices) (w : List ℕ) (kept : all_of (lawful 2 n) w ≡ true) where
  abbrev job : List ℕ
  job = window_job n p w

  abbrev field : Fields n p w
  field = fields p w n wide

  end_low : (x : ℕ) → x < 2 ^ n → forwards w x < 2 ^ n
  end_low x h = stays 2 n w x kept h

  end_half : (x : ℕ) → x < 2 ^ n → forwards w x < 16
  end_half x h = omega (arith, end_low x h, (sized n wide).1)

  row_at : (x : ℕ) → x < 2 ^ n → get_or (rows job) x 0 ≡ full_of n (forwards w x)
  row_at x h =
      let e : forwards w x % 16 ≡ forwards w x = omega (arith, end_half x h) in
      ap (λ (l : List ℕ). get_or l x 0) field.tabled
      ∙ made_at (window_row n w) (2 ^ n) 0 x h
      ∙ ap (window_row n w) (zero-add x)
      ∙ ap (full_of n) e

  rows_length : length (rows job) ≡ 2 ^ n
  rows_length = ap length field.tabled ∙ made_length (window_row n w) (2 ^ n) 0

  pub value_at_law : (x : ℕ) → x < 2 ^ n → value_at job x ≡ forwards w x
  value_at_law x h = ap value_of (row_at x h) ∙ low_half (2 ^ n - 1) (forwards w x) (end_half x h)

  -- what holds at every value's row holds of all rows
  each_row : (f : ℕ → Bool) → ((x : ℕ) → x < 2 ^ n → f (get_or (rows job) x 0) ≡ true) → all_of f (rows job) ≡ true
  each_row f h = all_placed f (rows job) (λ x l. h x (subst (λ (m : ℕ). x < m) rows_length l))

  rows_fine : rows_ok job ≡ true
  unfolding rows_ok
  rows_fine =
      each_row (row_ok (data_wires job)) (λ x h.
      ap₂ (λ (k r : ℕ). row_ok k r) field.data_wires_law (row_at x h) ∙ fine_at n wide (forwards w x) (end_low x h))

  rows_full : full job ≡ true
  unfolding full
  rows_full =
      each_row (full_row (data_wires job)) (λ x h.
      eq-eqb (care_of (get_or (rows job) x 0)) (2 ^ data_wires job - 1)
      (ap care_of (row_at x h) ∙ high_half (2 ^ n - 1) (forwards w x) (end_half x h) ∙ ap (λ (k : ℕ). 2 ^ k - 1) (sym field.data_wires_law)))

  module _ (short : length w ≤ 12) where
    pub sound : job_code job ≡ 0
    unfolding job_code limit_ok
    sound =
        let within : leb (gate_limit job) 12 ≡ true = ap (λ (k : ℕ). leb k 12) field.limit ∙ le-leb (length w) 12 short in
        rw (field.long, field.fitting, field.headed, within, field.slow, rows_fine)

    -- each value is what the window makes of the value that the window backwards makes of it
    every_value : (v : ℕ) → v < 2 ^ n → Memᴰ v (values job)
    every_value v h =
        let back : all_of (lawful 2 n) (reverse w) ≡ true = lawful_reverse 2 n w ∙ kept in
        let x = forwards (reverse w) v in
        let low : x < 2 ^ n = stays 2 n (reverse w) v back h in
        let few : n ≤ 5 = ⊎_elim (λ (e : n ≡ 3). omega arith) (λ (e : n ≡ 4). omega arith) wide in
        let there : forwards w x ≡ v
        = ap (λ (l : List ℕ). forwards l x) (sym (reverse-reverse w)) ∙ runs_back 2 n (reverse w) v few back h in
        let e : get_or (values job) x 0 ≡ v = get_or-map value_of (rows job) x 0 ∙ value_at_law x low ∙ there in
        let s : x < length (values job) = subst (λ (m : ℕ). x < m) (sym (length-map (rows job) value_of ∙ rows_length)) low in
        Memᴰ.cast (sym e) (member_at (values job) x s)

    permuting : permutes job ≡ true
    unfolding permutes
    permuting = both_true rows_full ((permutation job sound).1 (λ v h. every_value v (subst (λ (k : ℕ). v < 2 ^ k) field.data_wires_law h)))

    pub window_permutes : Permutation job
    window_permutes = record { sound = sound; permuting = permuting; bare = field.bare; fixed = field.fixed }
