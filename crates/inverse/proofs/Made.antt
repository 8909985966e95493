-- The job of the inverse table: it is well-formed where the job is, and it is the job's inverse.
use mathlib.Core.Path.{◌≡◌, refl, sym, ap, ap₂, ◌∙◌, subst}
use mathlib.Core.Bool.{Bool, true, false, not}
use mathlib.Core.Logic.{⊎_elim}
use mathlib.Core.List.Memᴰ
use mathlib.Core.List.{List, map, Memᴰ}
use Prim.Native.Nat.{ℕ, zero, suc, ◌+◌, ◌-◌, ◌*◌, ◌/◌, ◌%◌, ◌^◌, ◌≤◌, ◌<◌}
use native.Mathlib.Nat.{not-suc-le-zero, le_of_suc-le-suc, add-zero}
use native.Mathlib.Omega.{arith}
use borrow.Author.Tests.{eq-eqb}
use lib.Dec.{eqb, leb, lit<}
use lib.ListN.{length, get_or, take, drop, length-append, length-drop, length-map, get_or-append, get_or-map}
use lib.Seq.{length-take-le, get_or-take, drop_at}
use Rattle.logic.specs.Rules.{both, either, implies, pick, all_below}
use Rattle.logic.specs.Lists.{all_of, numbers_from}
use Rattle.logic.proofs.Chain.{both_right, both_true, rule_kept}
use Rattle.logic.proofs.Below.{below}
use Rattle.logic.proofs.Members.{member_at, place_of, all_members}
use Rattle.table.specs.layouts.Layouts.{Width}
use Rattle.table.specs.Rows.{care_of, value_of, row_ok, row_of}
use Rattle.record.specs.job_fields.Jobs.{longer, data_wires, ancillas, free_layout, gate_limit, cost_limit, depth_limit, weights_at, prices, durations, rows}
use Rattle.record.specs.JobRules.{job_length_ok, size_ok, head_ok, limit_ok, durations_ok, rows_ok, job_code}
use Rattle.record.proofs.Kept.{sound_job}
use Rattle.parity.specs.Parity.{values, full_row, full, distinct, permutes}
use Rattle.parity.proofs.odd_tables.Permutation.{permutation}
use Rattle.outcomes.specs.Outcomes.{search_of}
use Rattle.library.specs.entries.Library.{library_code}
use Rattle.library.specs.calls.Calls.{search_with}
use Rattle.parity.proofs.Distinct.{row_of_at}
use Rattle.inverse.specs.Mirror.{Alike}
use Rattle.inverse.specs.Inverse.{Permutation, Inverse, value_at, inverse_row, inverse_rows, inverse_job}
use Rattle.inverse.proofs.Tables.{full_of, wide, row_in, value_low}
use Rattle.inverse.proofs.Jobs.{row_with}
use Rattle.inverse.proofs.Searches.{search_alike, search_with_alike}

-- a list made from numbers, place by place
pub made_at : (f : ℕ → ℕ) (n k i : ℕ) → i < n → get_or (map f (numbers_from k n)) i 0 ≡ f (k + i)
made_at f zero k i h = absurd (not-suc-le-zero h)
made_at f (suc n) k zero h = ap f (sym (add-zero k))
made_at f (suc n) k (suc i) h =
    let e : suc k + i ≡ k + suc i = omega arith in
    made_at f n (suc k) i (le_of_suc-le-suc h) ∙ ap f e

pub made_length : (f : ℕ → ℕ) (n k : ℕ) → length (map f (numbers_from k n)) ≡ n
made_length f zero k = refl
made_length f (suc n) k = ap suc (made_length f n (suc k))

-- a test of all elements, place by place
pub all_placed : (f : ℕ → Bool) (l : List ℕ) → ((i : ℕ) → i < length l → f (get_or l i 0) ≡ true) → all_of f l ≡ true
all_placed f l h = all_members f l (λ a m. let r = place_of a l m in ap f (sym r.1.1) ∙ h r.0 r.1.0)

-- a row with the full mask keeps the rules: computed for every value
abbrev row_fine : ℕ → ℕ → Bool
row_fine n t = row_ok n (full_of n t)

fine_three : all_below 8 (row_fine 3) ≡ true
unfolding row_ok
fine_three = refl

fine_four : all_below 16 (row_fine 4) ≡ true
unfolding row_ok
fine_four = refl

pub fine_at : (n : ℕ) → Width n → (t : ℕ) → t < 2 ^ n → row_fine n t ≡ true
fine_at n w =
    ⊎_elim
    (λ (e : n ≡ 3). subst (λ (m : ℕ). (t : ℕ) → t < 2 ^ m → row_fine m t ≡ true) (sym e) (below 8 (row_fine 3) fine_three))
    (λ (e : n ≡ 4). subst (λ (m : ℕ). (t : ℕ) → t < 2 ^ m → row_fine m t ≡ true) (sym e) (below 16 (row_fine 4) fine_four))
    w

-- three or four wires have 8 or 16 values
pub sized : (n : ℕ) → Width n → (0 < 2 ^ n) × (2 ^ n ≤ 16)
sized n w =
    ⊎_elim
    (λ (e : n ≡ 3). subst (λ (m : ℕ). (0 < 2 ^ m) × (2 ^ m ≤ 16)) (sym e) (omega arith, omega arith))
    (λ (e : n ≡ 4). subst (λ (m : ℕ). (0 < 2 ^ m) × (2 ^ m ≤ 16)) (sym e) (omega arith, omega arith))
    w

module _ (job : List ℕ) (perm : Permutation job) where
  abbrev n : ℕ
  n = data_wires job

  abbrev start : ℕ
  start = pick (longer job) 14 12

  abbrev front : List ℕ
  front = take start job

  long : length job ≡ start + 2 ^ n
  long =
      let s = (sound_job job perm.sound).rows_many in
      let d = length-drop start job in
      let z = (sized n (wide job perm)).0 in
      omega arith

  front_length : length front ≡ start
  front_length = length-take-le start job (omega (arith, long))

  -- what stands before the table is the same
  same_length : length (inverse_job job) ≡ length job
  unfolding inverse_job
  same_length =
      let a = length-append front (inverse_rows job) in
      let b = made_length (inverse_row job) (2 ^ n) 0 in
      omega (arith, front_length, long)

  same_byte : (i : ℕ) → i < start → get_or (inverse_job job) i 0 ≡ get_or job i 0
  unfolding inverse_job
  same_byte i h = get_or-append front (inverse_rows job) 0 i (omega (arith, front_length)) ∙ get_or-take start job i 0 h

  early : (i : ℕ) → i < 12 → get_or (inverse_job job) i 0 ≡ get_or job i 0
  early i h = same_byte i (by_size (longer job))
    where
      by_size : (t : Bool) → i < pick t 14 12
      by_size true = omega arith
      by_size false = omega arith

  same_longer : longer (inverse_job job) ≡ longer job
  unfolding longer
  same_longer = ap (λ (k : ℕ). either (eqb k 22) (eqb k 30)) same_length

  same_data : data_wires (inverse_job job) ≡ n
  unfolding data_wires
  same_data = ap (λ (b : ℕ). b / 32) (early 0 (omega arith))

  same_ancillas : ancillas (inverse_job job) ≡ ancillas job
  unfolding ancillas
  same_ancillas = ap (λ (b : ℕ). b / 8 % 4) (early 0 (omega arith))

  same_free : free_layout (inverse_job job) ≡ free_layout job
  unfolding free_layout
  same_free = ap (λ (b : ℕ). b / 4 % 2) (early 0 (omega arith))

  same_gate_limit : gate_limit (inverse_job job) ≡ gate_limit job
  unfolding gate_limit
  same_gate_limit = early 1 (omega arith)

  same_cost_limit : cost_limit (inverse_job job) ≡ cost_limit job
  unfolding cost_limit
  same_cost_limit = ap₂ (λ (x y : ℕ). 256 * x + y) (early 2 (omega arith)) (early 3 (omega arith))

  same_depth_limit : depth_limit (inverse_job job) ≡ depth_limit job
  unfolding depth_limit
  same_depth_limit = ap₂ (λ (x y : ℕ). 256 * x + y) (early 4 (omega arith)) (early 5 (omega arith))

  -- three or four weights before the table
  same_weights : (t : Bool) (k : ℕ) → t ≡ longer job → k + pick t 4 3 ≤ pick t 14 12 → weights_at t (inverse_job job) k ≡ weights_at t job k
  same_weights true k e h =
      let at : (i : ℕ) → i < 14 → get_or (inverse_job job) i 0 ≡ get_or job i 0 = λ i l. same_byte i (subst (λ (t : Bool). i < pick t 14 12) e l) in
      let a = at k (omega arith) in
      let b = at (k + 1) (omega arith) in
      let c = at (k + 2) (omega arith) in
      let d = at (k + 3) (omega arith) in
      λ i. record { not = a i; cnot = b i; toffoli = c i; cccnot = d i }
  same_weights false k e h =
      let a = early k (omega arith) in
      let b = early (k + 1) (omega arith) in
      let c = early (k + 2) (omega arith) in
      λ i. record { not = a i; cnot = b i; toffoli = c i; cccnot = 0 }

  same_prices : prices (inverse_job job) ≡ prices job
  unfolding prices
  same_prices = ap (λ (t : Bool). weights_at t (inverse_job job) 6) same_longer ∙ same_weights (longer job) 6 refl (by_size (longer job))
    where
      by_size : (t : Bool) → 6 + pick t 4 3 ≤ pick t 14 12
      by_size true = omega arith
      by_size false = omega arith

  same_durations : durations (inverse_job job) ≡ durations job
  unfolding durations
  same_durations =
      ap (λ (t : Bool). weights_at t (inverse_job job) (pick t 10 9)) same_longer
      ∙ same_weights (longer job) (pick (longer job) 10 9) refl (by_size (longer job))
    where
      by_size : (t : Bool) → pick t 10 9 + pick t 4 3 ≤ pick t 14 12
      by_size true = omega arith
      by_size false = omega arith

  -- the table is the inverse table
  rows_are : rows (inverse_job job) ≡ inverse_rows job
  unfolding inverse_job
  rows_are = ap (λ (t : Bool). drop (pick t 14 12) (inverse_job job)) same_longer ∙ drop_at front (inverse_rows job) start front_length

  different : distinct (values job) ≡ true
  unfolding permutes
  different = both_right (full job) (distinct (values job)) perm.permuting

  row_of_value : (x : ℕ) → x < 2 ^ n → row_of (value_at job x) (values job) ≡ x
  row_of_value x h =
      let s : x < length (values job) = subst (λ (m : ℕ). x < m) (sym (length-map (rows job) value_of)) (row_in job perm x h) in
      ap (λ (v : ℕ). row_of v (values job)) (sym (get_or-map value_of (rows job) x 0)) ∙ row_of_at (values job) x different s

  row_low : (v : ℕ) → v < 2 ^ n → row_of v (values job) < 2 ^ n
  row_low v h =
      let r = row_with job perm v h in
      subst (λ (x : ℕ). x < 2 ^ n) (sym (row_of_value r.0 r.1.0) ∙ ap (λ (y : ℕ). row_of y (values job)) r.1.1) r.1.0

  row_at : (v : ℕ) → v < 2 ^ n → get_or (rows (inverse_job job)) v 0 ≡ full_of n (row_of v (values job))
  row_at v h =
      let e : 0 + v ≡ v = omega arith in
      ap (λ (l : List ℕ). get_or l v 0) rows_are ∙ made_at (inverse_row job) (2 ^ n) 0 v h ∙ ap (inverse_row job) e

  value_at_law : (v : ℕ) → v < 2 ^ n → value_at (inverse_job job) v ≡ row_of v (values job)
  value_at_law v h = ap value_of (row_at v h) ∙ low_half (2 ^ n - 1) (row_of v (values job)) (omega (arith, row_low v h, (sized n (wide job perm)).1))
    where
      low_half : (c t : ℕ) → t < 16 → (16 * c + t) % 16 ≡ t
      low_half c t l = omega arith

  care_at : (v : ℕ) → v < 2 ^ n → care_of (get_or (rows (inverse_job job)) v 0) ≡ 2 ^ n - 1
  care_at v h = ap care_of (row_at v h) ∙ high_half (2 ^ n - 1) (row_of v (values job)) (omega (arith, row_low v h, (sized n (wide job perm)).1))
    where
      high_half : (c t : ℕ) → t < 16 → (16 * c + t) / 16 ≡ c
      high_half c t l = omega arith

  rows_length : length (rows (inverse_job job)) ≡ 2 ^ n
  rows_length = ap length rows_are ∙ made_length (inverse_row job) (2 ^ n) 0

  -- what holds at every value's row holds of all rows
  each_row : (f : ℕ → Bool) → ((v : ℕ) → v < 2 ^ n → f (get_or (rows (inverse_job job)) v 0) ≡ true) → all_of f (rows (inverse_job job)) ≡ true
  each_row f h = all_placed f (rows (inverse_job job)) (λ v l. h v (subst (λ (m : ℕ). v < m) rows_length l))

  rows_fine : rows_ok (inverse_job job) ≡ true
  unfolding rows_ok
  rows_fine =
      each_row (row_ok (data_wires (inverse_job job))) (λ v h.
      ap₂ (λ (k r : ℕ). row_ok k r) same_data (row_at v h) ∙ fine_at n (wide job perm) (row_of v (values job)) (row_low v h))

  -- it breaks no rule
  pub inverse_sound : job_code (inverse_job job) ≡ 0
  unfolding job_code job_length_ok size_ok head_ok limit_ok durations_ok
  inverse_sound =
      let k₁ = rule_kept (job_length_ok job) 1 _ (lit< tt) perm.sound in
      let k₂ = rule_kept (size_ok job) 2 _ (lit< tt) k₁.1 in
      let k₃ = rule_kept (head_ok job) 3 _ (lit< tt) k₂.1 in
      let k₄ = rule_kept (limit_ok job) 4 _ (lit< tt) k₃.1 in
      let k₅ = rule_kept (durations_ok job) 5 _ (lit< tt) k₄.1 in
      let l = same_length in
      let t = same_longer in
      let w = same_data in
      let m = same_ancillas in
      let b = early 0 (omega arith) in
      let d = same_durations in
      let e₁ : job_length_ok (inverse_job job) ≡ true = (λ i. either (either (eqb (l i) 20) (eqb (l i) 28)) (t i)) ∙ k₁.0 in
      let e₂ : size_ok (inverse_job job) ≡ true
      = (λ i. either (both (eqb (w i) 3) (either (eqb (l i) 20) (eqb (l i) 22))) (both (eqb (w i) 4) (either (eqb (l i) 28) (eqb (l i) 30)))) ∙ k₂.0 in
      let e₃ : head_ok (inverse_job job) ≡ true = (λ i. both (leb (m i) 1) (eqb (b i % 4) 0)) ∙ k₃.0 in
      let e₄ : limit_ok (inverse_job job) ≡ true = ap (λ (x : ℕ). leb x 12) same_gate_limit ∙ k₄.0 in
      let e₅ : durations_ok (inverse_job job) ≡ true
      = (λ i. both (leb 1 (d i).not) (both (leb 1 (d i).cnot) (both (leb 1 (d i).toffoli) (implies (t i) (leb 1 (d i).cccnot))))) ∙ k₅.0 in
      rw (e₁, e₂, e₃, e₄, e₅, rows_fine)

  -- it is a full permutation
  rows_full : full (inverse_job job) ≡ true
  unfolding full
  rows_full =
      each_row (full_row (data_wires (inverse_job job))) (λ v h.
      eq-eqb (care_of (get_or (rows (inverse_job job)) v 0)) (2 ^ data_wires (inverse_job job) - 1)
      (care_at v h ∙ ap (λ (k : ℕ). 2 ^ k - 1) (sym same_data)))

  every_value : (v : ℕ) → v < 2 ^ n → Memᴰ v (values (inverse_job job))
  every_value v h =
      let y = value_at job v in
      let k = value_low job perm v h in
      let e : get_or (values (inverse_job job)) y 0 ≡ v
      = get_or-map value_of (rows (inverse_job job)) y 0 ∙ value_at_law y k ∙ row_of_value v h in
      let s : y < length (values (inverse_job job))
      = subst (λ (m : ℕ). y < m) (sym (length-map (rows (inverse_job job)) value_of ∙ rows_length)) k in
      Memᴰ.cast (sym e) (member_at (values (inverse_job job)) y s)

  inverse_permutes : permutes (inverse_job job) ≡ true
  unfolding permutes
  inverse_permutes =
      both_true rows_full
      ((permutation (inverse_job job) inverse_sound).1 (λ v h. every_value v (subst (λ (k : ℕ). v < 2 ^ k) same_data h)))

  -- the job of the inverse table is the job's inverse
  pub inverse_is : Inverse job (inverse_job job)
  inverse_is = record {
    this = perm;
    that = record {
      sound = inverse_sound;
      permuting = inverse_permutes;
      bare = same_ancillas ∙ perm.bare;
      fixed = same_free ∙ perm.fixed;
    };
    same_data = sym same_data;
    same_size = sym same_longer;
    same_gate_limit = sym same_gate_limit;
    same_cost_limit = sym same_cost_limit;
    same_depth_limit = sym same_depth_limit;
    same_prices = sym same_prices;
    same_durations = sym same_durations;
    undone = λ x h. value_at_law (value_at job x) (value_low job perm x h) ∙ row_of_value x h;
  }

-- so decryption costs what encryption costs, with the job's own gates and with a library that breaks no rule
module _ (job : List ℕ) (perm : Permutation job) (room : ℕ) (broad : 15 ≤ room) where
  pub decryption : Alike (search_of job room) (search_of (inverse_job job) room)
  decryption = search_alike job (inverse_job job) (inverse_is job perm) room room broad broad

  pub decryption_with : (lib : List ℕ) → library_code job lib ≡ 0 → Alike (search_with job lib room) (search_with (inverse_job job) lib room)
  decryption_with = search_with_alike job (inverse_job job) (inverse_is job perm) room room broad broad
