-- A table that wants every bit, under the plain layout and without an ancilla: a list realizes it exactly where it leads each row's number
-- to the row's value.
use mathlib.Core.Path.{◌≡◌, refl, sym, ap, ◌∙◌, subst}
use mathlib.Core.Bool.{Bool, true}
use mathlib.Core.Logic.{◌↔◌, ⊎_elim}
use mathlib.Core.List.{List}
use Prim.Native.Nat.{ℕ, ◌+◌, ◌-◌, ◌*◌, ◌/◌, ◌%◌, ◌^◌, ◌<◌}
use native.Mathlib.Nat.{zero-add}
use native.Mathlib.Omega.{arith}
use borrow.Author.Tests.{eqb-true, ltb-true}
use lib.Bits.{bit_and}
use lib.Dec.{eqb, ltb}
use lib.ListN.{length, get_or}
use Rattle.logic.specs.Rules.{both, implies, all_below}
use Rattle.logic.specs.Lists.{all_of}
use Rattle.logic.proofs.Chain.{both_left, both_right, implied}
use Rattle.logic.proofs.Below.{below}
use Rattle.logic.proofs.Fold.{all_at}
use Rattle.gate.specs.Gates.{lawful}
use Rattle.circuit.specs.run.Run.{forwards}
use Rattle.circuit.proofs.run.Reversal.{stays}
use Rattle.table.specs.layouts.Layouts.{Width, plain}
use Rattle.table.specs.Rows.{care_of, value_of, row_ok, bit_agrees, row_agrees, agrees, realizes}
use Rattle.table.proofs.Rows.{agrees_at, agrees_all, bare_realizes}
use Rattle.record.specs.job_fields.Jobs.{data_wires, rows}
use Rattle.record.proofs.Kept.{SoundJob, sound_job}
use Rattle.parity.specs.Parity.{full_row, full, values, distinct, permutes}
use Rattle.inverse.specs.Inverse.{Permutation, value_at}

-- a row with the full mask and the value t
abbrev pub full_of : ℕ → ℕ → ℕ
full_of n t = 16 * (2 ^ n - 1) + t

-- such a row agrees with t and with no other value: computed for every value of three and of four wires
abbrev told : ℕ → ℕ → ℕ → Bool
told n t v = implies (row_agrees (plain n) (full_of n t) v) (eqb v t)

abbrev tells : ℕ → ℕ → Bool
tells n t = both (row_agrees (plain n) (full_of n t) t) (all_below (2 ^ n) (told n t))

tells_three : all_below 8 (tells 3) ≡ true
unfolding row_agrees bit_agrees
tells_three = refl

tells_four : all_below 16 (tells 4) ≡ true
unfolding row_agrees bit_agrees
tells_four = refl

tells_at : (n : ℕ) → Width n → (t : ℕ) → t < 2 ^ n → tells n t ≡ true
tells_at n w =
    ⊎_elim
    (λ (e : n ≡ 3). subst (λ (m : ℕ). (t : ℕ) → t < 2 ^ m → tells m t ≡ true) (sym e) (below 8 (tells 3) tells_three))
    (λ (e : n ≡ 4). subst (λ (m : ℕ). (t : ℕ) → t < 2 ^ m → tells m t ≡ true) (sym e) (below 16 (tells 4) tells_four))
    w

module _ (job : List ℕ) (perm : Permutation job) where
  known : SoundJob job
  known = sound_job job perm.sound

  pub wide : Width (data_wires job)
  wide = known.width

  pub row_in : (x : ℕ) → x < 2 ^ data_wires job → x < length (rows job)
  row_in x h = subst (λ (n : ℕ). x < n) (sym known.rows_many) h

  -- every row has the full mask, and a value of the data wires
  care_full : (x : ℕ) → x < 2 ^ data_wires job → care_of (get_or (rows job) x 0) ≡ 2 ^ data_wires job - 1
  unfolding permutes full
  care_full x h =
      eqb-true (care_of (get_or (rows job) x 0)) (2 ^ data_wires job - 1)
      (all_at (full_row (data_wires job)) (rows job) x 0 (both_left (full job) (distinct (values job)) perm.permuting) (row_in x h))

  pub value_low : (x : ℕ) → x < 2 ^ data_wires job → value_at job x < 2 ^ data_wires job
  unfolding row_ok
  value_low x h =
      let row = get_or (rows job) x 0 in
      let n = data_wires job in
      ltb-true (value_of row) (2 ^ n)
      (both_right (ltb (care_of row) (2 ^ n)) (ltb (value_of row) (2 ^ n))
      (both_right (eqb (bit_and (care_of row) (value_of row)) (value_of row)) (both (ltb (care_of row) (2 ^ n)) (ltb (value_of row) (2 ^ n)))
      (all_at (row_ok n) (rows job) x 0 known.rows_kept (row_in x h))))

  row_is : (x : ℕ) → x < 2 ^ data_wires job → get_or (rows job) x 0 ≡ full_of (data_wires job) (value_at job x)
  row_is x h = spelt (get_or (rows job) x 0) (2 ^ data_wires job - 1) (care_full x h)
    where
      spelt : (row c : ℕ) → row / 16 ≡ c → row ≡ 16 * c + row % 16
      spelt row c e = omega arith

  module _ (k : ℕ) (gs : List ℕ) (kept : all_of (lawful k (data_wires job)) gs ≡ true) where
    pub realized_is : (realizes (data_wires job) (rows job) (plain (data_wires job)) gs ≡ true)
        ↔ ((x : ℕ) → x < 2 ^ data_wires job → forwards gs x ≡ value_at job x)
    realized_is = (ends, agreeing)
      where
        n : ℕ
        n = data_wires job

        bare : realizes n (rows job) (plain n) gs ≡ agrees (plain n) (forwards gs) (rows job)
        bare = bare_realizes k n gs kept (rows job) (plain n)

        ends : realizes n (rows job) (plain n) gs ≡ true → (x : ℕ) → x < 2 ^ n → forwards gs x ≡ value_at job x
        ends h x l =
            let t = value_at job x in
            let v = forwards gs x in
            let a = agrees_at (plain n) (forwards gs) (rows job) 0 x (sym bare ∙ h) (row_in x l) in
            let b : row_agrees (plain n) (full_of n t) v ≡ true
            = same_row (sym (row_is x l)) (ap (forwards gs) (sym (zero-add x))) ∙ a in
            eqb-true v t
            (implied (row_agrees (plain n) (full_of n t) v) (eqb v t)
            (below (2 ^ n) (told n t) (both_right (row_agrees (plain n) (full_of n t) t) (all_below (2 ^ n) (told n t)) (tells_at n wide t (value_low x l))) v
            (stays k n gs x kept l)) b)
          where
            same_row : {r r' v v' : ℕ} → r ≡ r' → v ≡ v' → row_agrees (plain n) r v ≡ row_agrees (plain n) r' v'
            same_row p q = λ i. row_agrees (plain n) (p i) (q i)

        agreeing : ((x : ℕ) → x < 2 ^ n → forwards gs x ≡ value_at job x) → realizes n (rows job) (plain n) gs ≡ true
        agreeing h =
            bare ∙ agrees_all (plain n) (forwards gs) 0 (rows job) (λ x l. each x (subst (λ (m : ℕ). x < m) known.rows_many l))
          where
            each : (x : ℕ) → x < 2 ^ n → row_agrees (plain n) (get_or (rows job) x 0) (forwards gs (0 + x)) ≡ true
            each x l =
                let p = row_is x l in
                let q : forwards gs (0 + x) ≡ value_at job x = ap (forwards gs) (zero-add x) ∙ h x l in
                (λ i. row_agrees (plain n) (p i) (q i))
                ∙ both_left (row_agrees (plain n) (full_of n (value_at job x)) (value_at job x)) (all_below (2 ^ n) (told n (value_at job x)))
                (tells_at n wide (value_at job x) (value_low x l))
