-- A scan from the left: what the search's answer says of a window, how far no window yields, and what a replacement leaves to be done.
use mathlib.Core.Path.{◌≡◌, refl, sym, ap, ◌∙◌}
use mathlib.Core.Logic.{⊎_elim}
use mathlib.Core.List.{List, [], ◌∷◌}
use mathlib.Core.Option.{Option, none, some}
use Prim.Native.Nat.{ℕ, zero, suc, ◌+◌, ◌-◌, ◌≤◌, ◌<◌}
use native.Mathlib.Nat.{eq-or-lt_of_le}
use native.Mathlib.Omega.{arith}
use lib.Dec.{ltb}
use lib.ListN.{length, take, drop, length-take}
use lib.Seq.{take-nil}
use Rattle.logic.specs.Rules.{pick}
use Rattle.logic.specs.Answers.{refused, answered}
use Rattle.table.specs.layouts.Layouts.{Width}
use Rattle.record.specs.circuit_fields.Circuits.{gates, circuit_bytes}
use Rattle.circuit.specs.declared.measures.Measures.{Measures}
use Rattle.outcomes.specs.Outcomes.{record_of, Found, search_of}
use Rattle.outcomes.proofs.Facts.{found_sound, found_is}
use Rattle.peephole.specs.declared.windows.Prices.{Prices}
use Rattle.peephole.specs.windows.Windows.{cost_at, window_job, cheaper_than, better, window_at, replaced, rewritten, spliced}
use Rattle.peephole.specs.windows.Inner.{Still}
use Rattle.peephole.proofs.windows.Leftmost.{none_still, first_at, still_resumed}
use Rattle.peephole.proofs.windows.Answers.{better_is, better_short}
use Rattle.peephole.proofs.windows.Steps.{window_length, falls, rewritten_onward}

-- a circuit that is found has the three bytes before its gates
found_long : (job : List ℕ) (f : Found) → search_of job 15 ≡ answered f → 3 ≤ length f.bytes
unfolding record_of circuit_bytes
found_long job f e =
    let s = found_sound job 15 f e in
    let t = found_is job s.0 15 s.1 f e in
    let k = ap length t.1.1.1.0 in
    omega arith

-- the gates of a record at the front of a buffer
cut_gates : (size : ℕ) (b : List ℕ) → gates (take size b) ≡ take (size - 3) (drop 3 b)
cut_gates zero b = refl
cut_gates (suc zero) [] = refl
cut_gates (suc zero) (x ∷ b) = refl
cut_gates (suc (suc zero)) [] = refl
cut_gates (suc (suc zero)) (x ∷ []) = refl
cut_gates (suc (suc zero)) (x ∷ y ∷ b) = refl
cut_gates (suc (suc (suc n))) [] = sym (take-nil (suc (suc (suc n)) - 3))
cut_gates (suc (suc (suc n))) (x ∷ []) = sym (take-nil (suc (suc (suc n)) - 3))
cut_gates (suc (suc (suc n))) (x ∷ y ∷ []) = sym (take-nil (suc (suc (suc n)) - 3))
cut_gates (suc (suc (suc n))) (x ∷ y ∷ z ∷ b) = let e : n ≡ suc (suc (suc n)) - 3 = omega arith in ap (λ (i : ℕ). take i b) e

module _ (n : ℕ) (p : Prices) (w : List ℕ) where
  -- no answer
  pub nothing_offered : (code : ℕ) → search_of (window_job n p w) 15 ≡ refused code → none ≡ better n p w
  unfolding better
  nothing_offered code e = sym (ap (cheaper_than (cost_at p w)) e)

  -- an answer, with its record at the front of a buffer
  module _ (size : ℕ) (m : Measures) (b : List ℕ) (e : search_of (window_job n p w) 15 ≡ answered (record { bytes = take size b; measures = m })) where
    pub offer_long : 3 ≤ size
    offer_long = omega (arith, found_long (window_job n p w) (record { bytes = take size b; measures = m }) e, length-take size b)

    pub is_offered : (limit : ℕ) → limit ≡ cost_at p w → pick (ltb m.cost limit) (some (take (size - 3) (drop 3 b))) none ≡ better n p w
    unfolding better
    is_offered limit c =
        let g = sym (cut_gates size b) in
        (λ i. pick (ltb m.cost (c i)) (some (g i)) none) ∙ sym (ap (cheaper_than (cost_at p w)) e)

module _ (yields : List ℕ → Option (List ℕ)) (k : ℕ) (l : List ℕ) where
  -- one window further
  pub still_more : (i : ℕ) → Still yields k i l → yields (window_at k i l) ≡ none → Still yields k (i + 1) l
  still_more i s e j h f =
      ⊎_elim
      (λ (q : j ≡ i). ap (λ (x : ℕ). yields (window_at k x l)) q ∙ e)
      (λ (q : j < i). s j q f)
      (eq-or-lt_of_le (let t : j ≤ i = omega arith in t))

  -- where there is no whole window from i on, all were looked at
  pub still_all : (i : ℕ) → 0 < k → i ≤ length l → length l - i < k → Still yields k i l → replaced yields k l ≡ none
  still_all i p b h s = none_still yields k l (λ j q f. s j (omega arith) f) p

-- the window at the first gate that yields is replaced: the end of it all is the same, at a lower cost, and the scan may go on further left
module _ (n k : ℕ) (wide : Width n) (p : Prices) (some_gates : 0 < k) where
  module _ (l : List ℕ) (i : ℕ) (a : List ℕ) (fits : i + k ≤ length l) (s : Still (better n p) k i l) (y : better n p (window_at k i l) ≡ some a) where
    happens : replaced (better n p) k l ≡ some (spliced k i a l)
    happens = first_at (better n p) k i l a some_gates fits s y

    pub turn_end : rewritten n k p (spliced k i a l) ≡ rewritten n k p l
    turn_end = sym (rewritten_onward n k wide p l (spliced k i a l) happens)

    pub turn_cost : cost_at p (spliced k i a l) < cost_at p l
    turn_cost = falls n k wide p l (spliced k i a l) happens

    pub turn_still : Still (better n p) k (i + 1 - k) (spliced k i a l)
    turn_still = still_resumed (better n p) k i l a some_gates (omega arith) s

    pub turn_short : length a ≤ k
    turn_short =
        let b = better_short n wide p (window_at k i l) a (better_is n wide p (window_at k i l) a y) in
        let e = window_length k i l fits in
        omega arith
