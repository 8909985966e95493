-- What one call does to one slot, and what a turn of its own does to a job.
use mathlib.Core.Path.{◌≡◌, refl, sym, ap, ◌∙◌, subst}
use mathlib.Core.Bool.{Bool, true, false, not, true≢false, false≢true}
use mathlib.Core.Logic.{◌⊎◌, inl, inr}
use mathlib.Core.List.{List, [], ◌∷◌}
use mathlib.Core.Option.{Option, none, some}
use Prim.Native.Nat.{ℕ, suc, ◌+◌, ◌≤◌, ◌<◌}
use native.Mathlib.Decide.{ℕ_discrete, dec_lt}
use native.Mathlib.Numerals.{add-one}
use native.Mathlib.Omega.{arith}
use borrow.Author.Tests.{eq-eqb, ne_eqb}
use lib.Dec.{eqb, lit<}
use lib.ListN.{length, get_or, take, drop, length-set, drop_of_length-le}
use lib.Seq.{get_or-set_same, get_or-set_other, drop-cons, take-suc, take_all}
use Rattle.logic.specs.Rules.{pick, bit}
use Rattle.problem.specs.order.Choices.{Choice, attempt, improve}
use Rattle.problem.proofs.order.First.{improve_append}
use Rattle.problem.specs.Problems.{good}
use Rattle.outcomes.specs.Outcomes.{problem_of}
use Rattle.scheduler.specs.slot.Slots.{Slot, empty, working, finished, is_empty, is_working, going, begun, tried}
use Rattle.scheduler.specs.states.States.{State, slot_at, with_slot, post_code, after_post, served_by, after_serving, after_turn, collect_code, after_collect}
use Rattle.scheduler.proofs.states.Rules.{post_parts, post_refused, post_accepted, collect_refused, collect_done}
use Rattle.scheduler.proofs.states.Serving.{served_is}
use Rattle.scheduler.specs.fairness.Histories.{Call, posting, turning, collecting, after_call, Reachable, is_for, own_of, leaves}

-- eight slots, one of them served last
abbrev pub Eight : State → Type 0
Eight s = (length s.slots ≡ 8) × (s.last < 8)

eight_set : (s : State) (i : ℕ) (x : Slot) (n : ℕ) → Eight s → n < 8 → Eight (with_slot s i x n)
eight_set s i x n h k = (length-set s.slots i x ∙ h.0, k)

eight_call : (s : State) (c : Call) → Eight s → Eight (after_call s c)
unfolding after_post after_turn after_collect
eight_call s (posting i job) h = by_code (eqb (post_code s i job) 0)
  where
    by_code : (t : Bool) → Eight (pick t (with_slot s i (begun job) s.last) s)
    by_code true = eight_set s i (begun job) s.last h h.1
    by_code false = h
eight_call s turning h = by_served (served_by s) refl
  where
    by_served : (o : Option ℕ) → served_by s ≡ o → Eight (after_serving s o)
    by_served none e = h
    by_served (some j) e = eight_set s j (tried (slot_at s j)) j h (served_is s j e).0
eight_call s (collecting i room) h = by_code (eqb (collect_code s i room) 0)
  where
    by_code : (t : Bool) → Eight (pick t (with_slot s i empty s.last) s)
    by_code true = eight_set s i empty s.last h h.1
    by_code false = h

pub eight : {s : State} → Reachable s → Eight s
eight (Reachable.at_start e) = subst Eight (sym e) (refl, lit< tt)
eight (Reachable.by_call t c r e) = subst Eight (sym e) (eight_call t c (eight r))

-- one slot after a call: it stays, or it has a turn of its own
pub data Became (t s : State) (i : ℕ) (own : ℕ) : Type 0 where
  stayed : slot_at s i ≡ slot_at t i → own ≡ 0 → Became t s i own
  had_turn : is_working (slot_at t i) ≡ true → slot_at s i ≡ tried (slot_at t i) → own ≡ 1 → Became t s i own

module _ (t : State) (i : ℕ) (h : Eight t) (few : i ≤ 7) where
  -- another slot changes
  other : (j : ℕ) (x : Slot) (n : ℕ) → (i ≡ j → ⊥) → slot_at (with_slot t j x n) i ≡ slot_at t i
  other j x n k = get_or-set_other t.slots j i x empty k

  same : (x : Slot) (n : ℕ) → slot_at (with_slot t i x n) i ≡ x
  same x n = let l = h.0 in get_or-set_same t.slots i x empty (omega arith)

  pub filled : (job : List ℕ) → post_code t i job ≡ 0 → slot_at (after_post t i job) i ≡ begun job
  filled job e = ap (λ (s : State). slot_at s i) (sym (post_accepted t i job e).1) ∙ same (begun job) t.last

  pub vacated : (room : ℕ) → collect_code t i room ≡ 0 → slot_at (after_collect t i room) i ≡ empty
  vacated room e = ap (λ (s : State). slot_at s i) (sym (collect_done t i room e).1) ∙ same empty t.last

  -- the slot is not empty, before the call or after it
  posted : (j : ℕ) (job : List ℕ) → is_empty (slot_at t i) ≡ false → slot_at (after_post t j job) i ≡ slot_at t i
  posted j job full = by_code (ℕ_discrete (post_code t j job) 0)
    where
      by_code : Dec (post_code t j job ≡ 0) → slot_at (after_post t j job) i ≡ slot_at t i
      by_code (no k) = ap (λ (s : State). slot_at s i) (sym (post_refused t j job k).1)
      by_code (yes e) =
          ap (λ (s : State). slot_at s i) (sym (post_accepted t j job e).1)
          ∙ other j (begun job) t.last
          (λ q. true≢false (sym (post_parts t j job e).1.0 ∙ ap (λ (k : ℕ). is_empty (slot_at t k)) (sym q) ∙ full))

  collected_other : (j room : ℕ) → (i ≡ j → ⊥) → slot_at (after_collect t j room) i ≡ slot_at t i
  collected_other j room apart = by_code (ℕ_discrete (collect_code t j room) 0)
    where
      by_code : Dec (collect_code t j room ≡ 0) → slot_at (after_collect t j room) i ≡ slot_at t i
      by_code (no k) = ap (λ (s : State). slot_at s i) (sym (collect_refused t j room k).1)
      by_code (yes e) = ap (λ (s : State). slot_at s i) (sym (collect_done t j room e).1) ∙ other j empty t.last apart

  collected : (j room : ℕ) → is_empty (slot_at (after_collect t j room) i) ≡ false → slot_at (after_collect t j room) i ≡ slot_at t i
  collected j room full = by_code (ℕ_discrete (collect_code t j room) 0) (ℕ_discrete i j)
    where
      by_code : Dec (collect_code t j room ≡ 0) → Dec (i ≡ j) → slot_at (after_collect t j room) i ≡ slot_at t i
      by_code d (no k) = collected_other j room k
      by_code (no k) (yes q) = ap (λ (s : State). slot_at s i) (sym (collect_refused t j room k).1)
      by_code (yes e) (yes q) =
          absurd (true≢false (sym (ap is_empty (vacated room (ap (λ (k : ℕ). collect_code t k room) q ∙ e)))
          ∙ ap (λ (k : ℕ). is_empty (slot_at (after_collect t k room) i)) q ∙ full))

  turned : Became t (after_turn t) i (bit (is_for i (served_by t)))
  unfolding after_turn
  turned = by_served (served_by t) refl
    where
      by_slot : (j : ℕ) → is_working (slot_at t j) ≡ true → Dec (j ≡ i) → Became t (after_serving t (some j)) i (bit (eqb j i))
      by_slot j w (yes q) =
          Became.had_turn (ap (λ (k : ℕ). is_working (slot_at t k)) (sym q) ∙ w)
          (ap (λ (k : ℕ). slot_at (with_slot t k (tried (slot_at t k)) k) i) q ∙ same (tried (slot_at t i)) i)
          (ap bit (eq-eqb j i q))
      by_slot j w (no k) = Became.stayed (other j (tried (slot_at t j)) j (λ q. k (sym q))) (ap bit (ne_eqb j i k))

      by_served : (o : Option ℕ) → served_by t ≡ o → Became t (after_serving t o) i (bit (is_for i o))
      by_served none e = Became.stayed refl refl
      by_served (some j) e = by_slot j (served_is t j e).1 (ℕ_discrete j i)

  pub became : (c : Call) → is_empty (slot_at t i) ≡ false → is_empty (slot_at (after_call t c) i) ≡ false → Became t (after_call t c) i (own_of i t c)
  became (posting j job) full still = Became.stayed (posted j job full) refl
  became turning full still = turned
  became (collecting j room) full still = Became.stayed (collected j room still) refl

  -- the same of a call that does not collect the slot, which then stays full
  pub became_left : (c : Call) → is_empty (slot_at t i) ≡ false → leaves i c ≡ true → Became t (after_call t c) i (own_of i t c)
  became_left (posting j job) full keeps = Became.stayed (posted j job full) refl
  became_left turning full keeps = turned
  became_left (collecting j room) full keeps =
      Became.stayed (collected_other j room (λ q. false≢true (sym (ap not (eq-eqb j i (sym q))) ∙ keeps))) refl

-- a slot with a list of candidates, after so many turns of its own
module _ (job : List ℕ) (l : List Choice) where
  abbrev held : List Choice → Option Choice
  held m = improve (good (problem_of job)) none m

  abbrev pub StandingIn : ℕ → Slot → Type 0
  StandingIn own slot = ((own < length l) × (slot ≡ working job (drop own l) (held (take own l)))) ⊎ ((own ≡ length l) × (slot ≡ finished job (held l)))

  abbrev next_in : ℕ → Choice
  next_in own = get_or l own (record { cost = 0; gates = 0; depth = 0; layout = 0; bytes = [] })

  best_next : (own : ℕ) → own < length l → attempt (good (problem_of job)) (held (take own l)) (next_in own) ≡ held (take (suc own) l)
  unfolding improve
  best_next own h =
      sym (ap held (take-suc l own _ h) ∙ improve_append (good (problem_of job)) none (take own l) (next_in own ∷ []))

  -- a turn of its own tries the next one
  pub stepped : (own : ℕ) (slot : Slot) → StandingIn own slot → is_working slot ≡ true → StandingIn (own + 1) (tried slot)
  stepped own slot (inr p) w = absurd (true≢false (sym w ∙ ap is_working p.1))
  stepped own slot (inl p) w = rw (add-one own) (by_rest (dec_lt (suc own) (length l)))
    where
      new : tried slot ≡ going job (drop (suc own) l) (held (take (suc own) l))
      new =
          ap tried (p.1 ∙ ap (λ (m : List Choice). working job m (held (take own l))) (drop-cons l own _ p.0))
          ∙ ap (going job (drop (suc own) l)) (best_next own p.0)

      by_rest : Dec (suc own < length l) → StandingIn (suc own) (tried slot)
      by_rest (yes k) =
          inl (
            k,
            new ∙ ap (λ (m : List Choice). going job m (held (take (suc own) l))) (drop-cons l (suc own) (next_in own) k)
                ∙ ap (λ (m : List Choice). working job m (held (take (suc own) l))) (sym (drop-cons l (suc own) (next_in own) k)),
          )
      by_rest (no k) =
          let h = p.0 in
          let q : length l ≤ suc own = omega arith in
          inr (
            omega arith,
            new ∙ ap (λ (m : List Choice). going job m (held (take (suc own) l))) (drop_of_length-le l q)
                ∙ ap (λ (m : List Choice). finished job (held m)) (take_all (suc own) l q),
          )

pub starting : (job : List ℕ) (l : List Choice) → StandingIn job l 0 (going job l none)
unfolding improve
starting job [] = inr (refl, refl)
starting job (c ∷ l) = inl (omega arith, refl)
