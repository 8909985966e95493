-- Lists that come first and do the same: without a gate that fires in no row (N1), without a gate and its undoing (N2), and with a gate
-- moved to the front of gates that share no wire with it (N3). Taking gates out never makes a wire ready later; changing the order may,
-- where gates share a wire.
use mathlib.Core.Path.{◌≡◌, refl, sym, ap, ◌∙◌}
use mathlib.Core.Bool.{true}
use mathlib.Core.Logic.{⊎_elim}
use mathlib.Core.List.Memᴰ
use mathlib.Core.List.{List, [], ◌∷◌, ◌++◌, append_assoc, Memᴰ}
use Prim.Native.Nat.{ℕ, ◌≤◌, ◌<◌}
use native.Mathlib.Nat.{le_trans}
use native.Mathlib.Omega.{arith}
use lib.ListN.{length, length-append}
use Rattle.logic.specs.Lists.{all_of, total, along, Among}
use Rattle.logic.proofs.Fold.{total_append, along_append}
use Rattle.logic.proofs.Members.{all_member}
use Rattle.gate.specs.Gates.{lawful, gate_of}
use Rattle.gate.specs.Inner.{firing}
use Rattle.gate.proofs.Slices.{length_step}
use Rattle.circuit.specs.Measure.{cost, depth, greatest, hold_byte, idle, ready_times}
use Rattle.circuit.specs.run.Inner.{columns_over, columns_after}
use Rattle.circuit.proofs.Times.{Sooner, length_hold, hold_rises, length_ready, ready_sooner, greatest_sooner}
use Rattle.circuit.proofs.run.Reversal.{columns_length}
use Rattle.problem.specs.order.Choices.{lex_less, before}
use Rattle.problem.proofs.order.Order.{lex_lt, lex_eq, by_bytes}
use Rattle.problem.proofs.order.Left.{by_fewer}
use Rattle.problem.specs.Problems.{Problem, choice_of}
use Rattle.normal_forms.specs.Forms.{commuting, disjoint}
use Rattle.normal_forms.proofs.Wires.{Apart, commuting_self, commute_of, apart_of, commute_apart}
use Rattle.normal_forms.proofs.Swaps.{exchange, twice, idle_step, exchange_times, passes, moved}

-- m ends with the same columns as l, is nowhere worse, and comes first whatever the layout
pub record Beats (P : Problem) (cs m l : List ℕ) : Type 0 where
  pub ends : columns_after m cs ≡ columns_after l cs
  pub cheap : cost P.price m ≤ cost P.price l
  pub few : length m ≤ length l
  pub sooner : depth P.duration m ≤ depth P.duration l
  pub made : Among P.gates l → Among P.gates m
  pub earlier : (p : ℕ) → before (choice_of P m p) (choice_of P l p) ≡ true

-- of two lists that differ first where one has the lesser byte, that one comes first
first_less : (l : List ℕ) (x y : ℕ) (xs ys : List ℕ) → x < y → lex_less (l ++ (x ∷ xs)) (l ++ (y ∷ ys)) ≡ true
first_less [] x y xs ys h = lex_lt x y xs ys h
first_less (a ∷ l) x y xs ys h = lex_eq a a (l ++ (x ∷ xs)) (l ++ (y ∷ ys)) refl ∙ first_less l x y xs ys h

-- a gate moved to the front leaves the length and the members
module _ (l c e : List ℕ) (g : ℕ) where
  same_length : length (l ++ (g ∷ (c ++ e))) ≡ length (l ++ (c ++ (g ∷ e)))
  same_length = simp length-append (omega arith)

  same_members : (x : ℕ) → Memᴰ x (l ++ (g ∷ (c ++ e))) → Memᴰ x (l ++ (c ++ (g ∷ e)))
  same_members x m =
      ⊎_elim (λ (n : Memᴰ x l). Memᴰ.append_left (c ++ (g ∷ e)) n) (λ (n : Memᴰ x (g ∷ (c ++ e))). Memᴰ.append_right l (inner n)) (Memᴰ.append_cases l m)
    where
      inner : Memᴰ x (g ∷ (c ++ e)) → Memᴰ x (c ++ (g ∷ e))
      inner n =
          ⊎_elim
          (λ (h : x ≡ g). Memᴰ.append_right c (Memᴰ.head h))
          (λ (h : Memᴰ x (c ++ e)).
          ⊎_elim (λ (k : Memᴰ x c). Memᴰ.append_left (g ∷ e) k) (λ (k : Memᴰ x e). Memᴰ.append_right c (Memᴰ.tail k)) (Memᴰ.append_cases c h))
          (Memᴰ.cases_cons n)

-- m is l with gates taken out
record Less (P : Problem) (m l : List ℕ) : Type 0 where
  cheap : cost P.price m ≤ cost P.price l
  few : length m < length l
  sooner : Sooner (ready_times P.duration m) (ready_times P.duration l)
  made : Among P.gates l → Among P.gates m

module _ (P : Problem) where
  same_cost : (l c e : List ℕ) (g : ℕ) → cost P.price (l ++ (g ∷ (c ++ e))) ≡ cost P.price (l ++ (c ++ (g ∷ e)))
  unfolding total
  same_cost l c e g =
      let f = P.price in
      omega (arith, total_append f l (g ∷ (c ++ e)), total_append f c e, total_append f l (c ++ (g ∷ e)), total_append f c (g ∷ e))

  removed : (l e : List ℕ) (g : ℕ) → Less P (l ++ e) (l ++ (g ∷ e))
  unfolding total along
  removed l e g = record {
    cheap = omega (arith, total_append P.price l e, total_append P.price l (g ∷ e));
    few = omega (arith, length-append l e, length-append l (g ∷ e));
    sooner = ready_less;
    made = λ w x m. w x (⊎_elim
        (λ (n : Memᴰ x l). Memᴰ.append_left (g ∷ e) n)
        (λ (n : Memᴰ x e). Memᴰ.append_right l (Memᴰ.tail n))
        (Memᴰ.append_cases l m));
  }
    where
      ready_less : Sooner (ready_times P.duration (l ++ e)) (ready_times P.duration (l ++ (g ∷ e)))
      ready_less w =
          let ts = ready_times P.duration l in
          rw (along_append (hold_byte P.duration) l e idle, along_append (hold_byte P.duration) l (g ∷ e) idle)
          (ready_sooner P.duration e ts (hold_byte P.duration g ts) (sym (length_hold (gate_of g) (P.duration g) ts)) (hold_rises (gate_of g) (P.duration g) ts) w)

  less_less : {k m l : List ℕ} → Less P k m → Less P m l → Less P k l
  less_less a b = record {
    cheap = le_trans a.cheap b.cheap;
    few = omega (arith, a.few, b.few);
    sooner = λ w. le_trans (a.sooner w) (b.sooner w);
    made = λ w. a.made (b.made w);
  }

  shorter : (cs m l : List ℕ) → Less P m l → columns_after m cs ≡ columns_after l cs → Beats P cs m l
  unfolding choice_of
  shorter cs m l s e = record {
    ends = e;
    cheap = s.cheap;
    few = omega (arith, s.few);
    sooner = greatest_sooner (ready_times P.duration m) (ready_times P.duration l) s.sooner;
    made = s.made;
    earlier = λ p. by_fewer (choice_of P m p) (choice_of P l p) s.cheap s.few;
  }

  -- N1: a gate that fires in no row
  pub firing_nowhere : (cs l e : List ℕ) (g : ℕ) → firing (gate_of g).kind (columns_after l cs) ≡ 0 → Beats P cs (l ++ e) (l ++ (g ∷ e))
  unfolding along
  firing_nowhere cs l e g h =
      shorter cs (l ++ e) (l ++ (g ∷ e)) (removed l e g)
      (along_append columns_over l e cs
      ∙ ap (columns_after e) (sym (idle_step (gate_of g) (columns_after l cs) h))
      ∙ sym (along_append columns_over l (g ∷ e) cs))

  -- what is known of the gates and of the start
  module _ (cs : List ℕ) (five : length cs ≡ 5) (g : ℕ) (hg : lawful 3 5 g ≡ true) where
    keeps : (a : ℕ) (s : List ℕ) → length (columns_over a s) ≡ length s
    keeps a s = length_step (gate_of a) s

    columns_pass : (c s : List ℕ) → length s ≡ 5 → all_of (lawful 3 5) c ≡ true → all_of (commuting g) c ≡ true
        → columns_after c (columns_over g s) ≡ columns_over g (columns_after c s)
    columns_pass c s l hc all =
        passes columns_over keeps g c s l (λ a m s k. exchange (gate_of g) (gate_of a) s (commute_of g a hg (all_member (lawful 3 5) a c hc m) (all_member (commuting g) a c all m)))

    -- N2: a gate and its undoing, with nothing but commuting gates between them
    pub undone : (l c e : List ℕ) → all_of (lawful 3 5) c ≡ true → all_of (commuting g) c ≡ true → Beats P cs (l ++ (c ++ e)) (l ++ (g ∷ (c ++ (g ∷ e))))
    unfolding along
    undone l c e hc all =
        let s = columns_after l cs in
        shorter cs (l ++ (c ++ e)) (l ++ (g ∷ (c ++ (g ∷ e))))
        (less_less (rw (append_assoc l c e, append_assoc l c (g ∷ e)) at (removed (l ++ c) e g)) (removed l (c ++ (g ∷ e)) g))
        (along_append columns_over l (c ++ e) cs
        ∙ along_append columns_over c e s
        ∙ ap (columns_after e)
        (sym (ap (columns_over g) (columns_pass c s (columns_length l cs ∙ five) hc all) ∙ twice (gate_of g) (columns_after c s) (commute_of g g hg hg (commuting_self g hg))))
        ∙ sym (along_append columns_over c (g ∷ e) (columns_over g s))
        ∙ sym (along_append columns_over l (g ∷ (c ++ (g ∷ e))) cs))

    module _ (l c e : List ℕ) (hc : all_of (lawful 3 5) c ≡ true) (all : all_of (disjoint g) c ≡ true) where
      apart : (a : ℕ) → Memᴰ a c → Apart (gate_of g) (gate_of a)
      apart a m = apart_of g a hg (all_member (lawful 3 5) a c hc m) (all_member (disjoint g) a c all m)

      same_columns : columns_after (l ++ (g ∷ (c ++ e))) cs ≡ columns_after (l ++ (c ++ (g ∷ e))) cs
      same_columns =
          moved columns_over g l c e cs
          (passes columns_over keeps g c (columns_after l cs) (columns_length l cs ∙ five)
          (λ a m s k. exchange (gate_of g) (gate_of a) s (commute_apart g a hg (all_member (lawful 3 5) a c hc m) (apart a m))))

      same_times : ready_times P.duration (l ++ (g ∷ (c ++ e))) ≡ ready_times P.duration (l ++ (c ++ (g ∷ e)))
      same_times =
          moved (hold_byte P.duration) g l c e idle
          (passes (hold_byte P.duration) (λ a s. length_hold (gate_of a) (P.duration a) s) g c (ready_times P.duration l) (length_ready P.duration l idle)
          (λ a m s k. exchange_times (gate_of g) (gate_of a) (P.duration g) (P.duration a) s k (apart a m)))

    -- N3: a gate moved before gates that share no wire with it, of which the first has a greater byte
    pub advanced : (a : ℕ) (l c e : List ℕ) → all_of (lawful 3 5) (a ∷ c) ≡ true → g < a → all_of (disjoint g) (a ∷ c) ≡ true
        → Beats P cs (l ++ (g ∷ ((a ∷ c) ++ e))) (l ++ ((a ∷ c) ++ (g ∷ e)))
    unfolding choice_of
    advanced a l c e hc less all =
        let times = same_times l (a ∷ c) e hc all in
        let paid = same_cost l (a ∷ c) e g in
        let long = same_length l (a ∷ c) e g in
        record {
          ends = same_columns l (a ∷ c) e hc all;
          cheap = omega arith;
          few = omega arith;
          sooner = rw times (omega arith);
          made = λ w x m. w x (same_members l (a ∷ c) e g x m);
          earlier = λ p.
              by_bytes (choice_of P (l ++ (g ∷ ((a ∷ c) ++ e))) p) (choice_of P (l ++ ((a ∷ c) ++ (g ∷ e))) p) paid long (ap greatest times) refl
              ∙ first_less l g a ((a ∷ c) ++ e) (c ++ (g ∷ e)) less;
        }
