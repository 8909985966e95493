-- A list whose leftmost window was replaced: it is cheaper, no longer, as lawful, and does the same. So the repetition ends, and keeps all that.
use mathlib.Core.Path.{◌≡◌, refl, sym, ap, ◌∙◌}
use mathlib.Core.Bool.{Bool, true, false}
use mathlib.Core.List.{List, [], ◌∷◌, ◌++◌}
use mathlib.Core.Option.{Option, none, some}
use Prim.Native.Nat.{ℕ, ◌+◌, ◌^◌, ◌≤◌, ◌<◌}
use native.Mathlib.Omega.{arith}
use lib.ListN.{length, take, drop, length-append, length-drop, take-append-drop}
use lib.Seq.{length-take-le, drop-drop}
use Rattle.logic.specs.Rules.{both}
use Rattle.logic.specs.Lists.{all_of, total}
use Rattle.logic.proofs.Chain.{both_parts, both_true}
use Rattle.logic.proofs.Fold.{total_append, along_append}
use Rattle.gate.specs.Gates.{lawful, step}
use Rattle.circuit.specs.Measure.{weight_of}
use Rattle.circuit.specs.run.Run.{forwards}
use Rattle.circuit.proofs.run.Reversal.{stays}
use Rattle.table.specs.layouts.Layouts.{Width}
use Rattle.peephole.specs.declared.windows.Prices.{Prices}
use Rattle.peephole.specs.windows.Windows.{weights, cost_at, better, window_at, replaced, rewritten, spliced}
use Rattle.peephole.proofs.windows.Leftmost.{Replaced, replaced_is}
use Rattle.peephole.proofs.windows.Repeats.{repeated_stays, repeated_keeps, ends, onward}
use Rattle.peephole.proofs.windows.Answers.{Better, better_is, better_lawful, better_short, better_same}

-- a list in three parts: before a window, the window, and after it
pub three_parts : (k i : ℕ) (l : List ℕ) → spliced k i (window_at k i l) l ≡ l
three_parts k i l =
    ap (λ (r : List ℕ). take i l ++ (window_at k i l ++ r)) (sym (drop-drop k i l))
    ∙ ap (λ (r : List ℕ). take i l ++ r) (take-append-drop k (drop i l))
    ∙ take-append-drop i l

pub window_length : (k i : ℕ) (l : List ℕ) → i + k ≤ length l → length (window_at k i l) ≡ k
window_length k i l h = length-take-le k (drop i l) (omega (arith, length-drop i l))

-- a test of all elements, of two lists joined
all_append : (f : ℕ → Bool) (l m : List ℕ) → all_of f (l ++ m) ≡ both (all_of f l) (all_of f m)
unfolding all_of
all_append f [] m = refl
all_append f (x ∷ l) m = ap (both (f x)) (all_append f l m) ∙ regroup (f x) (all_of f l) (all_of f m)
  where
    regroup : (a b c : Bool) → both a (both b c) ≡ both (both a b) c
    regroup true b c = refl
    regroup false b c = refl

-- what is added up, tested and run, part by part
module _ (front middle rest : List ℕ) where
  length_parts : length (front ++ (middle ++ rest)) ≡ length front + (length middle + length rest)
  length_parts = omega (arith, length-append front (middle ++ rest), length-append middle rest)

  total_parts : (f : ℕ → ℕ) → total f (front ++ (middle ++ rest)) ≡ total f front + (total f middle + total f rest)
  total_parts f = omega (arith, total_append f front (middle ++ rest), total_append f middle rest)

  all_parts : (f : ℕ → Bool) → all_of f (front ++ (middle ++ rest)) ≡ both (all_of f front) (both (all_of f middle) (all_of f rest))
  all_parts f = all_append f front (middle ++ rest) ∙ ap (both (all_of f front)) (all_append f middle rest)

  runs_parts : (v : ℕ) → forwards (front ++ (middle ++ rest)) v ≡ forwards rest (forwards middle (forwards front v))
  runs_parts v = along_append step front (middle ++ rest) v ∙ along_append step middle rest (forwards front v)

-- what holds of all gates of a list holds of those before a window, in it and after it
all_around : (k i : ℕ) (f : ℕ → Bool) (l : List ℕ) → all_of f l ≡ true
    → (all_of f (take i l) ≡ true) × ((all_of f (window_at k i l) ≡ true) × (all_of f (drop (i + k) l) ≡ true))
all_around k i f l h =
    let front = take i l in
    let window = window_at k i l in
    let rest = drop (i + k) l in
    let e = sym (all_parts front window rest f) ∙ ap (all_of f) (three_parts k i l) ∙ h in
    let a = both_parts (all_of f front) (both (all_of f window) (all_of f rest)) e in
    (a.0, both_parts (all_of f window) (all_of f rest) a.1)

pub all_window : (k i : ℕ) (f : ℕ → Bool) (l : List ℕ) → all_of f l ≡ true → all_of f (window_at k i l) ≡ true
all_window k i f l h = (all_around k i f l h).1.0

module _ (n k : ℕ) (wide : Width n) (p : Prices) where
  -- one replacement
  module _ (l m : List ℕ) (r : Replaced (better n p) k l m) where
    abbrev front : List ℕ
    front = take r.place l

    abbrev window : List ℕ
    window = window_at k r.place l

    abbrev rest : List ℕ
    rest = drop (r.place + k) l

    answer : Better n wide p window r.gates
    answer = better_is n wide p window r.gates r.yielded

    was : front ++ (window ++ rest) ≡ l
    was = three_parts k r.place l

    step_cost : cost_at p m < cost_at p l
    step_cost =
        let f = weight_of (weights p) in
        let a = ap (cost_at p) r.made ∙ total_parts front r.gates rest f in
        let b = ap (cost_at p) (sym was) ∙ total_parts front window rest f in
        omega (arith, answer.cheaper)

    step_length : length m ≤ length l
    step_length =
        let a = ap length r.made ∙ length_parts front r.gates rest in
        let b = ap length (sym was) ∙ length_parts front window rest in
        omega (arith, better_short n wide p window r.gates answer)

    module _ (kept : all_of (lawful 2 n) l ≡ true) where
      parts : (all_of (lawful 2 n) front ≡ true) × ((all_of (lawful 2 n) window ≡ true) × (all_of (lawful 2 n) rest ≡ true))
      parts = all_around k r.place (lawful 2 n) l kept

      step_lawful : all_of (lawful 2 n) m ≡ true
      step_lawful =
          ap (all_of (lawful 2 n)) r.made
          ∙ all_parts front r.gates rest (lawful 2 n)
          ∙ both_true parts.0 (both_true (better_lawful n wide p window r.gates answer) parts.1.1)

      step_same : k ≤ 12 → (v : ℕ) → v < 2 ^ n → forwards m v ≡ forwards l v
      step_same few v h =
          let short : length window ≤ 12 = omega (arith, window_length k r.place l r.fits) in
          let u = forwards front v in
          let low : u < 2 ^ n = stays 2 n front v parts.0 h in
          ap (λ (x : List ℕ). forwards x v) r.made
          ∙ runs_parts front r.gates rest v
          ∙ ap (forwards rest) (better_same n wide p window parts.1.0 short r.gates answer u low)
          ∙ sym (runs_parts front window rest v)
          ∙ ap (λ (x : List ℕ). forwards x v) was

  abbrev next : List ℕ → Option (List ℕ)
  next l = replaced (better n p) k l

  pub falls : (l m : List ℕ) → next l ≡ some m → cost_at p m < cost_at p l
  falls l m e = step_cost l m (replaced_is (better n p) k l m e)

  -- all replacements
  pub rewritten_ends : (l : List ℕ) → next (rewritten n k p l) ≡ none
  unfolding rewritten
  rewritten_ends l = ends next (cost_at p) falls (cost_at p l) l (omega arith)

  pub rewritten_onward : (l m : List ℕ) → next l ≡ some m → rewritten n k p l ≡ rewritten n k p m
  unfolding rewritten
  rewritten_onward l m e = onward next (cost_at p) falls l m e

  pub rewritten_stays : (l : List ℕ) → next l ≡ none → rewritten n k p l ≡ l
  unfolding rewritten
  rewritten_stays l e = repeated_stays next (cost_at p l) l e

  pub rewritten_cost : (l : List ℕ) → cost_at p (rewritten n k p l) ≤ cost_at p l
  unfolding rewritten
  rewritten_cost l =
      repeated_keeps next (λ (x : List ℕ). cost_at p x ≤ cost_at p l) (λ x y e h. omega (arith, falls x y e)) (cost_at p l) l (omega arith)

  pub rewritten_length : (l : List ℕ) → length (rewritten n k p l) ≤ length l
  unfolding rewritten
  rewritten_length l =
      repeated_keeps next (λ (x : List ℕ). length x ≤ length l)
      (λ x y e h. omega (arith, step_length x y (replaced_is (better n p) k x y e))) (cost_at p l) l (omega arith)

  pub rewritten_same : (l : List ℕ) → k ≤ 12 → all_of (lawful 2 n) l ≡ true
      → (all_of (lawful 2 n) (rewritten n k p l) ≡ true) × ((v : ℕ) → v < 2 ^ n → forwards (rewritten n k p l) v ≡ forwards l v)
  unfolding rewritten
  rewritten_same l few kept =
      repeated_keeps next (λ (x : List ℕ). (all_of (lawful 2 n) x ≡ true) × ((v : ℕ) → v < 2 ^ n → forwards x v ≡ forwards l v))
      (λ x y e h.
      let r = replaced_is (better n p) k x y e in
      (step_lawful x y r h.0, λ v low. step_same x y r h.0 few v low ∙ h.1 v low))
      (cost_at p l) l (kept, λ v low. refl)
