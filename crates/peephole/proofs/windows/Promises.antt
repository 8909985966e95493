-- What a list is promised to become, in a caller's words: for every list that breaks none of the call's rules, at any prices.
use mathlib.Core.Path.{◌≡◌}
use mathlib.Core.Bool.{true}
use mathlib.Core.Logic.{inl, inr, ⊎_elim, ◌↔◌}
use mathlib.Core.List.{List}
use mathlib.Core.Option.{none, some}
use Prim.Native.Nat.{ℕ, ◌+◌, ◌^◌, ◌≤◌, ◌<◌}
use native.Mathlib.Omega.{arith}
use borrow.Author.Tests.{eqb-true, leb-true}
use lib.Dec.{eqb, leb, lit<}
use lib.ListN.{length}
use Rattle.logic.specs.Rules.{both, either}
use Rattle.logic.specs.Lists.{all_of}
use Rattle.logic.specs.Answers.{refused}
use Rattle.logic.proofs.Answers.{refused_is}
use Rattle.logic.proofs.Chain.{both_parts, either_cases, rule_kept, rule_never}
use Rattle.gate.specs.Gates.{lawful}
use Rattle.circuit.specs.run.Run.{forwards}
use Rattle.table.specs.layouts.Layouts.{Width}
use Rattle.peephole.specs.declared.windows.Prices.{Prices}
use Rattle.peephole.specs.windows.Windows.{cost_at, better, window_at, replaced, rewritten}
use Rattle.peephole.specs.windows.Listings.{sizes_ok, rewrite_code, rewrite_of, ByteEach}
use Rattle.peephole.specs.windows.Demand.{Improves, Leftmost}
use Rattle.peephole.proofs.windows.Leftmost.{short_none, still_none}
use Rattle.peephole.proofs.windows.Improving.{nothing_improves, is_leftmost, leftmost_goes, none_goes}
use Rattle.peephole.proofs.windows.Steps.{rewritten_ends, rewritten_onward, rewritten_stays, rewritten_cost, rewritten_length, rewritten_same}

-- what a code of 0 says of the call
pub record Sound (n k : ℕ) (l : List ℕ) : Type 0 where
  pub width : Width n
  pub two : 2 ≤ k
  pub four : k ≤ 4
  pub short : length l ≤ 4096
  pub kept : all_of (lawful 2 n) l ≡ true

pub sizes_sound : (n k : ℕ) → sizes_ok n k ≡ true → Width n × ((2 ≤ k) × (k ≤ 4))
unfolding sizes_ok
sizes_sound n k h =
    let p = both_parts (either (eqb n 3) (eqb n 4)) (both (leb 2 k) (leb k 4)) h in
    let q = both_parts (leb 2 k) (leb k 4) p.1 in (
      ⊎_elim (λ e. inl (eqb-true n 3 e)) (λ e. inr (eqb-true n 4 e)) (either_cases (eqb n 3) (eqb n 4) p.0),
      (leb-true 2 k q.0, leb-true k 4 q.1),
    )

pub code_sound : (n k : ℕ) (l : List ℕ) → rewrite_code n k l ≡ 0 → Sound n k l
unfolding rewrite_code
code_sound n k l h =
    let k₁ = rule_kept (sizes_ok n k) 32 _ (lit< tt) h in
    let k₂ = rule_kept (leb (length l) 4096) 33 _ (lit< tt) k₁.1 in
    let k₃ = rule_kept (all_of (lawful 2 n) l) 34 0 (lit< tt) k₂.1 in
    let s = sizes_sound n k k₁.0 in
    record { width = s.0; two = s.1.0; four = s.1.1; short = leb-true (length l) 4096 k₂.0; kept = k₃.0 }

-- no list is refused with 11
pub rewrite_never : (n k : ℕ) (p : Prices) (l : List ℕ) → rewrite_of n k p l ≡ refused 11 → ⊥
unfolding rewrite_of rewrite_code
rewrite_never n k p l h =
    rule_never 11 (sizes_ok n k) 32 _ (λ e. omega arith)
    (rule_never 11 (leb (length l) 4096) 33 _ (λ e. omega arith)
    (rule_never 11 (all_of (lawful 2 n) l) 34 0 (λ e. omega arith) (λ e. omega arith)))
    (refused_is (rewrite_code n k l) (length (rewritten n k p l)) 11 h)

module _ (n k : ℕ) (p : Prices) (l : List ℕ) (clear : rewrite_code n k l ≡ 0) where
  abbrev new : List ℕ
  new = rewritten n k p l

  known : Sound n k l
  known = code_sound n k l clear

  few : k ≤ 12
  few = omega (arith, known.four)

  -- 1. It does to every value what it did.
  pub same_values : (v : ℕ) → v < 2 ^ n → forwards new v ≡ forwards l v
  same_values = (rewritten_same n k known.width p l few known.kept).1

  -- 2. It costs no more, and has no more gates, all lawful.
  pub costs_no_more : cost_at p new ≤ cost_at p l
  costs_no_more = rewritten_cost n k known.width p l

  pub no_longer : length new ≤ length l
  no_longer = rewritten_length n k known.width p l

  pub still_lawful : all_of (lawful 2 n) new ≡ true
  still_lawful = (rewritten_same n k known.width p l few known.kept).0

  -- 3. It ends: no window yields any more, so that doing it again changes nothing.
  pub it_ends : replaced (better n p) k new ≡ none
  it_ends = rewritten_ends n k known.width p l

  pub once_is_enough : rewritten n k p new ≡ new
  once_is_enough = rewritten_stays n k known.width p new it_ends

  some_gates : 0 < k
  some_gates = omega (arith, known.two)

  module _ (small : ByteEach p) where
    -- 4. No window is left for which a list of no more gates at lower cost changes every value alike.
    pub none_left : (i : ℕ) → i + k ≤ length new → (e : List ℕ) → Improves n p (window_at k i new) e → ⊥
    none_left i fits =
        nothing_improves n k known.width few p small new still_lawful i fits (still_none (better n p) k new it_ends some_gates i fits)

    -- 5. One step replaces the leftmost window for which there is such a list, by the search's answer for that window's job, and closes
    -- the gap; where no window has one, the list stays.
    pub leftmost : (m : List ℕ) → (replaced (better n p) k l ≡ some m) ↔ Leftmost n k p l m
    leftmost m = (
      is_leftmost n k known.width few p small l known.kept m,
      leftmost_goes n k known.width few p small l known.kept some_gates m,
    )

    pub step_by_step : (m : List ℕ) → Leftmost n k p l m → new ≡ rewritten n k p m
    step_by_step m s = rewritten_onward n k known.width p l m ((leftmost m).1 s)

    pub stays_without : ((i : ℕ) → i + k ≤ length l → (e : List ℕ) → Improves n p (window_at k i l) e → ⊥) → new ≡ l
    stays_without h =
        rewritten_stays n k known.width p l (none_goes n k known.width few p small l known.kept some_gates h)

  -- 6. A list shorter than the window stays.
  pub short_stays : length l < k → new ≡ l
  short_stays h = rewritten_stays n k known.width p l (short_none (better n p) k l h)
