use Rattle.std.proofs.Common.{◌≡◌, true, List, ℕ, ◌+◌, ◌<◌, length, get_or, subst, arith, rules, tests}
use mathlib.Core.List.{Memᴰ}
use Rattle.std.specs.List.{range_with_len}
use Rattle.std.proofs.lemmas.Bool.Decides.{when_true}
use Rattle.std.proofs.lemmas.Iterator.{cases_from_all, YieldsList-from_range}
use Rattle.std.proofs.lemmas.List.FromFn.{length-range_with_len, get_or-range_with_len}
use Rattle.logic.proofs.Members.{place_of}
use Rattle.gate.specs.Gates.{lawful}
use Rattle.table.specs.layouts.Layouts.{layouts_for}
use Rattle.bloom.specs.declared.hash.Reach.{Reach}
use Rattle.reach_filter.specs.mirrors.Mirrors.{mirrors}
use Rattle.reach_filter.specs.fill.Sieve.{Suits, Sound}
use Rattle.reach_filter.proofs.symmetric.sound.Goals as goal

-- by place, and by element
all_suit : (gates : List ℕ) (r : Reach) (n free : ℕ) → ((i : ℕ) → i < length gates → lawful 3 (n + 1) (get_or gates i 0) ≡ true)
    → ((j : ℕ) → j < length (layouts_for n free) → Suits gates r.factors n (get_or (layouts_for n free) j 0)) → Sound gates r n free
all_suit gates r n free kinds suits = record {
  kinds = λ g m. let w = place_of g gates m in subst (λ (b : ℕ). lawful 3 (n + 1) b ≡ true) w.1.1 (kinds w.0 w.1.0);
  closed = λ p k g m.
      let q = place_of p (layouts_for n free) k in
      let w = place_of g gates m in
      subst (λ (b : ℕ). (h : ℕ) × (Memᴰ h gates × (mirrors n p b h ≡ true))) w.1.1
      ((subst (λ (b : ℕ). Suits gates r.factors n b) q.1.1 (suits q.0 q.1.0)).mirrored w.0 w.1.0);
  even = λ p k.
      let q = place_of p (layouts_for n free) k in
      (subst (λ (b : ℕ). Suits gates r.factors n b) q.1.1 (suits q.0 q.1.0)).even;
}

pub returns-then-all_lawful : goal.returns-then-all_lawful
returns-then-all_lawful c =
    λ e.
    let n = c.layout_count.result in
    let long = length-range_with_len 0 n in
    let suits = when_true _ _ e (cases_from_all _ _ _ (λ i. Suits c.args.gates.now c.args.reach.factors c.args.n (get_or (layouts_for c.args.n c.args.free) i 0)) (λ i. Unit {0}) c.all.ensures.ran (YieldsList-from_range 0 n n (cc) (omega arith)) (λ x q k. search (rules, tests)) (λ x q k. search (rules, tests))) in
    all_suit c.args.gates.now c.args.reach c.args.n c.args.free (c.all_lawful.ensures c.if-all_lawful.true)
    (λ j l.
    let h : j < n = omega (arith, c.layout_count.ensures) in
    let at : get_or (range_with_len 0 n) j 0 ≡ j = omega (arith, get_or-range_with_len 0 n j 0 h) in
    subst (λ i. Suits c.args.gates.now c.args.reach.factors c.args.n (get_or (layouts_for c.args.n c.args.free) i 0)) at (suits j 0 (omega arith) (omega arith)))
