-- A price change in a caller's words. Past the checks both jobs are found or both are 14; a price raised by d moves the least cost up by
-- 0 to d times the old circuit's gates of that kind, one lowered by d moves it down by 0 to d times the new circuit's; equal jobs that
-- are found give 0.
use mathlib.Core.Path.{◌≡◌, refl, sym, ap, ap₂, ◌∙◌, subst}
use mathlib.Core.Bool.{Bool, true, false}
use mathlib.Core.Logic.{◌⊎◌, inl, inr, ⊎_elim, ◌↔◌}
use mathlib.Core.List.{List}
use Prim.Native.Nat.{ℕ, ◌+◌, ◌-◌, ◌*◌, ◌≤◌, ◌<◌}
use native.Mathlib.Decide.{ℕ_discrete}
use native.Mathlib.Omega.{arith}
use borrow.Author.Tests.{leb-true, le-leb, eq-eqb}
use lib.Dec.{leb, eqb, lit<, lit≤}
use lib.IntN.{pos, neg_ℤ}
use lib.ListN.{length, get_or}
use Rattle.logic.specs.Rules.{both, pick, rule, and_then}
use Rattle.logic.specs.Answers.{Answer, refused, answered}
use Rattle.logic.proofs.Chain.{both_right, both_parts, both_true, either_second, rule_kept, rule_never, and_then_zero, and_then_never}
use Rattle.logic.proofs.Counts.{all_below_law, some_at}
use Rattle.circuit.specs.Measure.{cost}
use Rattle.record.specs.JobRules.{job_code}
use Rattle.record.specs.job_fields.Jobs.{longer, data_wires, ancillas, cost_limit, Bytes}
use Rattle.record.specs.circuit_fields.Circuits.{gates}
use Rattle.record.proofs.Kept.{sound_job}
use Rattle.record.proofs.Never.{job_never, one_number, no_number, answer_never}
use Rattle.record.proofs.circuit_rules.Written as Written
use Rattle.circuit.specs.declared.measures.Measures.{Measures}
use Rattle.circuit.specs.measures.Measures.{measures_of}
use Rattle.problem.specs.Demand.{Winner, Roomy}
use Rattle.outcomes.specs.Outcomes.{problem_over, problem_of, record_of, Found, reported, search_of}
use Rattle.outcomes.proofs.Facts as Search
use Rattle.sensitivity.specs.alike.Alike.{price_count, price_place, same_but, alike_but, one_price, comparable, compare_code, cost_difference}
use Rattle.sensitivity.specs.Calls.{change_between, price_change}
use Rattle.sensitivity.specs.repriced.Demand.{of_kind, kind_count}
use Rattle.sensitivity.proofs.difference.Whole.{no_less, no_more, no_change}
use Rattle.sensitivity.proofs.repriced.Problems.{turned, solves_too, winners_apart}
use Rattle.sensitivity.proofs.repriced.Jobs.{Changed, changed_is, other_way, alike, raised}
use Rattle.outcomes.proofs.Limits.{roomy}

-- what two jobs that may be compared are known to be
pub record Compared (old new : List ℕ) : Type 0 where
  pub old_sound : job_code old ≡ 0
  pub new_sound : job_code new ≡ 0
  pub alike_enough : comparable old new ≡ true
  pub old_wide : 65535 ≤ cost_limit old
  pub new_wide : 65535 ≤ cost_limit new

pub compared : (old new : List ℕ) → compare_code old new ≡ 0 → Compared old new
unfolding compare_code comparable
compared old new h =
    let p = and_then_zero (job_code old) (and_then (job_code new) (rule (comparable old new) 38 0)) h in
    let q = and_then_zero (job_code new) (rule (comparable old new) 38 0) p.1 in
    let r = rule_kept (comparable old new) 38 0 (lit< tt) q.1 in
    let wide = both (leb 65535 (cost_limit old)) (leb 65535 (cost_limit new)) in
    let u = both_right (eqb (length old) (length new)) (both (one_price old new) wide) r.0 in
    let v = both_parts (leb 65535 (cost_limit old)) (leb 65535 (cost_limit new)) (both_right (one_price old new) wide u) in
    record {
      old_sound = p.0;
      new_sound = q.0;
      alike_enough = r.0;
      old_wide = leb-true 65535 (cost_limit old) v.0;
      new_wide = leb-true 65535 (cost_limit new) v.1;
    }

past : (old new : List ℕ) → compare_code old new ≡ 0
    → price_change old new ≡ change_between (reported (search_of old 15)) (reported (search_of new 15))
unfolding price_change
past old new h = rw h

-- 11 is never said
pub change_never : (old new : List ℕ) → price_change old new ≡ refused 11 → ⊥
unfolding price_change compare_code
change_never old new =
    answer_never 11 (compare_code old new) (change_between (reported (search_of old 15)) (reported (search_of new 15)))
    (and_then_never 11 (job_code old) _ (job_never old)
    (and_then_never 11 (job_code new) _ (job_never new)
    (rule_never 11 (comparable old new) 38 0 (λ e. omega arith) (λ e. omega arith))))
    (by_answers (search_of old 15) (search_of new 15) (Search.search_never old 15) (Search.search_never new 15))
  where
    by_answers : (x y : Answer Found) → (x ≡ refused 11 → ⊥) → (y ≡ refused 11 → ⊥) → change_between (reported x) (reported y) ≡ refused 11 → ⊥
    by_answers (refused code) y f g h = f (ap refused (one_number 11 code h))
    by_answers (answered o) (refused code) f g h = g (ap refused (one_number 11 code h))
    by_answers (answered o) (answered n) f g h = no_number 11 (cost_difference o.measures.cost n.measures.cost) h

-- a difference is the new circuit's cost less the old one's
pub change_is : (old new : List ℕ) → compare_code old new ≡ 0 → (f g : Found) → search_of old 15 ≡ answered f → search_of new 15 ≡ answered g
    → price_change old new ≡ answered (cost_difference f.measures.cost g.measures.cost)
change_is old new h f g o n = past old new h ∙ ap₂ (λ (x y : Answer Found). change_between (reported x) (reported y)) o n

-- the gates of a found circuit win, at the cost that is told
told : (job : List ℕ) → job_code job ≡ 0 → (f : Found) → search_of job 15 ≡ answered f
    → (p : ℕ) × (Winner (problem_of job) (gates f.bytes) p × (f.measures.cost ≡ cost (problem_of job).price (gates f.bytes)))
unfolding problem_over record_of measures_of
told job sound f h =
    let t = Search.found_is job sound 15 (lit≤ tt) f h in
    let l = t.0 in
    let p = t.1.0 in
    let e : gates f.bytes ≡ l
    = ap gates t.1.1.1.0 ∙ Written.same_gates (data_wires job) (ancillas job) (longer job) p l (sound_job job sound).spare in (
      p,
      subst (λ (gs : List ℕ). Winner (problem_of job) gs p × (f.measures.cost ≡ cost (problem_of job).price gs)) (sym e)
          (t.1.1.0, ap (λ (m : Measures). m.cost) t.1.1.1.1),
    )

-- a cost between another and that and m more, told as two numbers
between : (x y a b m : ℕ) → x ≡ a → y ≡ b → (a ≤ b) × (b ≤ a + m) → (x ≤ y) × (y - x ≤ m)
between x y a b m e d h = let u = h.0 in let v = h.1 in (omega arith, omega arith)

module _ (old new : List ℕ) (old-bytes : Bytes old) (new-bytes : Bytes new) (kept : compare_code old new ≡ 0) where
  known : Compared old new
  known = compared old new kept

  old_roomy : Roomy (problem_of old)
  old_roomy = roomy old old-bytes known.old_sound known.old_wide

  new_roomy : Roomy (problem_of new)
  new_roomy = roomy new new-bytes known.new_sound known.new_wide

  pub none_together : (search_of old 15 ≡ refused 14) ↔ (search_of new 15 ≡ refused 14)
  none_together =
      let c = changed_is old new known.alike_enough in
      let a = alike old new c.0 c.1 in
      let o = Search.none_is old known.old_sound 15 (lit≤ tt) in
      let n = Search.none_is new known.new_sound 15 (lit≤ tt) in (
        (λ h. n.1 (λ l p s. o.0 h l p (solves_too (problem_of new) (problem_of old) (turned a) old_roomy l p s))),
        (λ h. o.1 (λ l p s. n.0 h l p (solves_too (problem_of old) (problem_of new) a new_roomy l p s))),
      )

  -- "Past 38, both are found or both are 14"
  pub both_or_neither : ((search_of old 15 ≡ refused 14) × (search_of new 15 ≡ refused 14))
      ⊎ ((f : Found) × ((g : Found) × ((search_of old 15 ≡ answered f) × (search_of new 15 ≡ answered g))))
  both_or_neither =
      ⊎_elim
      (λ (h : search_of old 15 ≡ refused 14). inl (h, none_together.0 h))
      (λ (h : (f : Found) × (search_of old 15 ≡ answered f)). ⊎_elim
      (λ (j : search_of new 15 ≡ refused 14). absurd (apart h.0 (sym h.1 ∙ none_together.1 j)))
      (λ (j : (g : Found) × (search_of new 15 ≡ answered g)). inr (h.0, (j.0, (h.1, j.1))))
      (Search.answers new known.new_sound 15 (lit≤ tt)))
      (Search.answers old known.old_sound 15 (lit≤ tt))
    where
      apart : (f : Found) → ◌≡◌ {A = Answer Found} (answered f) (refused 14) → ⊥
      apart f e = let z : ◌≡◌ {A = ℕ} 0 1 = cc in omega arith

  -- 14 is told exactly where both are 14
  pub none_told : (price_change old new ≡ refused 14) ↔ ((search_of old 15 ≡ refused 14) × (search_of new 15 ≡ refused 14))
  none_told = (
    (λ h. ⊎_elim (λ b. b) (λ b. absurd (found h b.0 b.1.0 b.1.1.0 b.1.1.1)) both_or_neither),
    (λ b. past old new kept ∙ ap (λ (x : Answer Found). change_between (reported x) (reported (search_of new 15))) b.0),
  )
    where
      found : price_change old new ≡ refused 14 → (f g : Found) → search_of old 15 ≡ answered f → search_of new 15 ≡ answered g → ⊥
      found h f g o n = no_number 14 (cost_difference f.measures.cost g.measures.cost) (sym (change_is old new kept f g o n) ∙ h)

  -- where a price differs, nothing else does
  located : (k : ℕ) → (get_or old (price_place k) 0 ≡ get_or new (price_place k) 0 → ⊥) → Changed old new k
  located k differs = by_place (ℕ_discrete k (changed_is old new known.alike_enough).0)
    where
      by_place : Dec (k ≡ (changed_is old new known.alike_enough).0) → Changed old new k
      by_place (yes e) = subst (λ (j : ℕ). Changed old new j) (sym e) (changed_is old new known.alike_enough).1
      by_place (no n) =
          let c = changed_is old new known.alike_enough in
          absurd (differs (c.1.elsewhere (6 + k) (λ (q : 6 + k ≡ 6 + c.0). n (omega arith))))

  module _ (k d : ℕ) (some : 0 < d) (f g : Found) (o : search_of old 15 ≡ answered f) (n : search_of new 15 ≡ answered g) where
    -- "A price raised by d moves it up by 0 to d times the old circuit's gates of that kind"
    pub raised_by : get_or new (price_place k) 0 ≡ get_or old (price_place k) 0 + d
        → (up : ℕ) × ((price_change old new ≡ answered (pos up)) × (up ≤ d * kind_count (of_kind k) (gates f.bytes)))
    raised_by more =
        let c = located k (λ e. omega arith) in
        let x = told old known.old_sound f o in
        let y = told new known.new_sound g n in
        let r = between f.measures.cost g.measures.cost (cost (problem_of old).price (gates f.bytes))
        (cost (problem_of new).price (gates g.bytes)) (d * kind_count (of_kind k) (gates f.bytes)) x.1.1 y.1.1
        (winners_apart (problem_of old) (problem_of new) (of_kind k) d (raised old new k c d more) (alike old new k c) old_roomy new_roomy
        (gates f.bytes) x.0 (gates g.bytes) y.0 x.1.0 y.1.0) in (
          g.measures.cost - f.measures.cost,
          (change_is old new kept f g o n ∙ ap answered (no_less f.measures.cost g.measures.cost r.0), r.1),
        )

    -- "lowered by d, down by 0 to d times the new circuit's"
    pub lowered_by : get_or old (price_place k) 0 ≡ get_or new (price_place k) 0 + d
        → (down : ℕ) × ((price_change old new ≡ answered (neg_ℤ (pos down))) × (down ≤ d * kind_count (of_kind k) (gates g.bytes)))
    lowered_by less =
        let c = other_way old new k (located k (λ e. omega arith)) in
        let x = told old known.old_sound f o in
        let y = told new known.new_sound g n in
        let r = between g.measures.cost f.measures.cost (cost (problem_of new).price (gates g.bytes))
        (cost (problem_of old).price (gates f.bytes)) (d * kind_count (of_kind k) (gates g.bytes)) y.1.1 x.1.1
        (winners_apart (problem_of new) (problem_of old) (of_kind k) d (raised new old k c d less) (alike new old k c) new_roomy old_roomy
        (gates g.bytes) y.0 (gates f.bytes) x.0 y.1.0 x.1.0) in (
          f.measures.cost - g.measures.cost,
          (change_is old new kept f g o n ∙ ap answered (no_more f.measures.cost g.measures.cost r.0), r.1),
        )

-- "equal jobs that are found give 0"
module _ (job : List ℕ) where
  alike_self : (place : ℕ) → alike_but job job place ≡ true
  unfolding alike_but same_but
  alike_self place =
      all_below_law (same_but job job place) (length job)
      (λ i h. either_second (eqb i place) (eqb (get_or job i 0) (get_or job i 0)) (eq-eqb (get_or job i 0) (get_or job i 0) refl))

  one_self : one_price job job ≡ true
  unfolding one_price
  one_self = some_at (λ k. alike_but job job (price_place k)) (price_count job) 0 (any (longer job)) (alike_self 6)
    where
      any : (t : Bool) → 0 < pick t 4 3
      any true = omega arith
      any false = omega arith

  comparable_self : 65535 ≤ cost_limit job → comparable job job ≡ true
  unfolding comparable
  comparable_self h =
      let w = le-leb 65535 (cost_limit job) h in
      both_true (eq-eqb (length job) (length job) refl) (both_true one_self (both_true w w))

  pub same_job : (f : Found) → 65535 ≤ cost_limit job → search_of job 15 ≡ answered f → price_change job job ≡ answered (pos 0)
  unfolding compare_code
  same_job f h o =
      let sound = (Search.found_sound job 15 f o).0 in
      let kept : compare_code job job ≡ 0 = rw (sound, comparable_self h) in
      change_is job job kept f f o o ∙ ap answered (no_change f.measures.cost)
