use Rattle.std.proofs.Common.{◌≡◌, List, ℕ, suc, ◌∷◌, ◌-◌, ◌*◌, ◌≤◌, drop, length, get_or, sym, ap, subst, ◌∙◌, arith, rules}
use lib.ListN.{drop_of_length-le}
use lib.Seq.{drop-cons}
use Rattle.near_misses.specs.misses.Columns.{least_left, lefts}
use Rattle.near_misses.proofs.misses.Kept.{lefts_none, lefts_at}
use Rattle.near_misses.proofs.fewest.least_left.Goals as goal

pub loop-i-init : goal.loop-i-init
loop-i-init c =
    let long : length c.args.missed ≡ 4 = search rules in
    let within : length c.args.missed ≤ 4 = omega arith in
    (rw (drop_of_length-le c.args.missed within) lefts_none, (omega arith, omega arith, omega arith, omega arith))

-- the numbers from the one before i on
from_before : (xs : List ℕ) (i : ℕ) → 1 ≤ i → i ≤ length xs → drop (i - 1) xs ≡ get_or xs (i - 1) 0 ∷ drop i xs
from_before xs i h l =
    let e : suc (i - 1) ≡ i = omega arith in
    subst (λ (k : ℕ). drop (i - 1) xs ≡ get_or xs (i - 1) 0 ∷ drop k xs) e (drop-cons xs (i - 1) 0 (omega arith))

pub loop-i-preserved : goal.loop-i-preserved
loop-i-preserved c =
    let long : length c.args.missed ≡ 4 = search rules in
    let next = c.with_one-least.ensures in
    let most = next.upper_bound (16 * (4 - c.loop-i.i)) c.loop-i.invariant.1 in
    (next.value _ c.loop-i.invariant.0 ∙ ap lefts (sym (from_before c.args.missed c.loop-i.i (omega arith) (omega arith))), (omega arith, omega arith, omega arith, omega arith))

pub returns : goal.returns
returns c =
    let none : c.loop-i.i ≡ 0 = omega arith in
    ap (λ (ls : List ℕ). get_or ls c.args.r 0) c.loop-i.invariant.0
    ∙ lefts_at (drop c.loop-i.i c.args.missed) c.args.r c.requires.r_bound
    ∙ ap (λ (k : ℕ). least_left (drop k c.args.missed) c.args.r) none
