use mathlib.Core.Path.{◌≡◌, sym, ap, ap₂, ◌∙◌}
use mathlib.Core.Bool.{Bool}
use mathlib.Core.List.{List}
use Prim.Native.Nat.{ℕ, ◌+◌, ◌-◌, ◌≤◌, ◌<◌}
use native.Mathlib.Numerals.{add-one}
use native.Mathlib.Omega.{arith}
use borrow.Author.Rules.{rules}
use lib.ListN.{length, get_or, take, drop, length-set}
use lib.Seq.{length-take-le, get_or-take, take_all}
use Rattle.std.proofs.lemmas.List.{drop-take}
use Rattle.scheduler.specs.candidates.Inner.{digit, over, bump}
use Rattle.scheduler.proofs.candidates.Odometer.{length_bump, bump_at}
use Rattle.scheduler.proofs.candidates.Digits.{filled}
use Rattle.scheduler.proofs.candidates.bump.Goals as goal
use Rattle.scheduler.proofs.candidates.bump.Goals.{Start}

long : (s : Start) → length s.args.digits ≡ 12
long s = search rules

-- as many digits as before
many : (s : Start) → length (bump s.args.gates (take s.args.len s.args.digits)) ≡ s.args.len
many s =
    let n = long s in
    length_bump s.args.gates (take s.args.len s.args.digits) ∙ length-take-le s.args.len s.args.digits (omega (arith, s.requires.0))

-- the digits behind one
between : (ds : List ℕ) (i n : ℕ) → i ≤ n → take (n - i) (drop i ds) ≡ drop i (take n ds)
between ds i n h = sym (drop-take i (n - i) ds) ∙ ap (λ (k : ℕ). drop i (take k ds)) (omega arith)

-- the digit that is made is the one at its place
made : (n : ℕ) (ds : List ℕ) (len i x : ℕ) (t : Bool) → len ≤ length ds → i < len → x ≡ digit n (get_or ds i 0) t → t ≡ over n (drop (i + 1) (take len ds))
    → x ≡ get_or (bump n (take len ds)) i 0
made n ds len i x t fits h e f =
    e
    ∙ ap₂ (digit n) (sym (get_or-take len ds i 0 h)) (f ∙ ap (λ (k : ℕ). over n (drop k (take len ds))) (add-one i))
    ∙ sym (bump_at n (take len ds) i (omega (arith, length-take-le len ds fits)))

pub loop-i-preserved : goal.loop-i-preserved
loop-i-preserved c =
    let n = long (goal.at.loop-i-preserved c).Start in
    let few = c.requires.0 in
    let m = many (goal.at.loop-i-preserved c).Start in (
      length-set c.loop-i.next c.loop-i.i c.digit.result ∙ c.loop-i.invariant.0,
      filled (bump c.args.gates (take c.args.len c.args.digits)) c.loop-i.next c.loop-i.i c.digit.result (omega arith) (omega arith)
          (made c.args.gates c.args.digits c.args.len c.loop-i.i c.digit.result c.over-carried.result (omega arith) c.loop-i-test.true c.digit.ensures
          (c.over-carried.ensures ∙ ap (over c.args.gates) (between c.args.digits (c.loop-i.i + 1) c.args.len (omega arith))))
          c.loop-i.invariant.1,
    )

pub returns : goal.returns
returns c =
    let h = c.loop-i-test.false in
    let q : c.loop-i.i ≡ c.args.len = omega arith in
    let m = many (goal.at.returns c).Start in
    rw q at c.loop-i.invariant.1 ∙ take_all c.args.len (bump c.args.gates (take c.args.len c.args.digits)) (omega arith)
