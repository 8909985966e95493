-- What a caller learns of the outcome from what the search returned and left in the buffer.
use mathlib.Core.Path.{◌≡◌, sym, ap}
use mathlib.Core.List.{List}
use Prim.Native.Nat.{ℕ}
use native.Mathlib.Omega.{arith}
use lib.ListN.{length, take, drop}
use lib.Seq.{take_at}
use Rattle.std.specs.Prelude.{Result, Ok, Err}
use Rattle.logic.specs.Answers.{Answer, refused, answered}
use Rattle.record.specs.Answers.{number, reply}
use Rattle.record.specs.declared.refusal.Refusal.{Refusal}
use Rattle.outcomes.specs.declared.Reported.{Reported}
use Rattle.outcomes.specs.Outcomes.{Found, reported, written}

pub when_refused : (o : Answer Found) (r : Result Reported Refusal) (e : Refusal) → reply r ≡ reported o → r ≡ Err e → o ≡ refused (number e)
when_refused (refused k) (Err x) e h is = let p : k ≡ number e = cc in ap refused p
when_refused (answered f) (Err x) e h is = let z : ◌≡◌ {A = ℕ} 0 1 = cc in absurd (omega arith)
when_refused o (Ok x) e h is = let z : ◌≡◌ {A = ℕ} 0 1 = cc in absurd (omega arith)

pub when_found : (o : Answer Found) (r : Result Reported Refusal) (x : Reported) (answer out : List ℕ) → reply r ≡ reported o → r ≡ Ok x → out ≡ written o answer
    → o ≡ answered (record { bytes = take x.size out; measures = x.measures })
when_found o (Err y) x answer out e h w = let z : ◌≡◌ {A = ℕ} 0 1 = cc in absurd (omega arith)
when_found (refused k) (Ok y) x answer out e h w = let z : ◌≡◌ {A = ℕ} 0 1 = cc in absurd (omega arith)
when_found (answered f) (Ok y) x answer out e h w =
    let same : ◌≡◌ {A = Reported} x (record { size = length f.bytes; measures = f.measures }) = cc in
    let q : length f.bytes ≡ x.size = sym (ap (λ (x : Reported). x.size) same) in
    let p : f.measures ≡ x.measures = sym (ap (λ (x : Reported). x.measures) same) in
    rw (← p, w, take_at f.bytes (drop (length f.bytes) answer) x.size q)
