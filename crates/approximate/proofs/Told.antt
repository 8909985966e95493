-- What a caller learns of the outcome from what the call returned and left in the buffer.
use mathlib.Core.Path.{◌≡◌, sym, ap}
use mathlib.Core.List.{List}
use Prim.Native.Nat.{ℕ}
use native.Mathlib.Omega.{arith}
use lib.ListN.{length, take, drop}
use lib.Seq.{take_at}
use Rattle.std.specs.Prelude.{Result, Ok, Err}
use Rattle.logic.specs.Answers.{Answer, refused, answered}
use Rattle.record.specs.Answers.{number, reply}
use Rattle.record.specs.declared.refusal.Refusal.{Refusal}
use Rattle.outcomes.specs.Outcomes.{written}
use Rattle.approximate.specs.declared.Nearest.{Nearest}
use Rattle.approximate.specs.Calls.{Close, circuit_in, told}

pub when_refused : (o : Answer Close) (r : Result Nearest Refusal) (e : Refusal) → reply r ≡ told o → r ≡ Err e → o ≡ refused (number e)
when_refused (refused k) (Err x) e h is = let p : k ≡ number e = cc in ap refused p
when_refused (answered f) (Err x) e h is = let z : ◌≡◌ {A = ℕ} 0 1 = cc in absurd (omega arith)
when_refused o (Ok x) e h is = let z : ◌≡◌ {A = ℕ} 0 1 = cc in absurd (omega arith)

pub when_found : (o : Answer Close) (r : Result Nearest Refusal) (x : Nearest) (answer out : List ℕ) → reply r ≡ told o → r ≡ Ok x
    → out ≡ written (circuit_in o) answer
    → o ≡ answered (record { circuit = record { bytes = take x.report.size out; measures = x.report.measures }; misses = x.misses })
when_found o (Err y) x answer out e h w = let z : ◌≡◌ {A = ℕ} 0 1 = cc in absurd (omega arith)
when_found (refused c) (Ok y) x answer out e h w = let z : ◌≡◌ {A = ℕ} 0 1 = cc in absurd (omega arith)
when_found (answered f) (Ok y) x answer out e h w =
    let same : ◌≡◌ {A = Nearest} x
    (record { report = record { size = length f.circuit.bytes; measures = f.circuit.measures }; misses = f.misses }) = cc in
    let q : length f.circuit.bytes ≡ x.report.size = sym (ap (λ (x : Nearest). x.report.size) same) in
    let p : f.circuit.measures ≡ x.report.measures = sym (ap (λ (x : Nearest). x.report.measures) same) in
    let u : f.misses ≡ x.misses = sym (ap (λ (x : Nearest). x.misses) same) in
    rw (← p, ← u, w, take_at f.circuit.bytes (drop (length f.circuit.bytes) answer) x.report.size q)
