-- What reading a text gives, by the answer of the call: a refusal, or the record in the buffer.
use mathlib.Core.Path.{◌≡◌, sym, ap, ◌∙◌}
use mathlib.Core.List.{List}
use Prim.Native.Nat.{ℕ}
use native.Mathlib.Omega.{arith}
use lib.ListN.{length, take, drop}
use lib.Seq.{take_at}
use Rattle.std.specs.Prelude.{Result, Ok, Err}
use Rattle.logic.specs.Answers.{Answer, refused, answered}
use Rattle.record.specs.Answers.{number, reply}
use Rattle.record.specs.declared.refusal.Refusal.{Refusal}
use Rattle.revlib.specs.Reading.{size_of, written}

pub when_refused : (o : Answer (List ℕ)) (r : Result ℕ Refusal) (e : Refusal) → reply r ≡ size_of o → r ≡ Err e → o ≡ refused (number e)
when_refused (refused k) (Err x) e h is = let p : k ≡ number e = cc in ap refused p
when_refused (answered bytes) (Err x) e h is = let z : ◌≡◌ {A = ℕ} 0 1 = cc in absurd (omega arith)
when_refused o (Ok x) e h is = let z : ◌≡◌ {A = ℕ} 0 1 = cc in absurd (omega arith)

pub when_read : (o : Answer (List ℕ)) (r : Result ℕ Refusal) (size : ℕ) (answer out : List ℕ) → reply r ≡ size_of o → r ≡ Ok size
    → out ≡ written o answer → o ≡ answered (take size out)
when_read o (Err x) size answer out e h w = let z : ◌≡◌ {A = ℕ} 0 1 = cc in absurd (omega arith)
when_read (refused k) (Ok s) size answer out e h w = let z : ◌≡◌ {A = ℕ} 0 1 = cc in absurd (omega arith)
when_read (answered bytes) (Ok s) size answer out e h w =
    let long : length bytes ≡ size = cc in
    ap answered (sym (ap (take size) w ∙ take_at bytes (drop (length bytes) answer) size long))
