-- What a call answers: the code of the first rule broken, or a value.
use Rattle.std.specs.Prelude.{ℕ, eqb}
use Rattle.logic.specs.Rules.{pick}

pub data Answer (A : Type 0) : Type 0 where
  refused : ℕ → Answer A
  answered : A → Answer A

-- the value where the code is 0, that is where no rule is broken; else the refusal with that code
abbrev pub answer_of : {A : Type 0} → ℕ → A → Answer A
answer_of code value = pick (eqb code 0) (answered value) (refused code)
