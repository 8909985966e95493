-- Rules that can be computed: a rule is a Bool, and a list of rules gives the code of the first rule broken, or 0.
use Rattle.std.specs.Prelude.{Bool, true, false, eqb, ℕ, zero, suc, ◌+◌}

abbrev pub both : Bool → Bool → Bool
both true b = b
both false b = false

abbrev pub either : Bool → Bool → Bool
either true b = true
either false b = b

abbrev pub implies : Bool → Bool → Bool
implies true b = b
implies false b = true

-- the first value for true, the second for false
abbrev pub pick : {A : Type 0} → Bool → A → A → A
pick true a b = a
pick false a b = b

-- one rule in front of a list of rules: its code where it is broken, else the code that the rest of the list gives
abbrev pub rule : Bool → ℕ → ℕ → ℕ
rule kept code rest = pick kept rest code

-- two lists of rules, one after the other: the code of the first list or, where that is 0, of the second
abbrev pub and_then : ℕ → ℕ → ℕ
and_then code rest = pick (eqb code 0) rest code

-- f holds for every number below n
abbrev pub all_below : ℕ → (ℕ → Bool) → Bool
all_below zero f = true
all_below (suc n) f = both (f n) (all_below n f)

-- f holds for some number below n
abbrev pub some_below : ℕ → (ℕ → Bool) → Bool
some_below zero f = false
some_below (suc n) f = either (f n) (some_below n f)

-- 1 for true, 0 for false
abbrev pub bit : Bool → ℕ
bit b = pick b 1 0

-- for how many numbers below n f holds
abbrev pub count_below : ℕ → (ℕ → Bool) → ℕ
count_below zero f = 0
count_below (suc n) f = bit (f n) + count_below n f
