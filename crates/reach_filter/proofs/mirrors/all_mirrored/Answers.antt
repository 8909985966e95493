use Rattle.std.proofs.Common.{◌≡◌, true, ℕ, arith, rules, tests}
use mathlib.Core.List.{Memᴰ}
use Rattle.std.proofs.lemmas.Bool.Decides.{when_true}
use Rattle.std.proofs.lemmas.Iterator.{cases_from_all, YieldsList-from_slice}
use Rattle.reach_filter.specs.mirrors.Mirrors.{mirrors}
use Rattle.reach_filter.proofs.mirrors.all_mirrored.Goals as goal

pub returns : goal.returns
returns c =
    λ e i h.
    when_true _ _ e (cases_from_all _ _ _ (λ g. (h : ℕ) × (Memᴰ h c.args.gates.now × (mirrors c.args.n c.args.p g h ≡ true))) (λ g. Unit {0}) c.all.ensures.ran (YieldsList-from_slice c.args.gates.now cc) (λ x q k. search (rules, tests)) (λ x q k. search (rules, tests)))
    i 0 (omega arith) h
