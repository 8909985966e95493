use mathlib.Core.Path.{◌≡◌, ap, ◌∙◌}
use mathlib.Core.List.{[], ◌∷◌, ◌++◌}
use Prim.Native.Nat.{◌<◌}
use native.Mathlib.Omega.{arith}
use borrow.Author.Tests.{leb-false}
use Rattle.gate.specs.declared.Gate.{Gate}
use Rattle.circuit.specs.Measure.{depth, greatest, hold}
use Rattle.walk.specs.node.States.{list_of}
use Rattle.walk.proofs.node.Nodes.{depth_after}
use Rattle.walk.proofs.skip.in_time.Goals as goal

pub returns : goal.returns
returns c =
    λ f P asks at is.
    let times = c.hold-later.ensures ∙ ap (λ (g : Gate). hold g c.args.entry.duration c.args.s.times) c.decode.ensures in
    let late : c.args.task.depth_limit < c.latest.result = leb-false _ _ f in
    let deep : c.latest.result ≡ depth P.duration (list_of c.args.s ++ (c.args.entry.gate ∷ [])) = c.latest.ensures ∙ ap greatest times ∙ depth_after P c.args.s c.args.entry at is in
    omega (arith, asks.deep)
