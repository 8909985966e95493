-- The incumbent that the code keeps, as the choice that it stands for: what a struct `Best` or `Held` means in a contract.
use Rattle.std.proofs.Math.Option.{none, some}
use Rattle.std.proofs.Math.Option as maybe
use Rattle.std.specs.Prelude.{Option}
use Rattle.std.specs.Prelude.{take, Some, None}
use Rattle.problem.specs.order.Choices.{Choice}
use Rattle.problem.specs.declared.order.Best.{Best}
use Rattle.problem.specs.declared.order.Held.{Held}

-- the choice that an incumbent stands for; bytes of the path past its length do not matter
unfoldable pub choice : Best → Choice
choice b = record { cost = b.cost; gates = b.len; depth = b.depth; layout = b.layout; bytes = take b.len b.path }

-- the same of a circuit of any length
unfoldable pub held_choice : Held → Choice
held_choice h = record { cost = h.cost; gates = h.len; depth = h.depth; layout = h.layout; bytes = take h.len h.path }

-- the incumbent: none until a circuit was found
unfoldable pub view : Option Best → maybe.Option Choice
view None = none
view (Some b) = some (choice b)

-- the same of any type whose values stand for choices: `view` is `viewed choice`
unfoldable pub viewed : {A : Type 0} → (A → Choice) → Option A → maybe.Option Choice
viewed f None = none
viewed f (Some a) = some (f a)
