use Rattle.std.proofs.Common.{sym, ◌∙◌, ap, drop, Some, arith}
use Rattle.revlib_reader.proofs.reader.Bodies.{line_size}
use Rattle.revlib_reader.proofs.reader.Reader.next.Goals as goal

pub overflow_add-self : goal.overflow_add-self
overflow_add-self c =
    let is = sym c.line_at.ensures ∙ c.in_ok-line.was ∙ ap Some c.in-Gate.is in
    omega (arith, line_size _ (drop c.args.self.now.at c.args.self.now.src.now) _ _ is)
