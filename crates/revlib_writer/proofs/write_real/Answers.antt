use Rattle.std.proofs.Common.{sym, arith}
use Rattle.revlib_writer.proofs.Texts.{wrote}
use Rattle.revlib_writer.proofs.write_real.Goals as goal

pub returns-clause-out_after : goal.returns-clause-out_after
returns-clause-out_after c = wrote c.args.circuit.now c.args.out.now (sym c.in_ok-check_text.ensures) (omega (arith, c.text_size-needed.ensures)) _ _ c.put_real.ensures
