-- Both lists' gates and costs, the new list and a line feed, each written after the last.
use native.Mathlib.Omega.{arith}
use lib.ListN.{length}
use Rattle.logic.specs.Words.{bytes}
use Rattle.text.specs.pieces.Writing.{Wrote}
use Rattle.text.proofs.pieces.Pieces.{more, line_size, line_in_front, hex_length}
use Rattle.printed.specs.rewriting.Rewriting.{rewritten_text}
use Rattle.printed.proofs.rewriting.Printed.{count_short, text_short}
use Rattle.printed.proofs.rewriting.put_rewritten.Goals as goal

pub put_counts-b-requires-clause-i_in_bounds : goal.put_counts-b-requires-clause-i_in_bounds
put_counts-b-requires-clause-i_in_bounds c = omega (arith, count_short (bytes "before ") c.args.count c.args.cost)

pub put_hex-c-requires : goal.put_hex-c-requires
put_hex-c-requires c =
    omega (
      arith,
      count_short (bytes "before ") c.args.count c.args.cost,
      count_short (bytes "after ") (length c.args.new.now) c.list_cost.result,
    )

pub put-requires : goal.put-requires
put-requires c =
    omega (
      arith,
      count_short (bytes "before ") c.args.count c.args.cost,
      count_short (bytes "after ") (length c.args.new.now) c.list_cost.result,
      hex_length c.args.new.now,
    )

pub returns : goal.returns
unfolding rewritten_text
returns c =
    let w : Wrote c.args.out.now 0 (rewritten_text c.args.count c.args.cost c.args.prices c.args.new.now) c.put.new.out c.put.result
    = rw (← c.list_cost.ensures) (more c.put_counts-a.ensures (more c.put_counts-b.ensures (more c.put_hex-c.ensures c.put.ensures))) in
    let short = text_short c.args.count c.args.cost c.args.prices c.args.new.now c.requires.len_bound in
    record {
      value = line_size w;
      upper_bound = omega (arith, line_size w);
      out_after = line_in_front w (omega (arith, c.requires.in_bounds));
    }
