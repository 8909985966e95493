use Rattle.std.proofs.Common.{arith}
use Rattle.std.proofs.lemmas.Grind.{common_steps}
use Rattle.gate.proofs.Tables.{gates_most}
use Rattle.gate.proofs.gate_tables.gate_table.Goals as goal

pub slice_bounds-room-end : goal.slice_bounds-room-end
slice_bounds-room-end c = rw c.table-gates.ensures (gates_most c.args.k c.args.w c.requires.0.1 c.requires.1.1)

pub slice_bounds-copy_from_slice-end : goal.slice_bounds-copy_from_slice-end
slice_bounds-copy_from_slice-end c =
    let most = gates_most c.args.k c.args.w c.requires.0.1 c.requires.1.1 in
    grind (arith, common_steps)

pub copy_from_slice-requires : goal.copy_from_slice-requires
copy_from_slice-requires c =
    let most = gates_most c.args.k c.args.w c.requires.0.1 c.requires.1.1 in
    grind (arith, common_steps)
