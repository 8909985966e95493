-- Each constant is the list that the definition gives, by computing.
use Rattle.std.proofs.Common.{refl, sym, arith}
use Rattle.std.specs.Int.Count.{ones, ones_in}
use Rattle.gate.specs.Gates.{gates_for, lawful}
use Rattle.gate.proofs.Tables.{table_is, on_three}
use Rattle.gate.proofs.gate_tables.table.Goals as goal

pub returns-in_default-eq3 : goal.returns-in_default-eq3
unfolding gates_for lawful ones ones_in
returns-in_default-eq3 c = table_is c.args.k _ refl c.in_default-eq3.is-1 (sym (on_three c.args.k (omega arith) (omega arith)))

pub returns-in-2-eq4 : goal.returns-in-2-eq4
unfolding gates_for lawful ones ones_in
returns-in-2-eq4 c = table_is _ _ c.in-2-eq4.is-0 c.in-2-eq4.is-1 refl

pub returns-in_default-eq4 : goal.returns-in_default-eq4
unfolding gates_for lawful ones ones_in
returns-in_default-eq4 c = table_is c.args.k c.args.w {k' = 3} (omega arith) c.in_default-eq4.is-1 refl

pub returns-in-2-default : goal.returns-in-2-default
unfolding gates_for lawful ones ones_in
returns-in-2-default c = table_is c.args.k c.args.w {w' = 5} c.in-2-default.is-0 (omega arith) refl

pub returns-in_default : goal.returns-in_default
unfolding gates_for lawful ones ones_in
returns-in_default c = table_is c.args.k c.args.w {k' = 3} {w' = 5} (omega arith) (omega arith) refl
