use Rattle.std.proofs.Common.{◌-◌, length, arith}
use Rattle.revlib_reader.proofs.gate_words.Letters.{byte_of}
use Rattle.revlib_reader.proofs.gate_words.gate_byte.Goals as goal

pub loop-x-init : goal.loop-x-init
loop-x-init c =
    let e = byte_of c.args.letters.now c.args.line.now (length c.args.line.now - 1) (omega arith) in
    record { owed = omega (arith, c.wire_of-byte.ensures.value, e); bound = omega arith }
