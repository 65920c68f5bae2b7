use Rattle.std.proofs.Common.{arith}
use Rattle.voy_txn.proofs.PayloadLemmas.{load_count}
use Rattle.voy_txn.proofs.writing.payload_of.Goals as goal

pub overflow_cast-len : goal.overflow_cast-len
overflow_cast-len c =
    let few = load_count c.args.schema.now.tables c.in-Load.tables c.args.schema.now.lawful (rw c.in-Load.is at c.requires) in
    omega (arith, few, c.len.ensures)
