use Rattle.std.proofs.Common.{arith}
use Rattle.voy_txn.proofs.PayloadLemmas.{reading_again, reading_takes}
use Rattle.voy_txn.proofs.reading.read_txn.Goals as goal

pub returns-in-Ok-clause-some : goal.returns-in-Ok-clause-some
returns-in-Ok-clause-some c =
    reading_takes c.rows_read_back.ensures c.args.schema.now.tables c.args.bytes.now c.in-Ok.txn c.args.schema.now.lawful (λ i. omega (arith, c.type_inv.bytes i)) c.in-Ok.ensures

pub returns-in-Err-NoPayload-clause-none : goal.returns-in-Err-NoPayload-clause-none
returns-in-Err-NoPayload-clause-none c = λ txn is.
    let read = reading_again c.rows_read_back.ensures c.events_read_back.ensures c.args.schema.now.tables c.args.bytes.now txn c.args.schema.now.lawful is in
    let none = rw c.in-Err-NoPayload.field-0-is at c.in-Err-NoPayload.ensures in
    cc
