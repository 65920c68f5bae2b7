use Rattle.voy_txn.proofs.RowLemmas.{loaded_at}
use Rattle.voy_txn.proofs.writing.push_lists.Goals as goal

pub push_rows-requires-clause-count : goal.push_rows-requires-clause-count
push_rows-requires-clause-count c =
    rw c.as_slice.ensures (loaded_at c.args.schema.now.tables c.args.lists.now c.loop-rows.rows-index c.rows-item.result c.requires c.loop-rows-test.true c.rows-item.is).0

pub push_rows-requires-clause-bytes : goal.push_rows-requires-clause-bytes
push_rows-requires-clause-bytes c =
    rw c.as_slice.ensures (loaded_at c.args.schema.now.tables c.args.lists.now c.loop-rows.rows-index c.rows-item.result c.requires c.loop-rows-test.true c.rows-item.is).1
