use Rattle.voy_txn.proofs.PayloadLemmas.{one_transaction}
use Rattle.voy_txn.proofs.laws.payloads_read_back.Goals as goal

pub returns : goal.returns
returns c = one_transaction c.rows_read_back.ensures c.events_read_back.ensures
