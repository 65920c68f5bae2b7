use Rattle.voy_txn.proofs.PayloadLemmas.{reading_again, reading_takes}
use Rattle.voy_txn.proofs.laws.payloads_have_readings.Goals as goal

pub returns-clause-payloads : goal.returns-clause-payloads
returns-clause-payloads c = reading_again c.rows_read_back.ensures c.events_read_back.ensures

pub returns-clause-readings : goal.returns-clause-readings
returns-clause-readings c = reading_takes c.rows_read_back.ensures
