use Rattle.voy_meta.proofs.PutRecords.{queue_records_say, snapshots_are_missing}
use Rattle.voy_meta.proofs.state_laws.records_say.Goals as goal

pub returns : goal.returns
returns c = record { queue = queue_records_say; snapshot = snapshots_are_missing }
