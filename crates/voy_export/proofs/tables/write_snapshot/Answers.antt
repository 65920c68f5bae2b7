use Rattle.voy_export.proofs.SnapshotWrites.{none_beside}
use Rattle.voy_export.proofs.tables.write_snapshot.Goals as goal

pub returns-in_err-text-clause-others : goal.returns-in_err-text-clause-others
returns-in_err-text-clause-others g c = none_beside c.args.schema.now.tables _

pub returns-then-len-gt-MAX_SNAPSHOT_BYTES-clause-others : goal.returns-then-len-gt-MAX_SNAPSHOT_BYTES-clause-others
returns-then-len-gt-MAX_SNAPSHOT_BYTES-clause-others g c = none_beside c.args.schema.now.tables _

pub returns-in_err-file-clause-others : goal.returns-in_err-file-clause-others
returns-in_err-file-clause-others g c = none_beside c.args.schema.now.tables _
