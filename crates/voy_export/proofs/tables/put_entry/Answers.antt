use Rattle.voy_export.proofs.SnapshotAdds.{one_snapshot}
use Rattle.voy_meta.specs.Meta.{meta_state}
use Rattle.voy_export.proofs.tables.put_entry.Goals as goal

pub returns-in-Ok-clause-adds : goal.returns-in-Ok-clause-adds
returns-in-Ok-clause-adds g c =
    one_snapshot (meta_state c.args.meta.now) (meta_state c.put.new.self) c.args.entry c.requires.kind c.requires.allowed c.in-Ok.ensures.state
