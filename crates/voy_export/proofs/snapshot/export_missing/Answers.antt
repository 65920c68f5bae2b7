use Rattle.std.proofs.Common.{◌<◌, arith, length, ap, subst}
use Rattle.voy_disk.specs.Images.{now_image}
use Rattle.voy_export.specs.Snapshots.{ComesTo}
use Rattle.voy_export.proofs.SnapshotLoop.{from_first}
use Rattle.voy_export.proofs.SnapshotWrites.{none_beside}
use Rattle.voy_meta.specs.Meta.{meta_state}
use Rattle.voy_meta.specs.declared.state.MetaState.{MetaState}
use Rattle.voy_export.proofs.snapshot.export_missing.Goals as goal

pub returns-then-len-clause-comes : goal.returns-then-len-clause-comes
returns-then-len-clause-comes g c = λ fs is.
    let schema = c.args.schema.now.tables in
    let old = meta_state c.args.meta.now in
    let below : length old.snapshots < length schema = omega (arith, c.if-len.true, c.len.ensures, c.len-2.ensures, ap (λ (s : MetaState). length s.snapshots) c.state.ensures) in
    subst (λ end. ComesTo schema (now_image fs) end c.export_tables.result old (meta_state c.export_tables.new.meta) (g.D.Disk.files c.args.export.now) (g.D.Disk.files c.export_tables.new.export))
    (from_first schema (now_image fs) (length old.snapshots) below) (c.export_tables.ensures.comes fs is)

pub returns-else-len-clause-others : goal.returns-else-len-clause-others
returns-else-len-clause-others g c = none_beside c.args.schema.now.tables _
