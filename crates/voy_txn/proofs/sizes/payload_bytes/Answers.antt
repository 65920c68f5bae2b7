use Rattle.std.proofs.Common.{arith}
use Rattle.voy_txn.specs.SizeLaws.{payload_has_size}
use Rattle.voy_txn.specs.declared.txn.Txn.TheVariants.{Load, Batch, Events, Epoch}
use Rattle.voy_txn.proofs.sizes.payload_bytes.Goals as goal

pub returns-in_ok-parts-in-Load : goal.returns-in_ok-parts-in-Load
returns-in_ok-parts-in-Load c =
    let parts = rw c.as_slice.ensures at c.in_ok-parts-in-Load.ensures in
    rw (c.in-Load.is, payload_has_size c.args.schema.now.tables (Load c.in-Load.tables)) (omega (arith, c.saturating_add.ensures, parts))

pub returns-in_ok-part-in-Batch : goal.returns-in_ok-part-in-Batch
returns-in_ok-part-in-Batch c =
    let part = rw c.as_slice-in-Batch.ensures at c.in_ok-part-in-Batch.ensures in
    rw (c.in-Batch.is, payload_has_size c.args.schema.now.tables (Batch c.in-Batch.table c.in-Batch.number c.in-Batch.rows))
    (omega (arith, c.saturating_add-in-Batch.ensures, part))

pub returns-in_ok-parts-in-Events : goal.returns-in_ok-parts-in-Events
returns-in_ok-parts-in-Events c =
    let parts = rw c.as_slice-in-Events.ensures at c.in_ok-parts-in-Events.ensures in
    rw (c.in-Events.is, payload_has_size c.args.schema.now.tables (Events c.in-Events.channel c.in-Events.items))
    (omega (arith, c.saturating_add-in-Events.ensures, parts))

pub returns-in-Epoch : goal.returns-in-Epoch
returns-in-Epoch c = rw (c.in-Epoch.is, payload_has_size c.args.schema.now.tables (Epoch c.in-Epoch.vsn c.in-Epoch.channels)) (omega arith)
