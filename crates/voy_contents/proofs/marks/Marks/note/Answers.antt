use Rattle.std.proofs.Common.{Some, length, refl, sym}
use Rattle.std.proofs.lemmas.Bool.{ltb-true}
use Rattle.voy_contents.proofs.ListLemmas.{get_at}
use Rattle.voy_contents.proofs.MarkLemmas.{batch_noted, epoch_noted, events_noted}
use Rattle.voy_contents.proofs.marks.Marks.note.Goals as goal

pub returns-in-Batch-clause-noted : goal.returns-in-Batch-clause-noted
returns-in-Batch-clause-noted c = λ lists.
    let marks = c.args.self.now in
    let named = rw c.in-Batch.is at c.requires.names in
    rw c.in-Batch.is (batch_noted lists marks c.in-Batch.table c.in-Batch.number c.in-Batch.rows c.item_mut.result.now c.add_batch.new.self named
    (get_at marks.tables c.in-Batch.table c.item_mut.result.now (ltb-true c.in-Batch.table (length marks.tables) named) c.item_mut.ensures.value)
    c.add_batch.ensures.batches (rw (sym c.len-rows.ensures) c.add_batch.ensures.batch_rows) c.add_batch.ensures.changes)

pub returns-in-Events-clause-noted : goal.returns-in-Events-clause-noted
returns-in-Events-clause-noted c = λ lists.
    rw c.in-Events.is (events_noted lists c.args.self.now
    (record { vsns = c.raise.new.vsns; channels = c.args.self.now.channels; loaded = c.args.self.now.loaded; tables = c.count_changes.new.tables }) c.in-Events.channel c.in-Events.items refl refl
    (rw c.as_slice.ensures at c.raise.ensures) (rw c.as_slice-in-Events.ensures at c.count_changes.ensures))

pub returns-in-Epoch-clause-noted : goal.returns-in-Epoch-clause-noted
returns-in-Epoch-clause-noted c = λ lists.
    rw c.in-Epoch.is (epoch_noted lists c.args.self.now
    (record { vsns = c.set_all.new.self; channels = Some c.in-Epoch.channels; loaded = c.args.self.now.loaded; tables = c.args.self.now.tables }) c.in-Epoch.vsn c.in-Epoch.channels refl refl refl c.set_all.ensures)
