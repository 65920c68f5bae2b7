use Rattle.std.proofs.Common.{◌<◌, arith, length}
use Rattle.voy_contents.proofs.ListLemmas.{get_at}
use Rattle.voy_contents.proofs.SweepLemmas.{indexes_swept, one_swept, same_said}
use Rattle.std.specs.Prelude.{slice_set}
use Rattle.voy_contents.proofs.mem_table.MemTable.sweep_tuple.Goals as goal

pub returns-then-at-len : goal.returns-then-at-len
returns-then-at-len c =
    let indexes = c.args.self.now.indexes in
    let at = c.args.unique in
    let within : at < length indexes = omega (arith, c.if-at-len.true, c.len.ensures) in
    indexes_swept c.args.self.now.rows indexes (slice_set indexes at c.sweep_tuple.new.index)
    (one_swept indexes indexes at c.item_mut.result.now c.sweep_tuple.new.index (same_said indexes) within (get_at indexes at c.item_mut.result.now within c.item_mut.ensures.value) c.sweep_tuple.ensures)
