use Rattle.std.specs.Prelude.{slice_get}
use Rattle.std.proofs.Common.{ap, ◌∙◌}
use Rattle.voy_tables.specs.Changes.{row_change}
use Rattle.voy_order.specs.Conflicts.{unique_keys_in}
use Rattle.voy_conflict.proofs.PutLemmas.{puts_all, puts_more, room_left}
use Rattle.voy_conflict.proofs.putting.put_tuples.Goals as goal

pub put_tuple-requires-clause-spare : goal.put_tuple-requires-clause-spare
put_tuple-requires-clause-spare c =
    room_left c.args.schema.now.tables (row_change c.args.schema.now.tables c.args.change.now) c.args.at c.args.lane c.args.entries.now c.loop-unique.entries
    c.loop-unique.unique c.unique_keys_of-unique-end.result c.loop-unique-test.true
    (c.unique_keys_of-unique-end.ensures.count ∙ ap (λ table. unique_keys_in (slice_get c.args.schema.now.tables table)) c.table.ensures)
    c.requires.spare c.loop-unique.invariant

pub loop-unique-preserved : goal.loop-unique-preserved
loop-unique-preserved c =
    puts_more c.args.schema.now.tables (row_change c.args.schema.now.tables c.args.change.now) c.args.at c.args.lane c.args.entries.now c.loop-unique.entries
    c.put_tuple.new.entries c.loop-unique.unique c.loop-unique.invariant c.put_tuple.ensures

pub returns : goal.returns
returns c =
    puts_all c.args.schema.now.tables (row_change c.args.schema.now.tables c.args.change.now) c.args.at c.args.lane c.args.entries.now c.loop-unique.entries
    c.loop-unique.unique c.unique_keys_of-unique-end.result c.loop-unique-test.false c.loop-unique.auto.unique-end
    (c.unique_keys_of-unique-end.ensures.count ∙ ap (λ table. unique_keys_in (slice_get c.args.schema.now.tables table)) c.table.ensures)
    c.loop-unique.invariant
