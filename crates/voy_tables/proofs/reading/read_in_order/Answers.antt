use Rattle.std.proofs.Common.{length, ap, ◌∙◌}
use Rattle.std.specs.List.{range_with_len}
use Rattle.std.proofs.lemmas.List.FromFn.{length-range_with_len}
use Rattle.voy_tables.proofs.ReadingLemmas.{records_reading-in_order}
use Rattle.voy_tables.proofs.reading.read_in_order.Goals as goal

pub read_records-requires-clause-places : goal.read_records-requires-clause-places
read_records-requires-clause-places c =
    ap length (c.as_slice.ensures ∙ c.in_ok-places.ensures ∙ ap (range_with_len 0) c.len.ensures) ∙ length-range_with_len 0 (length c.args.table.now.columns)

pub returns-clause-ok : goal.returns-clause-ok
returns-clause-ok c =
    let order = c.as_slice.ensures ∙ c.in_ok-places.ensures ∙ ap (range_with_len 0) c.len.ensures in
    rw (← records_reading-in_order c.args.table.now c.as_slice.result.now 1 c.new-records.result _ order c.new-records.ensures) c.read_records.ensures.ok

pub returns-clause-err : goal.returns-clause-err
returns-clause-err c =
    let order = c.as_slice.ensures ∙ c.in_ok-places.ensures ∙ ap (range_with_len 0) c.len.ensures in
    rw (← records_reading-in_order c.args.table.now c.as_slice.result.now 1 c.new-records.result _ order c.new-records.ensures) c.read_records.ensures.err
