use Rattle.std.proofs.Common.{◌≡◌, ◌+◌, length}
use Rattle.voy_tables.proofs.ReadingLemmas.{rows_then}
use Rattle.voy_tables.specs.Readings.{fields_at, record_reading, records_reading}
use Rattle.voy_tables.proofs.reading.read_records.Given as goal

abbrev pub invariant-loop-rows : goal.invariant-loop-rows
invariant-loop-rows l =
    records_reading (record_reading l.table (fields_at l.places)) l.first l.initial.records
    ≡ rows_then l.rows (records_reading (record_reading l.table (fields_at l.places)) (l.first + length l.rows) l.records)

abbrev pub decreases-loop-rows : goal.decreases-loop-rows
decreases-loop-rows l = length l.records
