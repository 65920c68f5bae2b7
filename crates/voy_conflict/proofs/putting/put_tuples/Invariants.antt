use Rattle.std.specs.Prelude.{is_some}
use Rattle.std.specs.List.{filter, range_with_len}
use Rattle.voy_tables.specs.Changes.{row_change}
use Rattle.voy_order.specs.Conflicts.{released}
use Rattle.voy_conflict.specs.Filing.{Puts}
use Rattle.voy_conflict.proofs.putting.put_tuples.Given as goal

abbrev pub invariant-loop-unique : goal.invariant-loop-unique
invariant-loop-unique l =
    Puts l.schema.tables (row_change l.schema.tables l.change) l.at l.lane
    (filter (λ unique. is_some (released l.schema.tables unique (row_change l.schema.tables l.change))) (range_with_len 0 l.unique)) l.fn.entries l.entries
