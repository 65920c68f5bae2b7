use Rattle.std.proofs.Common.{◌≡◌, drop}
use Rattle.voy_schema.specs.Rows.{values_at}
use Rattle.voy_order.specs.Channels.{fnv1a}
use Rattle.voy_conflict.specs.Filing.{tuple_bytes}
use Rattle.voy_conflict.proofs.filing.hash_values.Given as goal

abbrev pub invariant-loop-column : goal.invariant-loop-column
invariant-loop-column l =
    fnv1a l.start (tuple_bytes (values_at l.row l.columns)) ≡ fnv1a l.hash (tuple_bytes (values_at l.row (drop l.column-index l.columns)))
