use Rattle.std.proofs.Common.{◌≡◌, ◌+◌, ◌<◌, length}
use Rattle.std.specs.List.{filter_map}
use Rattle.std.specs.Prelude.{◌^◌}
use Rattle.voy_contents.specs.MemTables.{rows_of}
use Rattle.voy_txn.specs.History.{counted}
use Rattle.voy_contents.proofs.mem_table.MemTable.count.Given as goal

abbrev pub invariant-loop-row : goal.invariant-loop-row
invariant-loop-row l = (l.count < 2 ^ 64) × (counted (l.count + length (filter_map (λ row. row) l.row-iterator)) ≡ counted (length (rows_of l.self.rows)))
