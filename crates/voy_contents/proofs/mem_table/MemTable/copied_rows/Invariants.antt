use Rattle.std.proofs.Common.{◌≡◌, ◌++◌}
use Rattle.std.specs.List.{filter_map}
use Rattle.voy_contents.specs.MemTables.{rows_of}
use Rattle.voy_contents.proofs.mem_table.MemTable.copied_rows.Given as goal

abbrev pub invariant-loop-row : goal.invariant-loop-row
invariant-loop-row l = l.rows ++ filter_map (λ row. row) l.row-iterator ≡ rows_of l.self.rows
