use Rattle.std.proofs.Common.{◌≡◌}
use Rattle.std.specs.Option.{option_copied}
use Rattle.voy_contents.specs.MemTables.{AllMove, NoneTaken}
use Rattle.voy_contents.specs.Traces.{GoesBack}
use Rattle.voy_contents.proofs.mem_table.MemTable.move_tuples.Given as goal

abbrev pub invariant-loop-at : goal.invariant-loop-at
invariant-loop-at l = record {
  back : GoesBack l.table l.fn.self l.self l.fn.traces.items l.traces.items;
  rows : l.self.rows ≡ l.fn.self.rows;
  free : NoneTaken l.unique_keys (option_copied l.before) (option_copied l.after) l.at l.fn.self.indexes;
  moved : AllMove l.unique_keys (option_copied l.before) (option_copied l.after) l.at l.fn.self.indexes l.self.indexes;
}
