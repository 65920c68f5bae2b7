use Rattle.std.specs.Option.{option_copied}
use Rattle.voy_contents.specs.MemTables.{NoneTaken}
use Rattle.voy_contents.proofs.mem_table.MemTable.taken_tuple.Given as goal

abbrev pub invariant-loop-at : goal.invariant-loop-at
invariant-loop-at l = NoneTaken l.unique_keys (option_copied l.before) (option_copied l.after) l.at l.self.indexes
