use Rattle.std.proofs.Common.{◌≡◌, [], map, take}
use Rattle.voy_schema.specs.declared.table.UniqueKey.{UniqueKey}
use Rattle.voy_contents.proofs.mem_table.MemTable.new.Given as goal

abbrev pub invariant-loop-unique : goal.invariant-loop-unique
invariant-loop-unique l = l.indexes ≡ map (λ (unique : UniqueKey). []) (take l._unique-index l._unique-items)
