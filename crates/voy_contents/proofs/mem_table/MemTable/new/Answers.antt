use Rattle.std.proofs.Common.{[], ap, map, ◌∙◌}
use Rattle.std.proofs.lemmas.List.{take_all}
use Rattle.voy_schema.specs.declared.table.UniqueKey.{UniqueKey}
use Rattle.voy_contents.proofs.MemTableLemmas.{empty_stands}
use Rattle.voy_contents.proofs.mem_table.MemTable.new.Goals as goal

pub returns-clause-stands : goal.returns-clause-stands
returns-clause-stands c =
    let all = c.loop-unique.invariant ∙ ap (map (λ (unique : UniqueKey). [])) (take_all c.loop-unique._unique-index c.as_slice-unique-items.result.now c.loop-unique-test.false ∙ c.as_slice-unique-items.ensures) in
    rw (c.new-2.ensures, all) (empty_stands c.args.table.now)
