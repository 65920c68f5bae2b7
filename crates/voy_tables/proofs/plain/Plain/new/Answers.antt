use Rattle.std.proofs.Common.{◌∙◌}
use Rattle.std.proofs.lemmas.List.{take_all}
use Rattle.voy_tables.proofs.TableLemmas.{are_tables-empty}
use Rattle.voy_tables.proofs.plain.Plain.new.Goals as goal

pub invariant_of-result : goal.invariant_of-result
invariant_of-result c =
    let whole = take_all _ _ c.loop-table-test.false ∙ c.as_slice-table-items.ensures in
    record { stands = rw (c.loop-table.invariant, whole) (are_tables-empty c.args.schema.tables) }
