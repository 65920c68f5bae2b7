use Rattle.std.proofs.Common.{◌≡◌, ◌<◌, get_or, length, ◌∙◌}
use Rattle.voy_contents.specs.TableLaws.{tables_are_clean}
use Rattle.voy_contents.specs.Tables.{lists_in, schema_in}
use Rattle.voy_report.specs.ShowLaws.{part_moved, tables_text_turn}
use Rattle.voy_command.proofs.commands.dry_run.print.append_tables.Goals as goal

pub loop-place-preserved : goal.loop-place-preserved
loop-place-preserved c =
    let tables = c.args.tables.now in
    let same = c.as_slice-table-items.ensures ∙ c.schema-schema.ensures in
    let within : c.loop-place.place < length (schema_in tables) = rw (← same) c.loop-place-test.true in
    let is : c.table-item.result ≡ get_or (schema_in tables) c.loop-place.place c.table-item.result = rw (← same) c.table-item.is in
    let turn = tables_text_turn (schema_in tables) (lists_in tables) c.loop-place.place c.table-item.result (tables_are_clean tables).stand within is in
    part_moved _ _ _ _ _ _ c.loop-place.invariant turn c.in_ok-append_table.ensures
