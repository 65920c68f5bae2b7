use Rattle.std.proofs.Common.{◌≡◌, ◌++◌, drop}
use Rattle.voy_contents.specs.Tables.{lists_in, schema_in}
use Rattle.voy_report.specs.Show.{tables_text}
use Rattle.voy_command.proofs.commands.dry_run.print.append_tables.Given as goal

abbrev pub invariant-loop-place : goal.invariant-loop-place
invariant-loop-place l =
    l.fn.to ++ tables_text (schema_in l.tables) (lists_in l.tables)
    ≡ l.to ++ tables_text (drop l.place (schema_in l.tables)) (drop l.place (lists_in l.tables))
