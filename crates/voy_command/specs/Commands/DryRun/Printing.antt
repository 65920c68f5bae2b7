-- What a dry run prints of its fold.
use Rattle.std.specs.Prelude.{ℕ, List, ◌++◌}
use Rattle.voy_contents.specs.Tables.{lists_in, schema_in}
use Rattle.voy_report.specs.Show.{tables_text}
use Rattle.voy_command.specs.Commands.DryRun.Outcome.{import_line}
use Rattle.voy_command.specs.declared.commands.dry_run.fold.Fold.{Fold}

abbrev pub fold_text : Fold → List ℕ
fold_text f = tables_text (schema_in f.tables) (lists_in f.tables) ++ import_line f.ended f.last
