use Rattle.std.proofs.Common.{◌≡◌, take}
use Rattle.voy_tables.specs.RowText.{row_lines}
use Rattle.voy_export.proofs.tables.rows_text.Given as goal

abbrev pub invariant-loop-row : goal.invariant-loop-row
invariant-loop-row l = l.text ≡ row_lines (take l.row-index l.rows)
