use Rattle.std.proofs.Common.{◌≡◌, ◌++◌, drop}
use Rattle.voy_tables.specs.RowText.{row_lines}
use Rattle.voy_txn.proofs.rows.rows_text.Given as goal

abbrev pub invariant-loop-row : goal.invariant-loop-row
invariant-loop-row l = l.text ++ row_lines (drop l.row-index l.rows) ≡ row_lines l.rows
