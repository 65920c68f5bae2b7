use Rattle.std.proofs.Common.{◌≡◌, ◌+◌, ◌<◌, ◌^◌, drop, length}
use Rattle.voy_tables.specs.RowText.{row_lines}
use Rattle.voy_txn.specs.History.{counted}
use Rattle.voy_txn.proofs.sizes.texts_bytes.Given as goal

abbrev pub invariant-loop-row : goal.invariant-loop-row
invariant-loop-row l = (l.bytes < 2 ^ 64) × (counted (l.bytes + length (row_lines (drop l.row-index l.rows))) ≡ counted (length (row_lines l.rows)))
