use Rattle.std.proofs.Common.{◌≡◌, ◌≤◌, drop}
use Rattle.std.specs.Prelude.{nat_lt}
use Rattle.voy_tables.proofs.SizeLemmas.{fields_size}
use Rattle.voy_tables.specs.RowText.{is_too_long, max_row_text_bytes}
use Rattle.voy_tables.proofs.row_size.row_text_is_too_long.Given as goal

abbrev pub invariant-loop-value : goal.invariant-loop-value
invariant-loop-value l = record {
  bound : l.left ≤ max_row_text_bytes;
  same : is_too_long l.row ≡ nat_lt l.left (fields_size (drop l.value-index l.value-items));
}
