use Rattle.std.proofs.Common.{◌++◌, ap, sym, ◌∙◌}
use Rattle.voy_tables.specs.RowText.{row_line}
use Rattle.voy_export.proofs.SnapshotTexts.{lines_more}
use Rattle.voy_export.proofs.tables.rows_text.Goals as goal

pub loop-row-preserved : goal.loop-row-preserved
loop-row-preserved c =
    c.in_ok-write_row.ensures.ok ∙ ap (λ text. text ++ row_line c.row-item.result) c.loop-row.invariant
    ∙ sym (lines_more c.args.rows.now c.loop-row.row-index c.row-item.result c.loop-row-test.true c.row-item.is)
