use Rattle.std.proofs.Common.{◌++◌, sym, ap, ◌∙◌, append_assoc, take}
use Rattle.voy_tables.specs.RowText.{row_lines}
use Rattle.voy_tables.specs.RowText.{row_line}
use Rattle.voy_report.proofs.Texts.{row_lines_more}
use Rattle.voy_report.proofs.show.append_rows.Goals as goal

pub loop-row-preserved : goal.loop-row-preserved
loop-row-preserved c =
    c.in_ok-write_row.ensures.ok
    ∙ ap (λ t. t ++ row_line c.row-item.result) c.loop-row.invariant
    ∙ append_assoc c.args.to.now (row_lines (take c.loop-row.row-index c.args.rows.now)) (row_line c.row-item.result)
    ∙ ap (λ t. c.args.to.now ++ t) (sym (row_lines_more _ _ _ c.loop-row-test.true c.row-item.is))
