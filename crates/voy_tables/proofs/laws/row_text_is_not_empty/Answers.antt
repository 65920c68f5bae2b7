use Rattle.voy_tables.specs.RowTextLaws.{row_line-some}
use Rattle.voy_tables.proofs.laws.row_text_is_not_empty.Goals as goal

pub returns : goal.returns
returns c = row_line-some
