use Rattle.voy_tables.specs.RowTextLaws.{row_lines-append}
use Rattle.voy_tables.proofs.laws.row_texts_join.Goals as goal

pub returns : goal.returns
returns c = row_lines-append
