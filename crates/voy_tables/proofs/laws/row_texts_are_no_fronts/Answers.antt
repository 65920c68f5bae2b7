use Rattle.voy_tables.proofs.RowLineLemmas.{row_lines-apart}
use Rattle.voy_tables.proofs.laws.row_texts_are_no_fronts.Goals as goal

pub returns : goal.returns
returns c = row_lines-apart
