use Rattle.voy_tables.proofs.RowLineLemmas.{rows_behind}
use Rattle.voy_tables.proofs.laws.cut_rows_are_the_next.Goals as goal

pub returns : goal.returns
returns c = rows_behind
