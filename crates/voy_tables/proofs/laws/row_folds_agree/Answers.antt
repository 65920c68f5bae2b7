use Rattle.voy_tables.proofs.DoneLemmas.{rows_are_done}
use Rattle.voy_tables.proofs.laws.row_folds_agree.Goals as goal

pub returns : goal.returns
returns c = rows_are_done
