use Rattle.voy_tables.proofs.DoneLemmas.{look-empty}
use Rattle.voy_tables.proofs.laws.empty_lists_have_no_rows.Goals as goal

pub returns : goal.returns
returns c = look-empty
