use Rattle.voy_tables.proofs.DoneLemmas.{is_done}
use Rattle.voy_tables.proofs.laws.lists_are_tables.Goals as goal

pub returns : goal.returns
returns c = is_done
