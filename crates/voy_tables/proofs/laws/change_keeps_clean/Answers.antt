use Rattle.voy_tables.specs.CleanLaws.{change_keeps_clean}
use Rattle.voy_tables.proofs.laws.change_keeps_clean.Goals as goal

pub returns : goal.returns
returns c = change_keeps_clean
