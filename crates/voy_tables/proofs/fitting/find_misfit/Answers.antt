use Rattle.voy_tables.specs.MisfitLaws.{unique_misfit-None}
use Rattle.voy_tables.proofs.fitting.find_misfit.Goals as goal

pub returns-in-Delete : goal.returns-in-Delete
returns-in-Delete c = rw (c.in-Delete.is, unique_misfit-None) c.find_standing_misfit.ensures
