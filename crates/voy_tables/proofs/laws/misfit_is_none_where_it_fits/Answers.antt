use Rattle.voy_tables.proofs.FitLemmas.{none_exactly_where_it_fits}
use Rattle.voy_tables.proofs.laws.misfit_is_none_where_it_fits.Goals as goal

pub returns : goal.returns
returns c = none_exactly_where_it_fits
