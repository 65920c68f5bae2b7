use Rattle.voy_command.proofs.ValidLaws as law
use Rattle.voy_command.proofs.laws.valid_streams_fold.Goals as goal

pub returns : goal.returns
returns c = law.valid_streams_fold c.lists_are_tables.ensures c.misfit_is_none_where_it_fits.ensures c.empty_lists_have_no_rows.ensures
