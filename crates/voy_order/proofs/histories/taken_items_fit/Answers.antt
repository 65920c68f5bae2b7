use Rattle.voy_order.proofs.StandingListLemmas.{taken_law}
use Rattle.voy_order.proofs.histories.taken_items_fit.Goals as goal

pub returns : goal.returns
returns c = taken_law c.folds_agree.ensures c.empty_lists_have_no_rows.ensures c.lists_are_tables.ensures c.misfit_is_none_where_it_fits.ensures
