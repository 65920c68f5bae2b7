use Rattle.voy_order.proofs.StandingListLemmas.{lists_stand_law}
use Rattle.voy_order.proofs.histories.lists_are_standing.Goals as goal

pub returns : goal.returns
returns c = lists_stand_law c.folds_agree.ensures c.empty_lists_have_no_rows.ensures
