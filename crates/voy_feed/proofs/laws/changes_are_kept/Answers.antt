use Rattle.voy_feed.proofs.KeptLemmas.{one_place_tells}
use Rattle.voy_feed.proofs.laws.changes_are_kept.Goals as goal

pub returns : goal.returns
returns c = one_place_tells
