use Rattle.voy_feed.proofs.KeptLemmas.{go_on}
use Rattle.voy_feed.proofs.laws.kept_go_on.Goals as goal

pub returns : goal.returns
returns c = go_on
