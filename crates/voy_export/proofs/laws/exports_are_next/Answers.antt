use Rattle.voy_export.proofs.NextLemmas.{exports_are_next}
use Rattle.voy_export.proofs.laws.exports_are_next.Goals as goal

pub returns : goal.returns
returns c = exports_are_next c.kept_go_on.ensures
