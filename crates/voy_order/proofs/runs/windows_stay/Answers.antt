use Rattle.voy_order.proofs.WindowLemmas.{windows_stay_so}
use Rattle.voy_order.proofs.runs.windows_stay.Goals as goal

pub returns : goal.returns
returns c = windows_stay_so
