use Rattle.voy_order.proofs.FileLemmas.{files_law}
use Rattle.voy_order.proofs.histories.files_may_be_made.Goals as goal

pub returns : goal.returns
returns c = files_law
