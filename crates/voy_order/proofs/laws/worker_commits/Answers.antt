use Rattle.voy_order.proofs.ReachLemmas.{worker_may_commit}
use Rattle.voy_order.proofs.laws.worker_commits.Goals as goal

pub returns : goal.returns
returns c = worker_may_commit
