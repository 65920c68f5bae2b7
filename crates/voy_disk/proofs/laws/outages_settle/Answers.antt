use Rattle.voy_disk.specs.OutageLaws.{outage_settles}
use Rattle.voy_disk.proofs.laws.outages_settle.Goals as goal

pub returns-clause-settled : goal.returns-clause-settled
returns-clause-settled c = λ old new outage. outage_settles outage
