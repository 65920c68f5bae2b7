use Rattle.voy_disk.specs.FrontLaws.{settled_front}
use Rattle.voy_disk.proofs.laws.fronts_are_settled.Goals as goal

pub returns : goal.returns
returns c = settled_front
