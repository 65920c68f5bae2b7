use Rattle.std.proofs.Common.{refl}
use Rattle.voy_link.proofs.Leaving.{held_freer}
use Rattle.voy_link.proofs.nodes.Nodes.free_place.Goals as goal

pub returns-clause-nodes : goal.returns-clause-nodes
returns-clause-nodes g c = λ b l ns held. held_freer b l c.args.self.now _ ns c.requires.wide refl refl c.put.ensures refl refl refl refl held
