use Rattle.voy_link.proofs.Looking.{item_there}
use Rattle.voy_link.proofs.nodes.Nodes.item.Goals as goal

pub returns : goal.returns
returns g c = λ b l ns held some. item_there c.args.self.now.slots.items ns c.args.id c.slot.result held.laid some c.slot.ensures
