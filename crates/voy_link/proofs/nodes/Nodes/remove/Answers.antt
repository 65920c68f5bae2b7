use Rattle.std.proofs.Common.{refl}
use Rattle.voy_link.proofs.Looking.{item_there}
use Rattle.voy_link.proofs.Leaving.{held_less}
use Rattle.voy_link.proofs.nodes.Nodes.remove.Goals as goal

pub returns-clause-item : goal.returns-clause-item
returns-clause-item g c = λ b l ns held some. item_there c.args.self.now.slots.items ns c.args.id c.slot-slot.result held.laid some c.slot-slot.ensures

pub returns-clause-nodes : goal.returns-clause-nodes
returns-clause-nodes g c =
    λ b l ns held some.
    held_less b l c.args.self.now _ ns c.args.id c.slot-slot.result held some c.slot-slot.ensures refl refl c.put.ensures c.put_slot.ensures c.take_out.ensures c.take_out-2.ensures c.take_out-3.ensures
