use Rattle.std.proofs.Common.{refl}
use Rattle.voy_link.proofs.Holding.{last_free, held_more, node_of-absent}
use Rattle.voy_link.proofs.nodes.Nodes.insert.Goals as goal

pub returns-clause-fresh : goal.returns-clause-fresh
returns-clause-fresh g c =
    λ b l ns held.
    node_of-absent c.place_at_index-id.result ns (last_free b l c.args.self.now ns c.place_at_index-id.result held c.requires c.place_at_index-id.ensures).absent

pub returns-clause-nodes : goal.returns-clause-nodes
returns-clause-nodes g c =
    λ b l ns held in_bucket in_lane.
    held_more b l c.args.self.now _ ns _ held c.requires in_bucket in_lane c.place_at_index-id.ensures refl refl refl c.put_slot.ensures c.append.ensures c.append-2.ensures c.append-3.ensures
