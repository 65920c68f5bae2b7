use Rattle.voy_link.proofs.nodes.Nodes.reserve.Goals as goal

pub returns-clause-nodes : goal.returns-clause-nodes
returns-clause-nodes g c = λ b l ns held. c.free_places.ensures.nodes b l ns (c.in_ok-widen.ensures.nodes b l ns held)
