use Rattle.std.proofs.Common.{◌∙◌, ap, arith}
use Rattle.voy_link.specs.Indices.{option_of_place}
use Rattle.voy_link.specs.Nodes.{by_key}
use Rattle.voy_link.proofs.Looking.{first_is}
use Rattle.voy_link.proofs.nodes.Nodes.first_in_lane.Goals as goal

pub returns : goal.returns
returns g c =
    λ b l ns held.
    c.option_of.ensures ∙ ap option_of_place (c.first.ensures c.args.self.now.total l (by_key (λ n. n.lane) ns) held.in_lanes) ∙
    first_is c.args.self.now.total l c.args.lane (λ n. n.lane) ns held.in_lanes.within (omega (arith, held.slots, held.slots_end))
