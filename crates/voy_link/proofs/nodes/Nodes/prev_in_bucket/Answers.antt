use Rattle.std.proofs.Common.{◌∙◌, arith}
use Rattle.voy_link.proofs.Looking.{prev_there}
use Rattle.voy_link.proofs.nodes.Nodes.prev_in_bucket.Goals as goal

pub returns : goal.returns
returns g c =
    λ b l ns held some.
    c.option_of.ensures ∙ prev_there b l c.args.self.now ns c.args.id c.prev.result held (omega (arith, held.slots, held.slots_end)) some c.prev.ensures
