use Rattle.voy_link.proofs.Showing.{has_slot}
use Rattle.voy_link.proofs.arena.Arena.item.Goals as goal

pub item-requires : goal.item-requires
item-requires g c = has_slot c.self.inside.nodes c.args.self.now c.args.id c.self.invariant c.self.view_is c.requires
