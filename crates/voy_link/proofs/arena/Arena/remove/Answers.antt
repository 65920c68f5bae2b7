use Rattle.std.proofs.Common.{◌∙◌, sym, ap}
use Rattle.voy_link.specs.Arena.{item_of}
use Rattle.voy_link.proofs.Holding.{sound}
use Rattle.voy_link.proofs.Showing.{has_slot, is_there, removed_is}
use Rattle.voy_link.proofs.arena.Arena.remove.Goals as goal

pub remove-requires-clause-there : goal.remove-requires-clause-there
remove-requires-clause-there g c = has_slot c.self.inside.nodes c.args.self.now c.args.id c.self.invariant c.self.view_is c.requires

pub invariant_of-self : goal.invariant_of-self
invariant_of-self g c =
    sound _ _ c.remove.new.self _
    (c.remove.ensures.nodes _ _ _ c.self.invariant (is_there c.self.inside.nodes c.args.self.now c.args.id c.self.invariant c.self.view_is c.requires))

pub returns-clause-item : goal.returns-clause-item
returns-clause-item g c =
    ap (λ ns. item_of ns c.args.id) (sym (ap (λ s. s.nodes) c.self.view_is)) ∙
    c.remove.ensures.item _ _ _ c.self.invariant (is_there c.self.inside.nodes c.args.self.now c.args.id c.self.invariant c.self.view_is c.requires)

pub returns-clause-removed : goal.returns-clause-removed
returns-clause-removed g c =
    removed_is c.self.inside.nodes c.remove.new.self c.args.self.now c.args.id c.self.view_is c.remove.ensures.spare
    (c.remove.ensures.nodes _ _ _ c.self.invariant (is_there c.self.inside.nodes c.args.self.now c.args.id c.self.invariant c.self.view_is c.requires))
