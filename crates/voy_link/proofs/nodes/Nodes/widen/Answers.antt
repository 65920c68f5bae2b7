use Rattle.std.proofs.Common.{refl, arith}
use Rattle.voy_link.proofs.Leaving.{held_wider}
use Rattle.voy_link.proofs.nodes.Nodes.widen.Goals as goal

pub returns-in_err-widen-4-clause-nodes : goal.returns-in_err-widen-4-clause-nodes
returns-in_err-widen-4-clause-nodes g c =
    λ b l ns held.
    held_wider b l c.args.self.now _ ns refl refl c.widen-4.ensures.widened (λ id. refl) (omega arith) (λ ends. ends) c.widen.ensures.members c.widen-2.ensures.members
    c.widen-3.ensures.members held

pub returns-clause-nodes : goal.returns-clause-nodes
returns-clause-nodes g c =
    λ b l ns held.
    held_wider b l c.args.self.now _ ns refl refl c.widen-4.ensures.widened c.widen_slots.ensures.same c.widen_slots.ensures.longer
    (λ ends. omega (arith, ends, c.widen_slots.ensures.bound, c.ranges.places.fits)) c.widen.ensures.members c.widen-2.ensures.members c.widen-3.ensures.members held
