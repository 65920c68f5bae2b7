use Rattle.std.proofs.Common.{◌∙◌, ap, max}
use Rattle.voy_link.proofs.Holding.{sound}
use Rattle.voy_link.proofs.Showing.{respaced, on_ok, on_err}
use Rattle.voy_link.proofs.arena.Arena.reserve.Goals as goal

pub invariant_of-self : goal.invariant_of-self
invariant_of-self g c = sound _ _ c.reserve.new.self _ (c.reserve.ensures.nodes _ _ _ c.self.invariant)

pub returns-clause-ok : goal.returns-clause-ok
returns-clause-ok g c =
    on_ok c.reserve.result _ _
    (λ is.
    respaced c.self.inside.nodes c.reserve.new.self c.args.self.now (max c.args.self.now.spare c.args.more) c.self.view_is
    (is ∙ ap (λ s. max s.spare c.args.more) c.self.view_is) (c.reserve.ensures.nodes _ _ _ c.self.invariant))
    c.reserve.ensures.ok

pub returns-clause-err : goal.returns-clause-err
returns-clause-err g c =
    on_err c.reserve.result _ _
    (λ is.
    respaced c.self.inside.nodes c.reserve.new.self c.args.self.now c.args.self.now.spare c.self.view_is (is ∙ ap (λ s. s.spare) c.self.view_is)
    (c.reserve.ensures.nodes _ _ _ c.self.invariant))
    c.reserve.ensures.err
