use Rattle.std.proofs.Common.{◌≡◌, ◌∙◌, ap, arith, []}
use Rattle.voy_link.proofs.Holding.{contents_shown, sound}
use Rattle.voy_link.proofs.arena.Arena.with_capacity.Goals as goal

pub invariant_of-result : goal.invariant_of-result
invariant_of-result g c = sound _ _ c.reserve.new.self _ (c.reserve.ensures.nodes _ _ _ c.in_ok-made.ensures.0)

pub returns : goal.returns
returns g c =
    let spare : c.reserve.new.self.spare ≡ c.args.nodes = omega (arith, c.in_ok-reserve.ensures.ok, c.in_ok-made.ensures.1) in
    contents_shown _ _ c.reserve.new.self _ (c.reserve.ensures.nodes _ _ _ c.in_ok-made.ensures.0) ∙
    ap (λ s. record { nodes = []; spare = s; buckets = c.args.buckets; lanes = c.args.lanes }) spare
