use Rattle.std.proofs.Common.{◌∙◌, sym, ap, ◌<◌, ℕ, length, subst}
use Rattle.voy_link.specs.Arena.{node_of}
use Rattle.voy_link.proofs.Holding.{sound}
use Rattle.voy_link.proofs.Showing.{inserted_is}
use Rattle.voy_link.proofs.arena.Arena.insert.Goals as goal

pub invariant_of-self : goal.invariant_of-self
invariant_of-self g c =
    let in_bucket : c.args.bucket < length c.self.inside.nodes.buckets.firsts.items =
    let P : ℕ → Type 0 = λ n. c.args.bucket < n in subst P (sym (ap (λ s. s.buckets) c.self.view_is)) c.requires.bucket in
    let in_lane : c.args.lane < length c.self.inside.nodes.lanes.firsts.items =
    let P : ℕ → Type 0 = λ n. c.args.lane < n in subst P (sym (ap (λ s. s.lanes) c.self.view_is)) c.requires.lane in
    sound _ _ c.insert.new.self _ (c.insert.ensures.nodes _ _ _ c.self.invariant in_bucket in_lane)

pub returns-clause-fresh : goal.returns-clause-fresh
returns-clause-fresh g c = ap (λ ns. node_of ns c.insert.result) (sym (ap (λ s. s.nodes) c.self.view_is)) ∙ c.insert.ensures.fresh _ _ _ c.self.invariant

pub returns-clause-inserted : goal.returns-clause-inserted
returns-clause-inserted g c =
    let in_bucket : c.args.bucket < length c.self.inside.nodes.buckets.firsts.items =
    let P : ℕ → Type 0 = λ n. c.args.bucket < n in subst P (sym (ap (λ s. s.buckets) c.self.view_is)) c.requires.bucket in
    let in_lane : c.args.lane < length c.self.inside.nodes.lanes.firsts.items =
    let P : ℕ → Type 0 = λ n. c.args.lane < n in subst P (sym (ap (λ s. s.lanes) c.self.view_is)) c.requires.lane in
    inserted_is c.self.inside.nodes c.insert.new.self c.args.self.now c.insert.result c.args.bucket c.args.lane c.args.item c.self.view_is c.insert.ensures.spare
    (c.insert.ensures.nodes _ _ _ c.self.invariant in_bucket in_lane)
