use Rattle.std.proofs.Common.{◌∙◌, ap, arith}
use Rattle.voy_link.specs.Indices.{option_of_place}
use Rattle.voy_link.specs.Nodes.{by_key}
use Rattle.voy_link.proofs.Looking.{last_is}
use Rattle.voy_link.proofs.nodes.Nodes.last_in_bucket.Goals as goal

pub returns : goal.returns
returns g c =
    λ b l ns held.
    c.option_of.ensures ∙ ap option_of_place (c.last.ensures c.args.self.now.total b (by_key (λ n. n.bucket) ns) held.in_buckets) ∙
    last_is c.args.self.now.total b c.args.bucket (λ n. n.bucket) ns held.in_buckets.within (omega (arith, held.slots, held.slots_end))
