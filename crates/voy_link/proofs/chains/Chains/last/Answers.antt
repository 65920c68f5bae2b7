use Rattle.std.proofs.Common.{◌∙◌}
use Rattle.voy_link.specs.Indices.{nowhere}
use Rattle.voy_link.proofs.Threads.{first_or-reverse}
use Rattle.voy_link.proofs.chains.Chains.last.Goals as goal

pub returns : goal.returns
returns c = λ n k ms had. c.place_at_index.ensures ∙ had.behind.begin c.args.key ∙ first_or-reverse nowhere c.args.key ms
