use Rattle.std.proofs.Common.{◌∙◌}
use Rattle.voy_link.proofs.Members.{prev_is}
use Rattle.voy_link.proofs.chains.Chains.prev.Goals as goal

pub returns : goal.returns
returns c = λ n k key before behind had. c.place_at_index.ensures ∙ prev_is n k c.args.self.now before behind c.args.place key had
