use Rattle.std.proofs.Common.{◌∙◌, ap, set}
use Rattle.voy_link.proofs.Members.{appended}
use Rattle.voy_link.proofs.chains.Chains.append.Goals as goal

pub returns : goal.returns
returns c =
    λ n k ms had at_place at_key absent.
    appended n k c.args.self.now _ ms c.args.place c.args.key c.place_at_index-last.result had at_place at_key absent c.place_at_index-last.ensures c.put.ensures c.put-2.ensures
    (c.put-4.ensures ∙ ap (λ l. set l c.place_at_index-last.result c.args.place) c.put-3.ensures) c.put_end.ensures
