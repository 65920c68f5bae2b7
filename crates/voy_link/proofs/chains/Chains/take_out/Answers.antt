use Rattle.voy_link.proofs.Members.{taken_out}
use Rattle.voy_link.proofs.chains.Chains.take_out.Goals as goal

pub returns : goal.returns
returns c =
    λ n k before behind had.
    taken_out n k c.args.self.now _ before behind c.args.place c.args.key c.place_at_index-prev.result c.place_at_index-next.result had c.place_at_index-prev.ensures
    c.place_at_index-next.ensures c.put.ensures c.put-2.ensures c.put_end.ensures c.put_end-2.ensures
