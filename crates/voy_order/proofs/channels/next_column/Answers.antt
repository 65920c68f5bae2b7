use Rattle.voy_order.proofs.NameLemmas.{least-turn}
use Rattle.voy_order.proofs.channels.next_column.Goals as goal

pub loop-place-preserved : goal.loop-place-preserved
loop-place-preserved c = least-turn c.as_slice-columns.result.now c.args.last c.loop-place.next c.nearer-next.result c.as_slice-place-items.result.now c.loop-place.place-index _ c.loop-place-test.true c.loop-place.invariant c.nearer-next.ensures
