use Rattle.voy_contents.proofs.ListLemmas.{get_at}
use Rattle.voy_contents.proofs.MarkLemmas.{one_counted}
use Rattle.voy_contents.proofs.marks.count_changes.Goals as goal

pub loop-item-preserved : goal.loop-item-preserved
loop-item-preserved c =
    let items = c.args.items.now in
    let at = c.loop-item.item-index in
    one_counted items c.args.tables.now at c.loop-item.tables c.count_change.new.tables c.item-item.result c.loop-item.invariant
    (get_at items at c.item-item.result c.loop-item-test.true c.item-item.is) c.count_change.ensures
