use Rattle.voy_contents.proofs.LookingLemmas.{standing_values}
use Rattle.voy_contents.proofs.mem_table.MemTable.copied_rows.Goals as goal

pub loop-row-init : goal.loop-row-init
loop-row-init c = rw (c.new-rows.ensures, c.into_iter-row-iterator.ensures.into_iter_gives, c.values-row-items.ensures.rest) (standing_values c.args.self.now.rows)
