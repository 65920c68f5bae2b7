use Rattle.std.proofs.Common.{length, arith, refl, zero-add}
use Rattle.std.proofs.lemmas.Map.Iter.{rest_all}
use Rattle.std.specs.Map.Iter.{deref}
use Rattle.voy_contents.proofs.LookingLemmas.{all_are_counted, standing_values}
use Rattle.voy_contents.specs.MemTables.{rows_of}
use Rattle.voy_contents.proofs.mem_table.MemTable.count.Goals as goal

pub loop-row-init : goal.loop-row-init
loop-row-init c = (omega arith, rw (c.into_iter-row-iterator.ensures.into_iter_gives, c.values-row-items.ensures.rest, standing_values c.args.self.now.rows, zero-add (length (rows_of c.args.self.now.rows))) refl)

pub returns : goal.returns
returns c = all_are_counted c.loop-row.count c.loop-row.row-iterator (rows_of c.args.self.now.rows) c.loop-row.invariant.0 (rest_all deref c.loop-row.row-iterator c.next.new.self c.next.result c.in-None.is c.next.ensures.steps) c.loop-row.invariant.1
