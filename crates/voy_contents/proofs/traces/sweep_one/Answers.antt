use Rattle.std.proofs.Common.{◌<◌, arith, length}
use Rattle.voy_contents.proofs.ListLemmas.{get_at}
use Rattle.voy_contents.proofs.TableListLemmas.{lists_swept}
use Rattle.voy_contents.proofs.traces.sweep_one.Goals as goal

pub returns-then-at-len : goal.returns-then-at-len
returns-then-at-len c =
    let tables = c.args.tables.now in
    let at = c.args.trace.now.table in
    let within : at < length tables = omega (arith, c.if-at-len.true, c.len.ensures) in
    lists_swept tables at c.item_mut.result.now c.sweep.new.self within (get_at tables at c.item_mut.result.now within c.item_mut.ensures.value) c.sweep.ensures
