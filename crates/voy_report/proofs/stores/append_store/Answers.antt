use Rattle.std.proofs.Common.{◌≡◌, ◌<◌, true, get_or, length}
use Rattle.voy_tables.specs.Standing.{are_tables}
use Rattle.voy_report.specs.ShowLaws.{part_moved, tables_text_turn}
use Rattle.voy_report.proofs.Texts.{appends_on}
use Rattle.voy_report.proofs.stores.append_store.Goals as goal

pub loop-place-preserved : goal.loop-place-preserved
loop-place-preserved g c =
    let lists = (g.S.Store.contents c.args.store.now).tables in
    let stand : are_tables c.args.schema.now.tables lists ≡ true = rw c.requires (g.met.S.Store.clean c.args.store.now).stand in
    let same = c.as_slice-table-items.ensures in
    let within : c.loop-place.place < length c.args.schema.now.tables = rw (← same) c.loop-place-test.true in
    let is : c.table-item.result ≡ get_or c.args.schema.now.tables c.loop-place.place c.table-item.result = rw (← same) c.table-item.is in
    let turn = tables_text_turn c.args.schema.now.tables lists c.loop-place.place c.table-item.result stand within is in
    let added = c.in_ok-append_stored.ensures.ok in
    (part_moved _ _ _ _ _ _ c.loop-place.invariant.0 turn added, appends_on _ _ _ _ c.loop-place.invariant.1 added)
