use Rattle.std.proofs.Common.{◌≡◌, ◌∙◌, ◌+◌, ◌<◌, ◌≤◌, List, ap, length, drop, sym, arith}
use Rattle.voy_schema.specs.LawfulLaws.{table_parts}
use Rattle.voy_schema.specs.declared.table.Column.{Column}
use Rattle.voy_event.specs.ByName.{with_all_from, with_place}
use Rattle.voy_event.proofs.ByNameLemmas.{goes_in}
use Rattle.voy_event.proofs.by_name.row_order.Goals as goal

pub overflow_cast-place : goal.overflow_cast-place
overflow_cast-place c =
    let most : length c.args.table.now.columns ≤ 64 = (table_parts c.args.table.now c.requires).most_columns in
    let same : length c.as_slice-columns.result.now ≡ length c.args.table.now.columns = ap length c.as_slice-columns.ensures in
    let within : c.loop-place.place < length c.as_slice-columns.result.now = c.loop-place-test.true in
    omega arith

pub loop-place-preserved : goal.loop-place-preserved
loop-place-preserved c =
    let columns = c.args.table.now.columns in
    let place = c.loop-place.place in
    let order = c.loop-place.order in
    let same : length c.as_slice-columns.result.now ≡ length columns = ap length c.as_slice-columns.ensures in
    let test : place < length c.as_slice-columns.result.now = c.loop-place-test.true in
    let within : place < length columns = omega arith in
    let put : c.put_place.new.order ≡ with_place columns place order =
    c.in_ok-put_place.ensures ∙ ap (λ (cs : List Column). with_place cs place order) c.as_slice-columns.ensures in
    c.loop-place.invariant ∙ goes_in columns columns place place order within
    ∙ ap (with_all_from columns (drop (place + 1) columns) (place + 1)) (sym put)
