use Rattle.std.proofs.Common.{◌≡◌, ◌+◌, ◌<◌, ℕ, true, List, [], Some, arith, ap, drop, length, map, subst, sym, ◌∙◌}
use Rattle.std.proofs.lemmas.Result.{err_from_is_err_and}
use Rattle.std.specs.List.{list_all}
use Rattle.std.specs.Prelude.{slice_get, slice_index_or}
use Rattle.voy_schema.specs.declared.value.Value.{Value}
use Rattle.voy_contents.proofs.DoneLemmas.{all_parts, done_on, inserts_length, stopped_on, tables_at}
use Rattle.voy_contents.proofs.ListLemmas.{get_at}
use Rattle.voy_contents.specs.Done.{AreDone, IsStopped}
use Rattle.voy_tables.specs.Changes.{is_well_formed}
use Rattle.voy_tables.specs.declared.change.Change.TheVariants.{Insert}
use Rattle.voy_txn.specs.Items.{inserts_from}
use Rattle.voy_contents.proofs.items.fill.Goals as goal

found_at : (lists items : List (List (List Value))) (at end : ℕ) (rows : List (List Value)) → at < end → end ≡ length lists → items ≡ lists → rows ≡ slice_index_or items at rows → slice_get lists at ≡ Some rows
found_at lists items at end rows below all same is = get_at lists at rows (omega (arith, below, all)) (is ∙ ap (λ xs. slice_index_or xs at rows) same)

pub insert_rows-requires-clause-well : goal.insert_rows-requires-clause-well
insert_rows-requires-clause-well c =
    let schema = c.args.schema.now.tables in
    let lists = c.args.lists.now in
    let at = c.loop-place.place in
    let rows = c.index-as_slice-place.result in
    let found = found_at lists c.as_slice.result.now at c.len-place-end.result rows c.loop-place-test.true c.len-place-end.ensures c.as_slice.ensures c.index-as_slice-place.is in
    subst (λ (xs : List (List Value)). list_all (is_well_formed schema) (map (Insert at) xs) ≡ true) (sym c.as_slice-rows.ensures)
    (all_parts (is_well_formed schema) (map (Insert at) rows) (inserts_from (at + 1) (drop (at + 1) lists)) (ap (list_all (is_well_formed schema)) (sym (tables_at lists at rows found)) ∙ c.loop-place.invariant.well)).0

pub insert_rows-requires-clause-few : goal.insert_rows-requires-clause-few
insert_rows-requires-clause-few c =
    let lists = c.args.lists.now in
    let at = c.loop-place.place in
    let rows = c.index-as_slice-place.result in
    let found = found_at lists c.as_slice.result.now at c.len-place-end.result rows c.loop-place-test.true c.len-place-end.ensures c.as_slice.ensures c.index-as_slice-place.is in
    omega (arith, c.loop-place.invariant.item, inserts_length lists at rows found, c.requires.few, ap length c.as_slice-rows.ensures)

pub returns-in_err-insert_rows-clause-stopped : goal.returns-in_err-insert_rows-clause-stopped
returns-in_err-insert_rows-clause-stopped c =
    let schema = c.args.schema.now.tables in
    let lists = c.args.lists.now in
    let at = c.loop-place.place in
    let rows = c.index-as_slice-place.result in
    let found = found_at lists c.as_slice.result.now at c.len-place-end.result rows c.loop-place-test.true c.len-place-end.ensures c.as_slice.ensures c.index-as_slice-place.is in
    let failed = err_from_is_err_and c.from_residual.result c.from_residual.ensures.1 in
    rw (failed.1, failed.2)
    (stopped_on schema (inserts_from 0 lists) 0 (map (Insert at) rows) (inserts_from (at + 1) (drop (at + 1) lists)) c.loop-place.first c.args.tables.now c.loop-place.tables c.in_err-insert_rows.field-0.0
    (subst (λ left. AreDone schema (inserts_from 0 lists) 0 left c.loop-place.first c.args.tables.now c.loop-place.tables) (tables_at lists at rows found) c.loop-place.invariant.done)
    (subst (λ (xs : List (List Value)). IsStopped schema (map (Insert at) xs) c.loop-place.first c.loop-place.tables c.in_err-insert_rows.field-0.0) c.as_slice-rows.ensures c.in_err-insert_rows.ensures.stopped))

pub loop-place-preserved : goal.loop-place-preserved
loop-place-preserved c =
    let schema = c.args.schema.now.tables in
    let lists = c.args.lists.now in
    let at = c.loop-place.place in
    let rows = c.index-as_slice-place.result in
    let found = found_at lists c.as_slice.result.now at c.len-place-end.result rows c.loop-place-test.true c.len-place-end.ensures c.as_slice.ensures c.index-as_slice-place.is in
    record {
      item = omega (arith, c.loop-place.invariant.item, inserts_length lists at rows found, ap length c.as_slice-rows.ensures);
      well = (all_parts (is_well_formed schema) (map (Insert at) rows) (inserts_from (at + 1) (drop (at + 1) lists)) (ap (list_all (is_well_formed schema)) (sym (tables_at lists at rows found)) ∙ c.loop-place.invariant.well)).1;
      done = done_on schema (inserts_from 0 lists) 0 (map (Insert at) rows) (inserts_from (at + 1) (drop (at + 1) lists)) c.loop-place.first (c.loop-place.first + length c.as_slice-rows.result.now)
          c.args.tables.now c.loop-place.tables c.insert_rows.new.tables
          (subst (λ left. AreDone schema (inserts_from 0 lists) 0 left c.loop-place.first c.args.tables.now c.loop-place.tables) (tables_at lists at rows found) c.loop-place.invariant.done)
          (subst (λ (xs : List (List Value)). AreDone schema (map (Insert at) xs) c.loop-place.first [] (c.loop-place.first + length c.as_slice-rows.result.now) c.loop-place.tables c.insert_rows.new.tables)
          c.as_slice-rows.ensures c.in_ok-insert_rows.ensures.done);
    }
