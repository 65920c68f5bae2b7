use Rattle.std.proofs.Common.{◌≡◌, ◌+◌, [], ◌∷◌, arith, ap, drop, length, map, subst, sym, ◌∙◌}
use Rattle.std.proofs.lemmas.Bool.{and_parts}
use Rattle.std.proofs.lemmas.List.{drop_all}
use Rattle.std.specs.List.{list_all}
use Rattle.voy_contents.proofs.DoneLemmas.{done_on, one_done, one_stopped, rows_at, stopped_on}
use Rattle.voy_contents.proofs.ListLemmas.{get_at}
use Rattle.voy_contents.specs.Done.{AreDone, IsStopped}
use Rattle.voy_tables.specs.Changes.{is_well_formed}
use Rattle.voy_tables.specs.declared.change.Change.TheVariants.{Insert}
use Rattle.voy_contents.proofs.items.insert_rows.Goals as goal

pub do_insert-requires-clause-well : goal.do_insert-requires-clause-well
do_insert-requires-clause-well c =
    let rows = c.args.rows.now in
    let at = c.loop-row.row-index in
    let here = rows_at c.args.table rows at c.row-item.result (get_at rows at c.row-item.result c.loop-row-test.true c.row-item.is) in
    (and_parts _ _ (ap (list_all (is_well_formed c.args.schema.now.tables)) (sym here) ∙ c.loop-row.invariant.well)).0

pub returns-in-Err-clause-stopped : goal.returns-in-Err-clause-stopped
returns-in-Err-clause-stopped c =
    let schema = c.args.schema.now.tables in
    let rows = c.args.rows.now in
    let at = c.loop-row.row-index in
    let here = rows_at c.args.table rows at c.row-item.result (get_at rows at c.row-item.result c.loop-row-test.true c.row-item.is) in
    subst (IsStopped schema (map (Insert c.args.table) rows) c.args.first c.args.tables.now) (sym c.item_error.ensures)
    (stopped_on schema (map (Insert c.args.table) rows) c.args.first (Insert c.args.table c.row-item.result ∷ []) (map (Insert c.args.table) (drop (at + 1) rows)) c.loop-row.item c.args.tables.now c.loop-row.tables _
    (subst (λ left. AreDone schema (map (Insert c.args.table) rows) c.args.first left c.loop-row.item c.args.tables.now c.loop-row.tables) here c.loop-row.invariant.done)
    (one_stopped schema (Insert c.args.table c.row-item.result) c.loop-row.item c.loop-row.tables c.in-Err.refused c.in-Err.ensures.refused))

pub loop-row-preserved : goal.loop-row-preserved
loop-row-preserved c =
    let schema = c.args.schema.now.tables in
    let rows = c.args.rows.now in
    let at = c.loop-row.row-index in
    let here = rows_at c.args.table rows at c.row-item.result (get_at rows at c.row-item.result c.loop-row-test.true c.row-item.is) in
    record {
      item = omega (arith, c.loop-row.invariant.item);
      back = c.do_insert.ensures.back ∙ c.loop-row.invariant.back;
      well = (and_parts _ _ (ap (list_all (is_well_formed schema)) (sym here) ∙ c.loop-row.invariant.well)).1;
      done = done_on schema (map (Insert c.args.table) rows) c.args.first (Insert c.args.table c.row-item.result ∷ []) (map (Insert c.args.table) (drop (at + 1) rows)) c.loop-row.item (c.loop-row.item + 1)
          c.args.tables.now c.loop-row.tables c.do_insert.new.tables
          (subst (λ left. AreDone schema (map (Insert c.args.table) rows) c.args.first left c.loop-row.item c.args.tables.now c.loop-row.tables) here c.loop-row.invariant.done)
          (one_done schema (Insert c.args.table c.row-item.result) c.loop-row.item c.loop-row.tables c.do_insert.new.tables c.in_default.ensures.done);
    }

pub returns-clause-done : goal.returns-clause-done
returns-clause-done c =
    let schema = c.args.schema.now.tables in
    let rows = c.args.rows.now in
    let all : c.loop-row.row-index ≡ length rows = omega (arith, c.loop-row-test.false, c.loop-row.auto.row-index-end) in
    let item : c.loop-row.item ≡ c.args.first + length rows = omega (arith, all, c.loop-row.invariant.item) in
    let none : map (Insert c.args.table) (drop c.loop-row.row-index rows) ≡ [] = ap (map (Insert c.args.table)) (drop_all c.loop-row.row-index rows c.loop-row-test.false) in
    subst (λ n. AreDone schema (map (Insert c.args.table) rows) c.args.first [] n c.args.tables.now c.loop-row.tables) item
    (subst (λ left. AreDone schema (map (Insert c.args.table) rows) c.args.first left c.loop-row.item c.args.tables.now c.loop-row.tables) none c.loop-row.invariant.done)
