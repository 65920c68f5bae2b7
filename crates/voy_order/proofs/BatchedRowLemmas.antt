-- Where all rows are there and no change events stand, the tables of a good history are those that its rows are.
use Rattle.std.specs.Prelude.{◌≡◌, ◌≢◌, ◌<◌, ◌+◌, ◌==◌, ℕ, zero, suc, Bool, true, false, List, [], ◌∷◌, ◌++◌, Option, Some, None, map, refl, slice_get, if◌then◌else◌}
use Rattle.std.specs.List.{fold, list_any}
use Rattle.std.proofs.Common.{ap, arith, sym, ◌∙◌}
use Rattle.std.proofs.lemmas.Bool.{eqb-false, eqb-true, true≢false}
use Rattle.std.proofs.lemmas.List.{map-append}
use Rattle.voy_schema.specs.declared.table.Table.{Table}
use Rattle.voy_schema.specs.declared.value.Value.{Value}
use Rattle.voy_tables.specs.Changes.{RowChange, RowId, id_of, row_change}
use Rattle.voy_tables.specs.Lists.{rows_in}
use Rattle.voy_tables.specs.Tables.{Tables, do_change, fold_changes, no_rows, same_row_id}
use Rattle.voy_tables.specs.declared.change.Change.TheVariants.{Insert}
use Rattle.voy_txn.specs.History.{History}
use Rattle.voy_txn.specs.Items.{inserts_from}
use Rattle.voy_txn.specs.declared.txn.Txn.TheVariants.{Load, Batch, Events, Epoch}
use Rattle.voy_order.specs.ChangeEvents.{ChangeEvent}
use Rattle.voy_order.specs.Histories.{Basis, BatchFiles, ComeInTurn, HasAllRows, IsGood, Origin, TakesBatches, batched_rows, beginning, is_events, rows_standing, tables_after_txn, tables_before}
use Rattle.voy_order.specs.Histories.Origin.{Snapshot, Loaded}
use Rattle.voy_order.specs.HistoryLaws.{whole}
use Rattle.voy_order.proofs.MoveLemmas.{other_row}

-- the row that the last of these changes leaves at a key, or else this one
abbrev left_of : RowId → Option (List Value) → List RowChange → Option (List Value)
left_of id row [] = row
left_of id row (c ∷ cs) = left_of id (if same_row_id id c.row then c.after else row) cs

fold_leaves : (tables : Tables) (cs : List RowChange) (id : RowId) → fold_changes tables cs id ≡ left_of id (tables id) cs
fold_leaves tables [] id = refl
fold_leaves tables (c ∷ cs) id = fold_leaves (do_change c tables) cs id

left_of-append : (id : RowId) (row : Option (List Value)) (xs ys : List RowChange) → left_of id row (xs ++ ys) ≡ left_of id (left_of id row xs) ys
left_of-append id row [] ys = refl
left_of-append id row (x ∷ xs) ys = left_of-append id (if same_row_id id x.row then x.after else row) xs ys

-- rows of a table as inserts
abbrev inserts : List Table → ℕ → List (List Value) → List RowChange
inserts schema table rows = map (row_change schema) (map (Insert table) rows)

inserts-append : (schema : List Table) (table : ℕ) (xs ys : List (List Value))
    → inserts schema table (xs ++ ys) ≡ inserts schema table xs ++ inserts schema table ys
inserts-append schema table xs ys =
    ap (map (row_change schema)) (map-append (Insert table) xs ys)
    ∙ map-append (row_change schema) (map (Insert table) xs) (map (Insert table) ys)

-- inserts of another table leave a row
inserts_away : (schema : List Table) (id : RowId) (row : Option (List Value)) (table : ℕ) (rows : List (List Value)) → table ≢ id.table
    → left_of id row (inserts schema table rows) ≡ row
inserts_away schema id row table [] away = refl
inserts_away schema id row table (new ∷ rows) away =
    ap (λ b. left_of id (if b then Some new else row) (inserts schema table rows))
    (other_row id (id_of schema table new) (λ same. away (sym (ap (λ (r : RowId). r.table) same))))
    ∙ inserts_away schema id row table rows away

-- of a batch those rows count that are of the key's table
one_batch : (schema : List Table) (id : RowId) (row : Option (List Value)) (table : ℕ) (rows : List (List Value))
    → left_of id row (inserts schema table rows) ≡ left_of id row (inserts schema id.table (if table == id.table then rows else []))
one_batch schema id row table rows = by (table == id.table) refl
  where
    by : (b : Bool) → table == id.table ≡ b → left_of id row (inserts schema table rows) ≡ left_of id row (inserts schema id.table (if b then rows else []))
    by true is = ap (λ n. left_of id row (inserts schema n rows)) (eqb-true table id.table is)
    by false is = inserts_away schema id row table rows (eqb-false table id.table is)

-- the tables of batches, key by key: the rows of all batches of the key's table
rows_by_batches : (basis : Basis) (before history : History) (tables : Tables) (id : RowId)
    → list_any is_events history ≡ false → ComeInTurn basis before history
    → fold (tables_after_txn basis.schema) tables history id ≡ left_of id (tables id) (inserts basis.schema id.table (batched_rows id.table history))
rows_by_batches basis before [] tables id none turns = refl
rows_by_batches basis before (Load rows ∷ history) tables id none turns = absurd turns.0.next
rows_by_batches basis before (Batch table number rows ∷ history) tables id none turns =
    rows_by_batches basis (before ++ Batch table number rows ∷ []) history (fold_changes tables (inserts basis.schema table rows)) id none turns.1
    ∙ ap (λ row. left_of id row later) (fold_leaves tables (inserts basis.schema table rows) id ∙ one_batch basis.schema id (tables id) table rows)
    ∙ sym (left_of-append id (tables id) (inserts basis.schema id.table here) later)
    ∙ ap (left_of id (tables id)) (sym (inserts-append basis.schema id.table here (batched_rows id.table history)))
  where
    here : List (List Value)
    here = if table == id.table then rows else []

    later : List RowChange
    later = inserts basis.schema id.table (batched_rows id.table history)
rows_by_batches basis before (Events channel items ∷ history) tables id none turns = absurd (true≢false none)
rows_by_batches basis before (Epoch vsn channels ∷ history) tables id none turns =
    rows_by_batches basis (before ++ Epoch vsn channels ∷ []) history tables id none turns.1

-- the inserts of the tables from one place on leave a row of a table in front of it
inserts_past : (schema : List Table) (id : RowId) (row : Option (List Value)) (place : ℕ) (tables : List (List (List Value))) → id.table < place
    → left_of id row (map (row_change schema) (inserts_from place tables)) ≡ row
inserts_past schema id row place [] past = refl
inserts_past schema id row place (rows ∷ tables) past =
    ap (left_of id row) (map-append (row_change schema) (map (Insert place) rows) (inserts_from (suc place) tables))
    ∙ left_of-append id row (inserts schema place rows) (map (row_change schema) (inserts_from (suc place) tables))
    ∙ ap (λ r. left_of id r (map (row_change schema) (inserts_from (suc place) tables))) (inserts_away schema id row place rows (λ same. omega arith))
    ∙ inserts_past schema id row (suc place) tables (omega arith)

-- of all inserts those of the key's table count
inserts_at : (schema : List Table) (id : RowId) (row : Option (List Value)) (place more : ℕ) (tables : List (List (List Value))) → id.table ≡ place + more
    → left_of id row (map (row_change schema) (inserts_from place tables)) ≡ left_of id row (inserts schema id.table (rows_in (slice_get tables more)))
inserts_at schema id row place more [] at = refl
inserts_at schema id row place zero (rows ∷ tables) at =
    ap (left_of id row) (map-append (row_change schema) (map (Insert place) rows) (inserts_from (suc place) tables))
    ∙ left_of-append id row (inserts schema place rows) (map (row_change schema) (inserts_from (suc place) tables))
    ∙ inserts_past schema id (left_of id row (inserts schema place rows)) (suc place) tables (omega arith)
    ∙ ap (λ n. left_of id row (inserts schema n rows)) here
  where
    here : place ≡ id.table
    here = omega arith
inserts_at schema id row place (suc more) (rows ∷ tables) at =
    ap (left_of id row) (map-append (row_change schema) (map (Insert place) rows) (inserts_from (suc place) tables))
    ∙ left_of-append id row (inserts schema place rows) (map (row_change schema) (inserts_from (suc place) tables))
    ∙ ap (λ r. left_of id r (map (row_change schema) (inserts_from (suc place) tables))) (inserts_away schema id row place rows (λ same. omega arith))
    ∙ inserts_at schema id row (suc place) more tables (omega arith)

-- behind a load, where neither batches nor change events come, its rows stand
rows_by_load : (basis : Basis) (before history : History) (tables : Tables) → (TakesBatches basis.origin → ⊥) → list_any is_events history ≡ false
    → ComeInTurn basis before history → fold (tables_after_txn basis.schema) tables history ≡ tables
rows_by_load basis before [] tables no_batch none turns = refl
rows_by_load basis before (Load rows ∷ history) tables no_batch none turns = absurd turns.0.next
rows_by_load basis before (Batch table number rows ∷ history) tables no_batch none turns = absurd (no_batch turns.0.next.taken)
rows_by_load basis before (Events channel items ∷ history) tables no_batch none turns = absurd (true≢false none)
rows_by_load basis before (Epoch vsn channels ∷ history) tables no_batch none turns =
    rows_by_load basis (before ++ Epoch vsn channels ∷ []) history tables no_batch none turns.1

by_origin : (schema : List Table) (origin : Origin) (files : BatchFiles) (part : List ChangeEvent) (last first : ℕ) (history : History)
    → ComeInTurn (record { schema = schema; origin = origin; files = files; part = part; last = last; first = first }) (beginning origin) history
    → list_any is_events history ≡ false → HasAllRows origin (beginning origin ++ history)
    → (id : RowId) → rows_standing schema (beginning origin ++ history) id ≡ tables_before schema origin id
by_origin schema (Snapshot rows) files part last first history turns none all id =
    rows_by_batches (record { schema = schema; origin = Snapshot rows; files = files; part = part; last = last; first = first })
    [] history no_rows id none turns
    ∙ ap (λ these. left_of id None (inserts schema id.table these)) (all id.table)
    ∙ sym (inserts_at schema id None 0 id.table rows (omega arith))
    ∙ sym (fold_leaves no_rows (map (row_change schema) (inserts_from 0 rows)) id)
by_origin schema (Loaded rows) files part last first history turns none all id =
    ap (λ (tables : Tables). tables id) (rows_by_load (record { schema = schema; origin = Loaded rows; files = files; part = part; last = last; first = first })
    (Load rows ∷ []) history (tables_before schema (Loaded rows)) (λ takes. takes) none turns)

-- the tables of a good history without change events, where all rows are there
pub rows_are_there : (basis : Basis) (history : History)
    → IsGood basis history → list_any is_events history ≡ false → HasAllRows basis.origin (whole basis history)
    → (id : RowId) → rows_standing basis.schema (whole basis history) id ≡ tables_before basis.schema basis.origin id
rows_are_there basis history good none all = by_origin basis.schema basis.origin basis.files basis.part basis.last basis.first history good.in_turn none all
