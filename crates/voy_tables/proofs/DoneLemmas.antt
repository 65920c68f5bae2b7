-- A change of lists is that change of the tables that they are.
use Rattle.std.proofs.Common.{◌≡◌, ◌≢◌, ℕ, zero, suc, ◌<◌, Bool, true, false, ◌&&◌, List, [], ◌∷◌, length, arith, Option, Some, None, map, refl, sym, ap, ◌∙◌, subst, inl, inr}
use Rattle.std.specs.List.{list_all}
use Rattle.std.specs.Prelude.{◌==◌, if◌then◌else◌, slice_get, slice_set}
use Rattle.std.proofs.lemmas.Bool.{and_from, and_parts, cases_Bool, eq-eqb, eqb-true, eqb-false}
use Rattle.std.proofs.lemmas.Option.{same_Some}
use Rattle.voy_schema.specs.Rows.{is_lawful_row, key_of}
use Rattle.voy_schema.specs.declared.table.Table.{Table}
use Rattle.voy_schema.specs.declared.value.Value.{Value}
use Rattle.voy_tables.proofs.LookLemmas.{row_with_key-with_row, row_with_key-with_other_row, row_with_key-without_key, row_with_key-without_other_key}
use Rattle.voy_tables.specs.SameLaws.{same_key-decides, same_key-sym}
use Rattle.voy_tables.proofs.TableLemmas.{are_tables-at, are_tables-set, is_table-ascends, is_table-with_row, is_table-without_key, within_lists}
use Rattle.voy_tables.specs.Changes.{RowChange, RowId, is_row_of, is_well_formed, key_in, row_change}
use Rattle.voy_tables.specs.Keys.{same_key}
use Rattle.voy_tables.specs.Laws.{AreDone, IsDone}
use Rattle.voy_tables.specs.Lists.{empty_lists, lists_after, look, row_standing, row_with_key, rows_after, rows_in, with_row, without_key}
use Rattle.voy_tables.specs.Standing.{are_tables, ascends, is_table}
use Rattle.voy_tables.specs.Tables.{Tables, do_change, fold_changes, same_row_id}
use Rattle.voy_tables.specs.declared.change.Change.{Change}
use Rattle.voy_tables.specs.declared.change.Change.TheVariants.{Insert, Update, Delete}

slice_get-set : {A : Type 0} (xs : List A) (at : ℕ) (x : A) → at < length xs → slice_get (slice_set xs at x) at ≡ Some x
slice_get-set [] at x h = absurd (omega arith)
slice_get-set (y ∷ xs) zero x h = refl
slice_get-set (y ∷ xs) (suc at) x h = slice_get-set xs at x (omega arith)

slice_get-set_other : {A : Type 0} (xs : List A) (at other : ℕ) (x : A) → other ≢ at → slice_get (slice_set xs at x) other ≡ slice_get xs other
slice_get-set_other [] at other x h = refl
slice_get-set_other (y ∷ xs) zero zero x h = absurd (h refl)
slice_get-set_other (y ∷ xs) zero (suc other) x h = refl
slice_get-set_other (y ∷ xs) (suc at) zero x h = refl
slice_get-set_other (y ∷ xs) (suc at) (suc other) x h = slice_get-set_other xs at other x (λ e. h (ap suc e))

-- a change that names a row and what stands there afterwards, well formed for the table that it names
pub record Names (schema : List Table) (c : RowChange) (t : Table) : Type 0 where
  pub found : slice_get schema c.row.table ≡ Some t
  pub lawful : (row : List Value) → c.after ≡ Some row → is_lawful_row t row ≡ true
  pub key : (row : List Value) → c.after ≡ Some row → key_of t row ≡ c.row.key

-- the row that stands at a key after the change of its table's rows
row_standing-after : (t : Table) (key at : List (List ℕ)) (after : Option (List Value)) (rows : List (List Value)) → ascends t rows ≡ true
    → ((row : List Value) → after ≡ Some row → key_of t row ≡ key)
    → row_with_key t at (rows_after t key after rows) ≡ (if same_key at key then after else row_with_key t at rows)
row_standing-after t key at (Some row) rows up named = by (same_key at key) refl
  where
    here : key_of t row ≡ key
    here = named row refl

    by : (same : Bool) → same_key at key ≡ same → row_with_key t at (with_row t row rows) ≡ (if same then Some row else row_with_key t at rows)
    by true e =
        let there = (same_key-decides at key).0 e ∙ sym here in
        rw there (row_with_key-with_row t row rows)
    by false e = row_with_key-with_other_row t row at rows (rw here (same_key-sym key at ∙ e))
row_standing-after t key at None rows up named = by (same_key at key) refl
  where
    by : (same : Bool) → same_key at key ≡ same → row_with_key t at (without_key t key rows) ≡ (if same then None else row_with_key t at rows)
    by true e =
        let there = (same_key-decides at key).0 e in
        rw there (row_with_key-without_key t key rows up)
    by false e = row_with_key-without_other_key t key at rows (same_key-sym key at ∙ e)

row_names : (found : Option Table) (row : List Value) → is_row_of found row ≡ true → (t : Table) × ((found ≡ Some t) × (is_lawful_row t row ≡ true))
row_names None row h = cc
row_names (Some t) row h = (t, (refl, h))

put_names : (schema : List Table) (at : ℕ) (key : List (List ℕ)) (before : Option (List Value)) (row : List Value) (t : Table)
    → slice_get schema at ≡ Some t → is_lawful_row t row ≡ true → key_of t row ≡ key
    → Names schema (record { row = record { table = at; key = key }; before = before; after = Some row }) t
put_names schema at key before row t found lawful same = record {
  found = found;
  lawful = λ r e. subst (λ x. is_lawful_row t x ≡ true) (same_Some row r e) lawful;
  key = λ r e. ap (key_of t) (sym (same_Some row r e)) ∙ same;
}

key_found : (schema : List Table) (at : ℕ) (row : List Value) (t : Table) → slice_get schema at ≡ Some t → key_of t row ≡ key_in (slice_get schema at) row
key_found schema at row t found = ap (λ o. key_in o row) (sym found)

-- a well-formed change names a row of a table of the schema
pub change_names : (schema : List Table) (c : Change) → is_well_formed schema c ≡ true → (t : Table) × Names schema (row_change schema c) t
change_names schema (Insert at row) well =
    let n = row_names (slice_get schema at) row well in
    (n.0, put_names schema at _ None row n.0 n.1.0 n.1.1 (key_found schema at row n.0 n.1.0))
change_names schema (Update at before after) well =
    let n = row_names (slice_get schema at) after (and_parts _ _ (and_parts _ _ well).0).1 in
    let same = (same_key-decides (key_in (slice_get schema at) before) (key_in (slice_get schema at) after)).0 (and_parts _ _ well).1 in
    (n.0, put_names schema at _ (Some before) after n.0 n.1.0 n.1.1 (key_found schema at after n.0 n.1.0 ∙ sym same))
change_names schema (Delete at row) well =
    let n = row_names (slice_get schema at) row well in
    (n.0, record { found = n.1.0; lawful = λ r e. cc; key = λ r e. cc })

is_table-after : (t : Table) (key : List (List ℕ)) (after : Option (List Value)) (rows : List (List Value)) → is_table t rows ≡ true
    → ((row : List Value) → after ≡ Some row → is_lawful_row t row ≡ true) → is_table t (rows_after t key after rows) ≡ true
is_table-after t key None rows h lawful = is_table-without_key t key rows h
is_table-after t key (Some row) rows h lawful = is_table-with_row t row rows (lawful row refl) h

lists_after-found : (schema : List Table) (lists : List (List (List Value))) (c : RowChange) (t : Table) → slice_get schema c.row.table ≡ Some t
    → lists_after schema c lists ≡ slice_set lists c.row.table (rows_after t c.row.key c.after (rows_in (slice_get lists c.row.table)))
lists_after-found schema lists c t found = rw found

pub stand_after : (schema : List Table) (lists : List (List (List Value))) (c : RowChange) (t : Table) → are_tables schema lists ≡ true → Names schema c t
    → are_tables schema (lists_after schema c lists) ≡ true
stand_after schema lists c t stand named =
    let old = are_tables-at schema lists c.row.table t stand named.found in
    rw (lists_after-found schema lists c t named.found)
    (are_tables-set schema lists c.row.table t _ stand named.found (is_table-after t c.row.key c.after _ old named.lawful))

-- the row at a key of a table, after the rows of the table at a place of the schema were replaced
standing : List Table → List (List (List Value)) → ℕ → List (List ℕ) → Option (List Value)
standing schema lists table key = row_standing (slice_get schema table) key (rows_in (slice_get lists table))

give_by : (schema : List Table) (lists : List (List (List Value))) (c : RowChange) (t : Table) (table : ℕ) (key : List (List ℕ))
    → are_tables schema lists ≡ true → Names schema c t
    → standing schema (slice_set lists c.row.table (rows_after t c.row.key c.after (rows_in (slice_get lists c.row.table)))) table key
    ≡ (if (table == c.row.table) && same_key key c.row.key then c.after else standing schema lists table key)
unfolding standing
give_by schema lists c t table key stand named = elim (cases_Bool (table == c.row.table)) [
  | inl here ↦ subst (λ n. row_standing (slice_get schema n) key (rows_in (slice_get (slice_set lists c.row.table new) n))
      ≡ (if (n == c.row.table) && same_key key c.row.key then c.after else row_standing (slice_get schema n) key (rows_in (slice_get lists n))))
      (sym (eqb-true table c.row.table here)) at_it
  | inr away ↦ rw (away, slice_get-set_other lists c.row.table table new (eqb-false table c.row.table away))
]
  where
    old : List (List Value)
    old = rows_in (slice_get lists c.row.table)

    new : List (List Value)
    new = rows_after t c.row.key c.after old

    up : ascends t old ≡ true
    up = is_table-ascends t old (are_tables-at schema lists c.row.table t stand named.found)

    within : c.row.table < length lists
    within = within_lists schema lists c.row.table t stand named.found

    at_it : row_standing (slice_get schema c.row.table) key (rows_in (slice_get (slice_set lists c.row.table new) c.row.table))
        ≡ (if (c.row.table == c.row.table) && same_key key c.row.key then c.after else row_standing (slice_get schema c.row.table) key (rows_in (slice_get lists c.row.table)))
    at_it = rw (named.found, slice_get-set lists c.row.table new within, eq-eqb c.row.table c.row.table refl) (row_standing-after t c.row.key key c.after old up named.key)

pub give_after : (schema : List Table) (lists : List (List (List Value))) (c : RowChange) (t : Table) → are_tables schema lists ≡ true → Names schema c t
    → (id : RowId) → look schema (lists_after schema c lists) id ≡ do_change c (look schema lists) id
unfolding standing same_row_id
give_after schema lists c t stand named id = rw (lists_after-found schema lists c t named.found) (give_by schema lists c t id.table id.key stand named)

-- a well-formed change does the same to lists as to the tables that they are
pub is_done : (schema : List Table) (lists : List (List (List Value))) (c : Change) → are_tables schema lists ≡ true → is_well_formed schema c ≡ true → IsDone schema lists c
is_done schema lists c stand well =
    let named = change_names schema c well in
    record {
      stand = stand_after schema lists (row_change schema c) named.0 stand named.1;
      give = give_after schema lists (row_change schema c) named.0 stand named.1;
    }

-- tables that are the same are so after the same changes
fold_changes-same : (cs : List RowChange) (before after : Tables) → ((id : RowId) → before id ≡ after id) → (id : RowId) → fold_changes before cs id ≡ fold_changes after cs id
fold_changes-same cs before after same id = let whole : before ≡ after = λ i p. same p i in ap (λ (tables : Tables). fold_changes tables cs id) whole

pub are_done : (schema : List Table) (lists : List (List (List Value))) (cs : List Change) → are_tables schema lists ≡ true → list_all (is_well_formed schema) cs ≡ true → AreDone schema lists cs
are_done schema lists [] stand well = record { stand = stand; give = λ id. refl }
are_done schema lists (c ∷ cs) stand well =
    let first = is_done schema lists c stand (and_parts _ _ well).0 in
    let rest = are_done schema (lists_after schema (row_change schema c) lists) cs first.stand (and_parts _ _ well).1 in
    record {
      stand = rest.stand;
      give = λ id. rest.give id ∙ fold_changes-same (map (row_change schema) cs) _ _ first.give id;
    }

pub empty_rows : (schema : List Table) (table : ℕ) → rows_in (slice_get (empty_lists schema) table) ≡ []
empty_rows [] table = refl
empty_rows (t ∷ schema) zero = refl
empty_rows (t ∷ schema) (suc table) = empty_rows schema table

no_row : (found : Option Table) (key : List (List ℕ)) → row_standing found key [] ≡ None
no_row None key = refl
no_row (Some t) key = refl

pub look-empty : (schema : List Table) (id : RowId) → look schema (empty_lists schema) id ≡ None
look-empty schema id = rw (empty_rows schema id.table) (no_row (slice_get schema id.table) id.key)

rows_are_formed : (schema : List Table) (table : ℕ) (t : Table) (rows : List (List Value)) → slice_get schema table ≡ Some t → list_all (is_lawful_row t) rows ≡ true
    → list_all (is_well_formed schema) (map (Insert table) rows) ≡ true
rows_are_formed schema table t [] found lawful = refl
rows_are_formed schema table t (row ∷ rows) found lawful =
    let parts = and_parts (is_lawful_row t row) (list_all (is_lawful_row t) rows) lawful in
    and_from _ _ (ap (λ o. is_row_of o row) found ∙ parts.0) (rows_are_formed schema table t rows found parts.1)

-- lawful rows that are inserted are done as well-formed changes are
pub rows_are_done : (schema : List Table) (lists : List (List (List Value))) (table : ℕ) (t : Table) (rows : List (List Value))
    → slice_get schema table ≡ Some t → are_tables schema lists ≡ true → list_all (is_lawful_row t) rows ≡ true → AreDone schema lists (map (Insert table) rows)
rows_are_done schema lists table t rows found stand lawful = are_done schema lists (map (Insert table) rows) stand (rows_are_formed schema table t rows found lawful)
