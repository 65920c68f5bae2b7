-- The rows that a change has to tell of a unique key, and their tuples.
use Rattle.std.specs.Prelude.{◌≡◌, ℕ, Bool, true, false, List, Option, Some, None, is_some, refl, slice_get, if◌then◌else◌}
use Rattle.std.proofs.Common.{ap, sym, ◌∙◌}
use Rattle.std.proofs.lemmas.Option.{none-some, same_Some}
use Rattle.voy_schema.specs.Rows.{counting_tuple, counts, tuple_of, values_at}
use Rattle.voy_schema.specs.declared.table.Table.{Table}
use Rattle.voy_schema.specs.declared.table.UniqueKey.{UniqueKey}
use Rattle.voy_schema.specs.declared.value.Value.{Value}
use Rattle.voy_tables.specs.Changes.{RowChange}
use Rattle.voy_tables.specs.Keys.{same_tuple}
use Rattle.voy_tables.specs.SameLaws.{same_tuple-decides}
use Rattle.voy_tables.specs.Tables.{tuple_in}
use Rattle.voy_order.specs.Conflicts.{acquired, acquiring_row, is_handed, released, releasing_row}
use Rattle.voy_order.specs.RowsLost.{unique_key_at}
use Rattle.voy_conflict.specs.Filing.{columns_of}

abbrev tuple_by : Option UniqueKey → Option (List Value) → Option (List Value)
tuple_by None row = None
tuple_by (Some key) row = counting_tuple key row

tuple_is : (schema : List Table) (table unique : ℕ) (row : Option (List Value))
    → tuple_in schema table unique row ≡ tuple_by (unique_key_at (slice_get schema table) unique) row
unfolding tuple_in tuple_of
tuple_is schema table unique row = by (slice_get schema table) refl where
  by : (found : Option Table) → slice_get schema table ≡ found → tuple_in schema table unique row ≡ tuple_by (unique_key_at (slice_get schema table) unique) row
  by None is = rw is refl
  by (Some t) is = rw is (at (slice_get t.unique_keys unique) refl) where
    at : (key : Option UniqueKey) → slice_get t.unique_keys unique ≡ key → tuple_of t unique row ≡ tuple_by (slice_get t.unique_keys unique) row
    at None e = rw e refl
    at (Some key) e = rw e refl

-- the tuple of a row by the unique key that is there, or is not
pub tuple_with : (schema : List Table) (table unique : ℕ) (key : UniqueKey) (row : Option (List Value))
    → unique_key_at (slice_get schema table) unique ≡ Some key → tuple_in schema table unique row ≡ counting_tuple key row
tuple_with schema table unique key row is = tuple_is schema table unique row ∙ ap (λ k. tuple_by k row) is

pub tuple_without : (schema : List Table) (table unique : ℕ) (row : Option (List Value))
    → unique_key_at (slice_get schema table) unique ≡ None → tuple_in schema table unique row ≡ None
tuple_without schema table unique row is = tuple_is schema table unique row ∙ ap (λ k. tuple_by k row) is

pub tuple_of_none : (schema : List Table) (table unique : ℕ) → tuple_in schema table unique None ≡ None
tuple_of_none schema table unique = tuple_is schema table unique None ∙ at (unique_key_at (slice_get schema table) unique)
  where
    at : (key : Option UniqueKey) → tuple_by key None ≡ None
    at None = refl
    at (Some key) = refl

-- the values of a counting tuple stand in the columns of its key
pub tuple_values : (schema : List Table) (table unique : ℕ) (row values : List Value) → tuple_in schema table unique (Some row) ≡ Some values
    → values_at row (columns_of (unique_key_at (slice_get schema table) unique)) ≡ values
tuple_values schema table unique row values is = at (unique_key_at (slice_get schema table) unique) (sym (tuple_is schema table unique (Some row)) ∙ is)
  where
    by : (us : List Value) (b : Bool) → (if b then Some us else None) ≡ Some values → us ≡ values
    by us true e = same_Some us values e
    by us false e = absurd (none-some values e)

    at : (key : Option UniqueKey) → tuple_by key (Some row) ≡ Some values → values_at row (columns_of key) ≡ values
    at None e = absurd (none-some values e)
    at (Some key) e = by (values_at row key.columns) (counts key (values_at row key.columns)) e

module _ (tuple : Option (List Value) → Option (List Value)) (none : tuple None ≡ None) where
  abbrev lost : Bool → Option (List Value) → Option (List Value)
  lost kept row = if kept then None else tuple row

  abbrev told : Bool → Option (List Value) → Option (List Value)
  told kept row = if is_some (lost kept row) then row else None

  not_told : (kept : Bool) (row : Option (List Value)) → told kept row ≡ None → lost kept row ≡ None
  not_told true row is = refl
  not_told false None is = none
  not_told false (Some row) is = by (tuple (Some row)) refl
    where
      by : (t : Option (List Value)) → tuple (Some row) ≡ t → tuple (Some row) ≡ None
      by None e = e
      by (Some values) e = absurd (none-some row (sym is ∙ ap (λ t. if is_some t then Some row else None) e))

  told_one : (row found : List Value) (t : Option (List Value)) → (if is_some t then Some row else None) ≡ Some found
      → (Some row ≡ Some found) × (is_some t ≡ true)
  told_one row found None is = absurd (none-some found is)
  told_one row found (Some values) is = (is, refl)

  is_told : (kept : Bool) (row : Option (List Value)) (found : List Value) → told kept row ≡ Some found
      → (lost kept row ≡ tuple (Some found)) × (is_some (lost kept row) ≡ true)
  is_told true row found is = absurd (none-some found is)
  is_told false None found is = absurd (none-some found (sym (ap (λ (t : Option (List Value)). if is_some t then None else None) none) ∙ is))
  is_told false (Some row) found is = let both = told_one row found (tuple (Some row)) is in (ap tuple both.0, both.1)

-- a change tells the row whose tuple it releases, or acquires
pub none_released : (schema : List Table) (unique : ℕ) (c : RowChange) → releasing_row schema unique c ≡ None → released schema unique c ≡ None
none_released schema unique c is =
    not_told (tuple_in schema c.row.table unique) (tuple_of_none schema c.row.table unique)
    (same_tuple (tuple_in schema c.row.table unique c.before) (tuple_in schema c.row.table unique c.after)) c.before is

pub some_released : (schema : List Table) (unique : ℕ) (c : RowChange) (row : List Value) → releasing_row schema unique c ≡ Some row
    → (released schema unique c ≡ tuple_in schema c.row.table unique (Some row)) × (is_some (released schema unique c) ≡ true)
some_released schema unique c row is =
    is_told (tuple_in schema c.row.table unique) (tuple_of_none schema c.row.table unique)
    (same_tuple (tuple_in schema c.row.table unique c.before) (tuple_in schema c.row.table unique c.after)) c.before row is

pub none_acquired : (schema : List Table) (unique : ℕ) (c : RowChange) → acquiring_row schema unique c ≡ None → acquired schema unique c ≡ None
none_acquired schema unique c is =
    not_told (tuple_in schema c.row.table unique) (tuple_of_none schema c.row.table unique)
    (same_tuple (tuple_in schema c.row.table unique c.before) (tuple_in schema c.row.table unique c.after)) c.after is

pub some_acquired : (schema : List Table) (unique : ℕ) (c : RowChange) (row : List Value) → acquiring_row schema unique c ≡ Some row
    → (acquired schema unique c ≡ tuple_in schema c.row.table unique (Some row)) × (is_some (acquired schema unique c) ≡ true)
some_acquired schema unique c row is =
    is_told (tuple_in schema c.row.table unique) (tuple_of_none schema c.row.table unique)
    (same_tuple (tuple_in schema c.row.table unique c.before) (tuple_in schema c.row.table unique c.after)) c.after row is

-- the test for the tuple that another row has
pub same_is_handed : (a b : Option (List Value)) → is_some a ≡ true → same_tuple a b ≡ is_handed a b
unfolding same_tuple
same_is_handed None b is = cc
same_is_handed (Some a) None is = refl
same_is_handed (Some a) (Some b) is = refl

pub handed_is_same : (a : Option (List Value)) (values : List Value) → is_handed a (Some values) ≡ same_tuple a (Some values)
unfolding same_tuple
handed_is_same None values = refl
handed_is_same (Some a) values = refl

pub handed_none : (a : Option (List Value)) → is_handed a None ≡ false
handed_none None = refl
handed_none (Some a) = refl

-- a tuple that is handed is the one that is released
pub handed_tuple : (a : Option (List Value)) (values : List Value) → is_handed a (Some values) ≡ true → a ≡ Some values
handed_tuple a values is = (same_tuple-decides a (Some values)).0 (sym (handed_is_same a values) ∙ is)

-- whether a change releases the tuple of a row, by the unique key and the row that it tells
pub releases_by_key : (schema : List Table) (unique : ℕ) (c : RowChange) (key : UniqueKey) (lost row : List Value)
    → releasing_row schema unique c ≡ Some lost → unique_key_at (slice_get schema c.row.table) unique ≡ Some key
    → same_tuple (counting_tuple key (Some lost)) (counting_tuple key (Some row))
    ≡ is_handed (released schema unique c) (tuple_in schema c.row.table unique (Some row))
releases_by_key schema unique c key lost row told is =
    let found = some_released schema unique c lost told in
    ap (same_tuple (counting_tuple key (Some lost))) (sym (tuple_with schema c.row.table unique key (Some row) is))
    ∙ ap (λ a. same_tuple a (tuple_in schema c.row.table unique (Some row)))
    (sym (tuple_with schema c.row.table unique key (Some lost) is) ∙ sym found.0)
    ∙ same_is_handed (released schema unique c) (tuple_in schema c.row.table unique (Some row)) found.1

pub releases_without : (schema : List Table) (unique : ℕ) (c : RowChange) (row : List Value)
    → unique_key_at (slice_get schema c.row.table) unique ≡ None
    → false ≡ is_handed (released schema unique c) (tuple_in schema c.row.table unique (Some row))
releases_without schema unique c row is =
    sym (ap (is_handed (released schema unique c)) (tuple_without schema c.row.table unique (Some row) is) ∙ handed_none (released schema unique c))

pub releases_none : (schema : List Table) (unique : ℕ) (c : RowChange) (row : List Value) → releasing_row schema unique c ≡ None
    → false ≡ is_handed (released schema unique c) (tuple_in schema c.row.table unique (Some row))
releases_none schema unique c row is =
    sym (ap (λ a. is_handed a (tuple_in schema c.row.table unique (Some row))) (none_released schema unique c is))
