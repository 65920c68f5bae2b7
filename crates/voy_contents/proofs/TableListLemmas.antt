-- Many tables in memory, of which one is made, changed or swept.
use Rattle.std.proofs.Common.{◌≡◌, ◌+◌, ◌<◌, ℕ, zero, suc, Bool, true, false, List, [], ◌∷◌, ◌++◌, Option, Some, None, Result, Ok, Err, OnOk, length, refl, sym, ap, ◌∙◌, subst}
use Rattle.std.proofs.lemmas.Bool.{and_parts, eqb-true}
use Rattle.std.proofs.lemmas.Option.{none-some, same_Some}
use Rattle.std.specs.Prelude.{◌&&◌, IsSome, nat_eq, slice_get, slice_set, if◌then◌else◌}
use Rattle.voy_schema.specs.Rows.{key_of}
use Rattle.voy_schema.specs.declared.table.Table.{Table}
use Rattle.voy_contents.proofs.ListLemmas.{get_push, get_set, length_push, length_set, set_same_at}
use Rattle.voy_contents.specs.MemTables.{IsMemTable, SweepsRows, is_in_place, rows_of}
use Rattle.voy_contents.specs.TableLists.{AreMemTables, DoesChange, SweepsLists, lists_of}
use Rattle.voy_contents.specs.declared.mem_table.MemTable.{MemTable}
use Rattle.voy_tables.specs.Changes.{RowChange, after_of, before_of, is_row_of, is_well_formed, key_changed, key_in, keyed_row, row_change, table_of}
use Rattle.voy_tables.specs.Keys.{same_key}
use Rattle.voy_tables.specs.Lists.{empty_lists, misfit_by, misfit_of, row_with_key, rows_after, unique_misfit}
use Rattle.voy_tables.specs.SameLaws.{same_key-decides}
use Rattle.voy_tables.specs.declared.change.Change.{Change}
use Rattle.voy_tables.specs.declared.change.Change.TheVariants.{Insert, Update, Delete}

pub lists_of-set : (tables : List MemTable) (at : ℕ) (m : MemTable) → lists_of (slice_set tables at m) ≡ slice_set (lists_of tables) at (rows_of m.rows)
lists_of-set [] at m = refl
lists_of-set (x ∷ tables) zero m = refl
lists_of-set (x ∷ tables) (suc at) m = ap (λ w. rows_of x.rows ∷ w) (lists_of-set tables at m)

pub lists_of-at : (tables : List MemTable) (at : ℕ) (m : MemTable) → slice_get tables at ≡ Some m → slice_get (lists_of tables) at ≡ Some (rows_of m.rows)
lists_of-at [] at m found = absurd (none-some m found)
lists_of-at (x ∷ tables) zero m found = ap (λ (z : MemTable). Some (rows_of z.rows)) (same_Some x m found)
lists_of-at (x ∷ tables) (suc at) m found = lists_of-at tables at m found

-- a well-formed change is of a table of the schema
pub table_there : (schema : List Table) (c : Change) → is_well_formed schema c ≡ true → IsSome (slice_get schema (table_of c))
table_there schema (Insert table after) well = by (slice_get schema table) well where
  by : (t : Option Table) → is_row_of t after ≡ true → IsSome t
  by None well = cc
  by (Some t) well = refl
table_there schema (Update table before after) well = by (slice_get schema table) (and_parts (is_row_of (slice_get schema table) before) _ (and_parts _ _ well).0).0 where
  by : (t : Option Table) → is_row_of t before ≡ true → IsSome t
  by None well = cc
  by (Some t) well = refl
table_there schema (Delete table before) well = by (slice_get schema table) well where
  by : (t : Option Table) → is_row_of t before ≡ true → IsSome t
  by None well = cc
  by (Some t) well = refl

-- one table has the same rows
pub lists_swept : (tables : List MemTable) (at : ℕ) (before after : MemTable) → at < length tables → slice_get tables at ≡ Some before
    → SweepsRows before.rows before.indexes after.rows after.indexes → SweepsLists tables (slice_set tables at after)
lists_swept tables at before after within was sweeps = record {
  lists = lists_of-set tables at after ∙ ap (slice_set (lists_of tables) at) sweeps.rows ∙ set_same_at (lists_of tables) at (rows_of before.rows) (lists_of-at tables at before was);
  stand = λ schema stand. record {
    as_many = length_set tables at after ∙ stand.as_many;
    each = λ n t m found is. by schema stand n (nat_eq n at) refl t m found (sym (get_set tables at n after within) ∙ is);
  };
}
  where
    by : (schema : List Table) → AreMemTables schema tables → (n : ℕ) (same : Bool) → nat_eq n at ≡ same → (t : Table) (m : MemTable) → slice_get schema n ≡ Some t
        → (if same then Some after else slice_get tables n) ≡ Some m → IsMemTable t m.rows m.indexes
    by schema stand n true same t m found is =
        subst (λ (x : MemTable). IsMemTable t x.rows x.indexes) (same_Some after m is) (sweeps.stands t (stand.each n t before found (ap (slice_get tables) (eqb-true n at same) ∙ was)))
    by schema stand n false same t m found is = stand.each n t m found is

-- the tables up to one place were made, with no rows
pub record AreMadeTo (schema : List Table) (at : ℕ) (tables : List MemTable) : Type 0 where
  pub as_many : length tables ≡ at
  pub each : (n : ℕ) (t : Table) (m : MemTable) → slice_get schema n ≡ Some t → slice_get tables n ≡ Some m → IsMemTable t m.rows m.indexes
  pub empty : (n : ℕ) (m : MemTable) → slice_get tables n ≡ Some m → m.rows ≡ []

pub none_made : (schema : List Table) → AreMadeTo schema 0 []
none_made schema = record { as_many = refl; each = λ n t m at_t at_m. absurd (none-some m at_m); empty = λ n m at_m. absurd (none-some m at_m) }

pub one_made : (schema : List Table) (at : ℕ) (tables : List MemTable) (t : Table) (m : MemTable) → AreMadeTo schema at tables → slice_get schema at ≡ Some t → IsMemTable t m.rows m.indexes → m.rows ≡ []
    → AreMadeTo schema (at + 1) (tables ++ m ∷ [])
one_made schema at tables t m made at_t stands empty = record {
  as_many = length_push tables m ∙ ap (λ n. n + 1) made.as_many;
  each = λ n x y at_x at_y. each_of n (nat_eq n (length tables)) refl x y at_x (sym (get_push tables m n) ∙ at_y);
  empty = λ n y at_y. empty_of n (nat_eq n (length tables)) y (sym (get_push tables m n) ∙ at_y);
}
  where
    each_of : (n : ℕ) (b : Bool) → nat_eq n (length tables) ≡ b → (x : Table) (y : MemTable) → slice_get schema n ≡ Some x → (if b then Some m else slice_get tables n) ≡ Some y → IsMemTable x y.rows y.indexes
    each_of n true is x y at_x at_y =
        let same : t ≡ x = same_Some t x (sym at_t ∙ ap (slice_get schema) (sym (eqb-true n (length tables) is ∙ made.as_many)) ∙ at_x) in
        subst (λ (z : MemTable). IsMemTable x z.rows z.indexes) (same_Some m y at_y) (subst (λ (z : Table). IsMemTable z m.rows m.indexes) same stands)
    each_of n false is x y at_x at_y = made.each n x y at_x at_y

    empty_of : (n : ℕ) (b : Bool) (y : MemTable) → (if b then Some m else slice_get tables n) ≡ Some y → y.rows ≡ []
    empty_of n true y at_y = subst (λ (z : MemTable). z.rows ≡ []) (same_Some m y at_y) empty
    empty_of n false y at_y = made.empty n y at_y

pub all_made_stand : (schema : List Table) (at : ℕ) (tables : List MemTable) → AreMadeTo schema at tables → at ≡ length schema → AreMemTables schema tables
all_made_stand schema at tables made all = record { as_many = made.as_many ∙ all; each = made.each }

pub all_made_empty : (schema : List Table) (at : ℕ) (tables : List MemTable) → AreMadeTo schema at tables → at ≡ length schema → lists_of tables ≡ empty_lists schema
all_made_empty schema at tables made all = by tables schema (made.as_many ∙ all) made.empty where
  by : (tables : List MemTable) (schema : List Table) → length tables ≡ length schema → ((n : ℕ) (m : MemTable) → slice_get tables n ≡ Some m → m.rows ≡ []) → lists_of tables ≡ empty_lists schema
  by [] [] same empty = refl
  by [] (t ∷ schema) same empty = cc
  by (m ∷ tables) [] same empty = cc
  by (m ∷ tables) (t ∷ schema) same empty = λ i. rows_of (empty zero m refl i) ∷ by tables schema (cc) (λ n x at_x. empty (suc n) x at_x) i

-- a well-formed change keeps its key
pub keeps_key : (schema : List Table) (c : Change) (t : Table) → slice_get schema (table_of c) ≡ Some t → is_well_formed schema c ≡ true → is_in_place t (key_changed t c) (after_of c) ≡ true
keeps_key schema (Insert table after) t found well = (same_key-decides (key_of t after) (key_of t after)).1 refl
keeps_key schema (Update table before after) t found well =
    let keys = (and_parts (is_row_of (slice_get schema table) before && is_row_of (slice_get schema table) after) (same_key (key_in (slice_get schema table) before) (key_in (slice_get schema table) after)) well).1 in
    let same : same_key (key_of t before) (key_of t after) ≡ true = rw found at keys in
    (same_key-decides (key_of t after) (key_of t before)).1 (sym ((same_key-decides (key_of t before) (key_of t after)).0 same))
keeps_key schema (Delete table before) t found well = refl

-- a change of a row, as a change of the table that has this key
pub change_is : (schema : List Table) (c : Change) (t : Table) (key : List (List ℕ)) → slice_get schema (table_of c) ≡ Some t → key ≡ key_changed t c
    → (◌≡◌ {A = RowChange} (record { row = record { table = table_of c; key = key }; before = before_of c; after = after_of c }) (row_change schema c))
change_is schema c t key found is = λ i. record { row = record { table = table_of c; key = (is ∙ sym (ap (λ f. key_in f (keyed_row c)) found)) i }; before = before_of c; after = after_of c }

-- why a change does not fit, by its table
pub misfit_at : (schema : List Table) (c : RowChange) (tables : List MemTable) (t : Table) (m : MemTable) → slice_get schema c.row.table ≡ Some t → slice_get tables c.row.table ≡ Some m
    → misfit_of schema c (lists_of tables) ≡ misfit_by c.before (row_with_key t c.row.key (rows_of m.rows)) (unique_misfit t c.row.key c.after (rows_of m.rows))
misfit_at schema c tables t m found there = rw (found, lists_of-at tables c.row.table m there) refl

-- one table was changed
pub one_changed : (schema : List Table) (c : RowChange) (tables : List MemTable) (t : Table) (before after : MemTable) → AreMemTables schema tables
    → slice_get schema c.row.table ≡ Some t → slice_get tables c.row.table ≡ Some before → c.row.table < length tables
    → misfit_by c.before (row_with_key t c.row.key (rows_of before.rows)) (unique_misfit t c.row.key c.after (rows_of before.rows)) ≡ None
    → IsMemTable t after.rows after.indexes → rows_of after.rows ≡ rows_after t c.row.key c.after (rows_of before.rows)
    → DoesChange schema c tables (slice_set tables c.row.table after)
one_changed schema c tables t before after stand found there within fits stands rows = record {
  stand = record {
    as_many = length_set tables c.row.table after ∙ stand.as_many;
    each = λ n x m at_x at_m. by n (nat_eq n c.row.table) refl x m at_x (sym (get_set tables c.row.table n after within) ∙ at_m);
  };
  fits = misfit_at schema c tables t before found there ∙ fits;
  lists = lists_of-set tables c.row.table after ∙ ap (slice_set (lists_of tables) c.row.table) rows ∙ sym (rw (found, lists_of-at tables c.row.table before there) refl);
}
  where
    by : (n : ℕ) (same : Bool) → nat_eq n c.row.table ≡ same → (x : Table) (m : MemTable) → slice_get schema n ≡ Some x
        → (if same then Some after else slice_get tables n) ≡ Some m → IsMemTable x m.rows m.indexes
    by n true same x m at_x is =
        let t_is : t ≡ x = same_Some t x (sym found ∙ ap (slice_get schema) (sym (eqb-true n c.row.table same)) ∙ at_x) in
        subst (λ (y : MemTable). IsMemTable x y.rows y.indexes) (same_Some after m is) (subst (λ (y : Table). IsMemTable y after.rows after.indexes) t_is stands)
    by n false same x m at_x is = stand.each n x m at_x is

-- one table was changed, or the change was refused
pub changed_if : {T E : Type 0} (result : Result T E) (schema : List Table) (c : RowChange) (tables : List MemTable) (t : Table) (before after : MemTable) → AreMemTables schema tables
    → slice_get schema c.row.table ≡ Some t → slice_get tables c.row.table ≡ Some before → c.row.table < length tables
    → OnOk result (misfit_by c.before (row_with_key t c.row.key (rows_of before.rows)) (unique_misfit t c.row.key c.after (rows_of before.rows)) ≡ None)
    → OnOk result (IsMemTable t after.rows after.indexes) → OnOk result (rows_of after.rows ≡ rows_after t c.row.key c.after (rows_of before.rows))
    → OnOk result (DoesChange schema c tables (slice_set tables c.row.table after))
changed_if (Ok x) schema c tables t before after stand found there within fits stands rows = one_changed schema c tables t before after stand found there within fits stands rows
changed_if (Err e) schema c tables t before after stand found there within fits stands rows = tt
