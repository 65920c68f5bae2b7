-- Lists of rows that are the tables of a schema, and stay so.
use Rattle.std.proofs.Common.{◌≡◌, ℕ, zero, suc, ◌<◌, true, List, [], ◌∷◌, length, Some, Result, Ok, Err, OnOk, OnErr, get_or, refl, ap, subst, arith}
use Rattle.std.specs.List.{list_all}
use Rattle.std.specs.Prelude.{slice_get, slice_set}
use Rattle.std.proofs.lemmas.Bool.{and_from, and_parts}
use Rattle.std.proofs.lemmas.Option.{slice_get_read, slice_get_within}
use Rattle.std.specs.declared.alloc.AllocError.{AllocError}
use Rattle.voy_schema.specs.Rows.{is_lawful_row, key_of}
use Rattle.voy_schema.specs.declared.table.Table.{Table}
use Rattle.voy_schema.specs.declared.value.Value.{Value}
use Rattle.voy_tables.proofs.OrderLemmas.{ascends-with_row, ascends-without_key, list_all-with_row, list_all-without_key}
use Rattle.voy_tables.specs.Changes.{row_change}
use Rattle.voy_tables.specs.declared.change.Change.TheVariants.{Insert, Delete}
use Rattle.voy_tables.specs.Lists.{empty_lists, lists_after, rows_in, with_row, without_key}
use Rattle.voy_tables.specs.Standing.{are_tables, ascends, is_table}

pub is_table-with_row : (t : Table) (row : List Value) (rows : List (List Value))
    → is_lawful_row t row ≡ true → is_table t rows ≡ true → is_table t (with_row t row rows) ≡ true
is_table-with_row t row rows lawful h =
    and_from _ _ (list_all-with_row (is_lawful_row t) t row rows lawful (and_parts _ _ h).0) (ascends-with_row t row rows (and_parts _ _ h).1)

pub is_table-without_key : (t : Table) (key : List (List ℕ)) (rows : List (List Value))
    → is_table t rows ≡ true → is_table t (without_key t key rows) ≡ true
is_table-without_key t key rows h =
    and_from _ _ (list_all-without_key (is_lawful_row t) t key rows (and_parts _ _ h).0) (ascends-without_key t key rows (and_parts _ _ h).1)

pub is_table-ascends : (t : Table) (rows : List (List Value)) → is_table t rows ≡ true → ascends t rows ≡ true
is_table-ascends t rows h = (and_parts (list_all (is_lawful_row t) rows) (ascends t rows) h).1

pub are_tables-empty : (schema : List Table) → are_tables schema (empty_lists schema) ≡ true
are_tables-empty [] = refl
are_tables-empty (t ∷ schema) = are_tables-empty schema

pub are_tables-length : (schema : List Table) (lists : List (List (List Value))) → are_tables schema lists ≡ true → length lists ≡ length schema
are_tables-length [] [] h = refl
are_tables-length [] (rows ∷ lists) h = cc
are_tables-length (t ∷ schema) [] h = cc
are_tables-length (t ∷ schema) (rows ∷ lists) h = ap suc (are_tables-length schema lists (and_parts _ _ h).1)

pub are_tables-at : (schema : List Table) (lists : List (List (List Value))) (at : ℕ) (t : Table)
    → are_tables schema lists ≡ true → slice_get schema at ≡ Some t → is_table t (rows_in (slice_get lists at)) ≡ true
are_tables-at [] lists at t h found = cc
are_tables-at (s ∷ schema) [] at t h found = cc
are_tables-at (s ∷ schema) (rows ∷ lists) zero t h found =
    let same : s ≡ t = cc in subst (λ x. is_table x rows ≡ true) same (and_parts _ _ h).0
are_tables-at (s ∷ schema) (rows ∷ lists) (suc at) t h found = are_tables-at schema lists at t (and_parts _ _ h).1 found

pub are_tables-set : (schema : List Table) (lists : List (List (List Value))) (at : ℕ) (t : Table) (rows : List (List Value))
    → are_tables schema lists ≡ true → slice_get schema at ≡ Some t → is_table t rows ≡ true → are_tables schema (slice_set lists at rows) ≡ true
are_tables-set [] lists at t rows h found new = cc
are_tables-set (s ∷ schema) [] at t rows h found new = cc
are_tables-set (s ∷ schema) (old ∷ lists) zero t rows h found new =
    let same : t ≡ s = cc in and_from _ _ (subst (λ x. is_table x rows ≡ true) same new) (and_parts _ _ h).1
are_tables-set (s ∷ schema) (old ∷ lists) (suc at) t rows h found new =
    and_from _ _ (and_parts _ _ h).0 (are_tables-set schema lists at t rows (and_parts _ _ h).1 found new)

-- the place of a table is one of the lists
pub within_lists : (schema : List Table) (lists : List (List (List Value))) (at : ℕ) (t : Table)
    → are_tables schema lists ≡ true → slice_get schema at ≡ Some t → at < length lists
within_lists schema lists at t h found = let n = are_tables-length schema lists h in let m = slice_get_within schema at t found in omega arith

-- the rows of a table that is there
pub rows_there : (lists : List (List (List Value))) (at : ℕ) (rows : List (List Value))
    → at < length lists → rows ≡ get_or lists at rows → rows_in (slice_get lists at) ≡ rows
rows_there lists at rows within is = ap rows_in (slice_get_read lists (length lists) at rows refl within is)

-- a table whose rows took one more, or stayed as they were for want of memory, is one still
pub is_table-put : (r : Result (Unit {0}) AllocError) (t : Table) (row : List Value) (old new : List (List Value))
    → OnOk r (new ≡ with_row t row old) → OnErr r (new ≡ old) → is_lawful_row t row ≡ true → is_table t old ≡ true → is_table t new ≡ true
is_table-put (Ok u) t row old new ok err lawful h = rw ok (is_table-with_row t row old lawful h)
is_table-put (Err e) t row old new ok err lawful h = rw err h

-- what an insert and a delete leave of all tables
pub lists_after-insert : (schema : List Table) (lists : List (List (List Value))) (at : ℕ) (t : Table) (row : List Value) (old : List (List Value))
    → slice_get schema at ≡ Some t → rows_in (slice_get lists at) ≡ old
    → slice_set lists at (with_row t row old) ≡ lists_after schema (row_change schema (Insert at row)) lists
lists_after-insert schema lists at t row old found there = rw (found, there)

pub lists_after-delete : (schema : List Table) (lists : List (List (List Value))) (at : ℕ) (t : Table) (row : List Value) (old : List (List Value))
    → slice_get schema at ≡ Some t → rows_in (slice_get lists at) ≡ old
    → slice_set lists at (without_key t (key_of t row) old) ≡ lists_after schema (row_change schema (Delete at row)) lists
lists_after-delete schema lists at t row old found there = rw (found, there)
