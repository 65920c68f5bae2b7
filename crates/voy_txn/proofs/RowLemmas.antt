-- The rows of a payload: what is read of them is what was written of them.
use Rattle.std.proofs.Common.{◌≡◌, ℕ, zero, suc, ◌<◌, ◌^◌, true, cond, List, [], ◌∷◌, ◌++◌, get_or, length, Some, None, Result, Ok, Err, refl, sym, ap, subst, ◌∙◌, arith}
use Rattle.std.specs.Bool.{◌==◌}
use Rattle.std.specs.List.{flat_map, list_all}
use Rattle.std.specs.Result.{result_ok}
use Rattle.std.proofs.lemmas.Bool.{and_parts, eqb-true}
use Rattle.voy_schema.specs.Lawful.{is_lawful_table}
use Rattle.voy_schema.specs.LawfulLaws.{table_parts}
use Rattle.voy_schema.specs.declared.table.Table.{Table}
use Rattle.voy_schema.specs.declared.value.Value.{Value}
use Rattle.voy_tables.specs.Readings.{rows_reading}
use Rattle.voy_tables.specs.RowLaws.{RowsReadBack, is_written}
use Rattle.voy_tables.specs.RowText.{row_lines}
use Rattle.voy_tables.specs.Standing.{ascends}
use Rattle.voy_txn.specs.LawfulTxn.{AreLoaded, AreWritten}
use Rattle.voy_txn.specs.Payload.{number, rows_part, sized}
use Rattle.voy_txn.specs.Reading.{◌>>=◌, counted_rows, lists_of, part_at, sorted_rows}
use Rattle.voy_txn.proofs.FieldLemmas.{AreBytes, Takes, bind_some, part_again, part_takes, passed}

-- a reading that gave something was no refusal
pub ok_from_some : {A E : Type 0} (r : Result A E) (x : A) → result_ok r ≡ Some x → r ≡ Ok x
ok_from_some (Ok y) x read = let same : y ≡ x = cc in ap Ok same
ok_from_some (Err e) x read = absurd cc

-- rows that were read of their texts
pub record AreRowsIn (t : Table) (count : ℕ) (text : List ℕ) (rows : List (List Value)) : Type 0 where
  pub text_is : text ≡ row_lines rows
  pub each : list_all (is_written t) rows ≡ true
  pub count_is : length rows ≡ count

pub counted_take : RowsReadBack → (t : Table) (count : ℕ) (text : List ℕ) (rows : List (List Value)) → is_lawful_table t ≡ true
    → counted_rows t count text ≡ Some rows → AreRowsIn t count text rows
unfolding counted_rows
counted_take by_rows t count text rows lawful read =
    let step = bind_some (result_ok (rows_reading t text)) (λ (rows : List (List Value)). cond (length rows == count) (Some rows) None) rows read in
    let test = passed (length step.0 == count) step.0 rows step.2 in
    let exact = (by_rows t step.0 text (table_parts t lawful).has_columns).0 (ok_from_some _ _ step.1) in
    let made : AreRowsIn t count text step.0 = record { text_is = exact.0; each = exact.1; count_is = eqb-true _ _ test.0 } in
    subst (AreRowsIn t count text) test.1 made

pub counted_again : RowsReadBack → (t : Table) (rows : List (List Value)) → is_lawful_table t ≡ true → list_all (is_written t) rows ≡ true
    → counted_rows t (length rows) (row_lines rows) ≡ Some rows
unfolding counted_rows
counted_again by_rows t rows lawful each =
    let read : rows_reading t (row_lines rows) ≡ Ok rows = (by_rows t rows (row_lines rows) (table_parts t lawful).has_columns).1 (refl, each) in
    let counted : (length rows == length rows) ≡ true = grind arith in
    rw (read, counted) refl

-- the part of a table's rows
pub rows_take : RowsReadBack → (t : Table) (bytes : List ℕ) (part : ℕ × List ℕ × List ℕ) (rows : List (List Value)) → is_lawful_table t ≡ true → AreBytes bytes
    → part_at bytes ≡ Some part → counted_rows t part.0 part.1 ≡ Some rows → Takes bytes (rows_part rows) part.2 × AreWritten t rows
unfolding rows_part
rows_take by_rows t bytes part rows lawful fit read counted =
    let front = part_takes bytes part fit read in
    let are = counted_take by_rows t part.0 part.1 rows lawful counted in
    let by_count : Takes bytes (number (length rows) ++ sized part.1) part.2 =
    subst (λ n. Takes bytes (number n ++ sized part.1) part.2) (sym are.count_is) front.0 in
    let text : Takes bytes (number (length rows) ++ sized (row_lines rows)) part.2 =
    subst (λ (x : List ℕ). Takes bytes (number (length rows) ++ sized x) part.2) are.text_is by_count in
    let written : AreWritten t rows = record {
      each = are.each;
      count = omega (arith, front.1, are.count_is);
      bytes = subst (λ (x : List ℕ). length x < 2 ^ 32) are.text_is front.2;
    } in
    (text, written)

pub rows_part_again : (t : Table) (rows : List (List Value)) (rest : List ℕ) → AreWritten t rows
    → part_at (rows_part rows ++ rest) ≡ Some (length rows, row_lines rows, rest)
unfolding rows_part
rows_part_again t rows rest written = part_again (length rows) (row_lines rows) rest written.count written.bytes

sorted_parts : (t : Table) (count : ℕ) (text : List ℕ) (rows : List (List Value))
    → sorted_rows t count text ≡ Some rows → (counted_rows t count text ≡ Some rows) × (ascends t rows ≡ true)
unfolding sorted_rows
sorted_parts t count text rows read =
    let step = bind_some (counted_rows t count text) (λ (rows : List (List Value)). cond (ascends t rows) (Some rows) None) rows read in
    let test = passed (ascends t step.0) step.0 rows step.2 in
    (subst (λ (x : List (List Value)). counted_rows t count text ≡ Some x) test.1 step.1, subst (λ (x : List (List Value)). ascends t x ≡ true) test.1 test.0)

sorted_again : RowsReadBack → (t : Table) (rows : List (List Value)) → is_lawful_table t ≡ true → AreWritten t rows → ascends t rows ≡ true
    → sorted_rows t (length rows) (row_lines rows) ≡ Some rows
unfolding sorted_rows
sorted_again by_rows t rows lawful written up = rw (counted_again by_rows t rows lawful written.each, up) refl

-- ---- the rows of all tables

pub lists_take : RowsReadBack → (schema : List Table) (bytes : List ℕ) (lists : List (List (List Value))) → list_all is_lawful_table schema ≡ true → AreBytes bytes
    → lists_of schema bytes ≡ Some lists → AreLoaded schema lists × (bytes ≡ flat_map rows_part lists)
unfolding lists_of
lists_take by_rows [] [] lists lawful fit read =
    let same : ◌≡◌ {A = List (List (List Value))} [] lists = cc in
    subst (λ (x : List (List (List Value))). AreLoaded [] x × ([] ≡ flat_map rows_part x)) same (tt, refl)
lists_take by_rows [] (b ∷ bytes) lists lawful fit read = absurd cc
lists_take by_rows (t ∷ schema) bytes lists lawful fit read =
    let lawful_parts = and_parts _ _ lawful in
    let part = bind_some (part_at bytes) (λ part. sorted_rows t part.0 part.1 >>= λ rows. lists_of schema part.2 >>= λ more. Some (rows ∷ more)) lists read in
    let rows = bind_some (sorted_rows t part.0.0 part.0.1) (λ rows. lists_of schema part.0.2 >>= λ more. Some (rows ∷ more)) lists part.2 in
    let more = bind_some (lists_of schema part.0.2) (λ more. Some (rows.0 ∷ more)) lists rows.2 in
    let sorted = sorted_parts t part.0.0 part.0.1 rows.0 rows.1 in
    let front = rows_take by_rows t bytes part.0 rows.0 lawful_parts.0 fit part.1 sorted.0 in
    let rest = lists_take by_rows schema part.0.2 more.0 lawful_parts.1 front.0.fit more.1 in
    let text : bytes ≡ rows_part rows.0 ++ flat_map rows_part more.0 = front.0.parts ∙ ap (λ (x : List ℕ). rows_part rows.0 ++ x) rest.1 in
    let same : rows.0 ∷ more.0 ≡ lists = cc in
    subst (λ (x : List (List (List Value))). AreLoaded (t ∷ schema) x × (bytes ≡ flat_map rows_part x)) same ((front.1, sorted.1, rest.0), text)

pub lists_again : RowsReadBack → (schema : List Table) (lists : List (List (List Value))) → list_all is_lawful_table schema ≡ true → AreLoaded schema lists
    → lists_of schema (flat_map rows_part lists) ≡ Some lists
unfolding lists_of
lists_again by_rows [] [] lawful loaded = refl
lists_again by_rows [] (rows ∷ lists) lawful loaded = absurd loaded
lists_again by_rows (t ∷ schema) [] lawful loaded = absurd loaded
lists_again by_rows (t ∷ schema) (rows ∷ lists) lawful loaded =
    let lawful_parts = and_parts _ _ lawful in
    rw (rows_part_again t rows (flat_map rows_part lists) loaded.0, sorted_again by_rows t rows lawful_parts.0 loaded.0 loaded.1, lists_again by_rows schema lists lawful_parts.1 loaded.2) refl

-- a load has as many lists as the schema has tables
pub loaded_length : (schema : List Table) (lists : List (List (List Value))) → AreLoaded schema lists → length lists ≡ length schema
loaded_length [] [] loaded = refl
loaded_length [] (rows ∷ lists) loaded = absurd loaded
loaded_length (t ∷ schema) [] loaded = absurd loaded
loaded_length (t ∷ schema) (rows ∷ lists) loaded = ap suc (loaded_length schema lists loaded.2)

-- four bytes can state how many rows each list of a load has, and how many bytes their texts
pub loaded_at : (schema : List Table) (lists : List (List (List Value))) (i : ℕ) (rows : List (List Value)) → AreLoaded schema lists → i < length lists
    → rows ≡ get_or lists i rows → (length rows < 2 ^ 32) × (length (row_lines rows) < 2 ^ 32)
loaded_at [] [] i rows loaded within is = absurd (omega arith)
loaded_at [] (r ∷ lists) i rows loaded within is = absurd loaded
loaded_at (t ∷ schema) [] i rows loaded within is = absurd (omega arith)
loaded_at (t ∷ schema) (r ∷ lists) zero rows loaded within is =
    subst (λ (x : List (List Value)). (length x < 2 ^ 32) × (length (row_lines x) < 2 ^ 32)) (sym is) (loaded.0.count, loaded.0.bytes)
loaded_at (t ∷ schema) (r ∷ lists) (suc i) rows loaded within is = loaded_at schema lists i rows loaded.2 (omega arith) is
