-- Rows that were read, and those behind them.
use Rattle.std.proofs.Common.{◌≡◌, ◌==◌, ℕ, List, [], ◌++◌, length, Result, Ok, Err, inl, inr, refl, sym, ap, ◌∙◌}
use Rattle.std.specs.List.{range_with_len}
use Rattle.std.specs.Prelude.{slice_index_or}
use Rattle.std.proofs.lemmas.Bool.{cases_Bool, eqb-true}
use Rattle.std.proofs.lemmas.List.FromFn.{fill_by_all}
use Rattle.voy_schema.specs.declared.table.Table.{Table}
use Rattle.voy_schema.specs.declared.value.Value.{Value}
use Rattle.voy_tables.specs.Readings.{fields_at, record_reading, records_reading}
use Rattle.voy_tables.specs.declared.row_error.RowWhy.{RowWhy}
use Rattle.voy_tables.specs.declared.row_error.RowError.{RowError}

-- these rows and then what is read behind them
abbrev pub rows_then : List (List Value) → Result (List (List Value)) RowError → Result (List (List Value)) RowError
rows_then rows (Ok more) = Ok (rows ++ more)
rows_then rows (Err e) = Err e

-- fields in the order of the columns are the fields themselves
fields_at-in_order : (fields : List (List ℕ)) → fields_at (range_with_len 0 (length fields)) fields ≡ fields
fields_at-in_order fields = sym (fill_by_all (λ place. slice_index_or fields place []) fields (length fields) [] refl (λ k within. refl))

record_reading-in_order : (t : Table) (fields : List (List ℕ))
    → record_reading t (fields_at (range_with_len 0 (length t.columns))) fields ≡ record_reading t (λ f. f) fields
record_reading-in_order t fields = elim (cases_Bool (length fields == length t.columns)) [
  | inl same ↦
      let order : fields_at (range_with_len 0 (length t.columns)) fields ≡ fields =
      ap (λ n. fields_at (range_with_len 0 n) fields) (sym (eqb-true (length fields) (length t.columns) same)) ∙ fields_at-in_order fields in
      rw order
  | inr other ↦ rw other
]

pub records_reading-in_order : (t : Table) (places : List ℕ) (line : ℕ) (left all : List (List (List ℕ))) → places ≡ range_with_len 0 (length t.columns) → left ≡ all
    → records_reading (record_reading t (fields_at places)) line left ≡ records_reading (record_reading t (λ f. f)) line all
records_reading-in_order t places line left all order whole =
    let same : ◌≡◌ {A = List (List ℕ) → Result (List Value) RowWhy} (record_reading t (fields_at places)) (record_reading t (λ f. f)) =
    λ i fields. (ap (λ (ps : List ℕ). record_reading t (fields_at ps) fields) order ∙ record_reading-in_order t fields) i in
    λ i. records_reading (same i) line (whole i)
