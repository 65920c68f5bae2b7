-- The texts of rows, one behind the other.
use Rattle.std.proofs.Common.{◌≡◌, ◌≤◌, ℕ, true, List, [], ◌∷◌, ◌++◌, append_assoc, length, map, refl, sym, ap, ◌∙◌, arith}
use Rattle.std.specs.List.{list_all}
use Rattle.std.proofs.lemmas.Bool.{and_parts}
use Rattle.std.proofs.lemmas.List.{length-append}
use Rattle.std.proofs.lemmas.Option.{same_Some}
use Rattle.csv.proofs.RoundTrip.{read-write}
use Rattle.csv.specs.Machine.{next_record}
use Rattle.csv.specs.Reading.{default_config}
use Rattle.csv.specs.Writing.{read_back}
use Rattle.csv.specs.declared.parser.State.TheVariants as st
use Rattle.voy_schema.specs.Rows.{has_lawful_values, has_whole_key, is_lawful_row}
use Rattle.voy_schema.specs.declared.table.Column.{Column}
use Rattle.voy_schema.specs.declared.table.Table.{Table}
use Rattle.voy_schema.specs.declared.value.Value.{Value}
use Rattle.voy_tables.proofs.BackLemmas.{fields_read_back, no_empty_row}
use Rattle.voy_tables.specs.Readings.{row_of}
use Rattle.voy_tables.specs.RowText.{field_of, row_line, row_lines}
use Rattle.voy_tables.specs.RowTextLaws.{row_line-some}

-- the fields of a lawful row are read back as they are
whole_back : (columns : List Column) (row : List Value) → 1 ≤ length columns → has_lawful_values columns row ≡ true → read_back (map field_of row) ≡ map field_of row
whole_back columns [] wide lawful = absurd (no_empty_row columns wide lawful)
whole_back columns (v ∷ row) wide lawful = refl

values_of : (t : Table) (row : List Value) → is_lawful_row t row ≡ true → has_lawful_values t.columns row ≡ true
values_of t row lawful = (and_parts (has_lawful_values t.columns row) (has_whole_key t row) lawful).0

-- where two rows' texts begin one text, both are one row, and the same stands behind them
pub row_lines-apart : (t : Table) (a b : List Value) (behind_a behind_b : List ℕ) → 1 ≤ length t.columns → is_lawful_row t a ≡ true → is_lawful_row t b ≡ true
    → row_line a ++ behind_a ≡ row_line b ++ behind_b → (a ≡ b) × (behind_a ≡ behind_b)
unfolding row_line
row_lines-apart t a b behind_a behind_b wide lawful_a lawful_b same =
    let both = same_Some _ _ (sym (read-write (map field_of a) behind_a) ∙ ap (next_record default_config st.StartRecord [] []) same ∙ read-write (map field_of b) behind_b) in
    let fields : map field_of a ≡ map field_of b =
    sym (whole_back t.columns a wide (values_of t a lawful_a)) ∙ ap (λ found. found.0) both ∙ whole_back t.columns b wide (values_of t b lawful_b) in
    let rows = sym (fields_read_back t.columns a (values_of t a lawful_a)) ∙ ap (row_of t.columns) fields ∙ fields_read_back t.columns b (values_of t b lawful_b) in
    (same_Some a b rows, ap (λ found. found.2) both)

-- what stands behind the text of some rows is the text of the next rows
pub rows_behind : (t : Table) (first rows : List (List Value)) (rest : List ℕ) → 1 ≤ length t.columns
    → list_all (is_lawful_row t) first ≡ true → list_all (is_lawful_row t) rows ≡ true → row_lines first ++ rest ≡ row_lines rows
    → (next : List (List Value)) × (rows ≡ first ++ next) × (rest ≡ row_lines next)
rows_behind t [] rows rest wide lawful_first lawful same = (rows, refl, same)
rows_behind t (a ∷ first) [] rest wide lawful_first lawful same =
    let long = sym (length-append (row_line a ++ row_lines first) rest) ∙ ap length same in
    absurd (omega (arith, long, length-append (row_line a) (row_lines first), row_line-some a))
rows_behind t (a ∷ first) (b ∷ rows) rest wide lawful_first lawful same =
    let firsts = and_parts (is_lawful_row t a) (list_all (is_lawful_row t) first) lawful_first in
    let all = and_parts (is_lawful_row t b) (list_all (is_lawful_row t) rows) lawful in
    let heads = row_lines-apart t a b (row_lines first ++ rest) (row_lines rows) wide firsts.0 all.0 (sym (append_assoc (row_line a) (row_lines first) rest) ∙ same) in
    let behind = rows_behind t first rows rest wide firsts.1 all.1 heads.1 in
    (behind.0, (λ i. sym heads.0 i ∷ behind.1 i), behind.2)
