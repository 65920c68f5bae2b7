-- How many bytes the fields of a row take.
use Rattle.std.proofs.Common.{◌≡◌, ◌==◌, ◌≤◌, ◌<◌, ℕ, true, false, List, [], ◌∷◌, ◌+◌, ◌-◌, ◌++◌, length, length-append, drop, drop-cons, add-one, suc, map, get_or, cond, inl, inr, refl, sym, ap, ◌∙◌, arith}
use Rattle.std.specs.List.{count_by}
use Rattle.std.specs.Prelude.{nat_lt}
use Rattle.std.proofs.lemmas.List.Recursion.{is_count_by}
use Rattle.std.proofs.lemmas.Bool.{cases_Bool, cases_lt, eqb-true, le-ltb, lt-ltb}
use Rattle.csv.specs.Writing.{default_writer, escaped, field_text, fields_text, is_blank, needs_quotes}
use Rattle.voy_schema.specs.declared.value.Value.{Value}
use Rattle.voy_tables.specs.RowText.{field_of, is_too_long, max_row_text_bytes, row_line, starts_with_backslash, text_field}

-- the bytes of all fields, each with the comma in front of it
pub fields_size : List Value → ℕ
fields_size row = length (fields_text default_writer (map field_of row))

abbrev quotes_in : List ℕ → ℕ
quotes_in [] = 0
quotes_in (b ∷ bs) = cond (b == 34) (1 + quotes_in bs) (quotes_in bs)

-- each quote is doubled
escaped-length : (text : List ℕ) → length (escaped default_writer text) ≡ length text + quotes_in text
unfolding escaped
escaped-length [] = refl
escaped-length (b ∷ rest) = elim (cases_Bool (b == 34)) [
  | inl same ↦ rw same (omega (arith, escaped-length rest))
  | inr other ↦ rw other (omega (arith, escaped-length rest))
]

-- a field that calls for no quotes is itself
pub field_text-plain : (text : List ℕ) → needs_quotes default_writer text ≡ false → length text + 0 ≡ length (field_text default_writer text)
field_text-plain text plain = rw plain (omega arith)

-- and else it has two quotes round it, and each quote in it twice
pub field_text-quoted : (text : List ℕ) → needs_quotes default_writer text ≡ true
    → length text + (count_by (λ b. b == 34) text + 2) ≡ length (field_text default_writer text)
field_text-quoted text needs =
    let counted = is_count_by quotes_in (λ b. b == 34) refl (λ _ _. refl) text in
    let inside = escaped-length text in
    let around = length-append (escaped default_writer text) (34 ∷ []) in
    rw (needs, ← counted) (omega arith)

-- one more backslash in front is one more byte
field_text-backslash : (text : List ℕ) → length (field_text default_writer (92 ∷ text)) ≡ length (field_text default_writer text) + 1
unfolding escaped
field_text-backslash text = elim (cases_Bool (needs_quotes default_writer text)) [
  | inl needs ↦ rw needs (omega arith)
  | inr plain ↦ rw plain (omega arith)
]

-- the field of a text has its bytes, and one more where it begins with a backslash
pub text_field-escaped : (text : List ℕ) → starts_with_backslash text ≡ true
    → length (field_text default_writer (text_field text)) ≡ length (field_text default_writer text) + 1
text_field-escaped text starts = rw starts (field_text-backslash text)

pub text_field-plain : (text : List ℕ) → starts_with_backslash text ≡ false
    → length (field_text default_writer (text_field text)) ≡ length (field_text default_writer text)
text_field-plain text other = rw other

field_text-length : (text : List ℕ) → length text ≤ length (field_text default_writer text)
field_text-length text = elim (cases_Bool (needs_quotes default_writer text)) [
  | inl needs ↦ omega (arith, field_text-quoted text needs)
  | inr plain ↦ omega (arith, field_text-plain text plain)
]

pub text_field-length : (text : List ℕ) → length text ≤ length (field_text default_writer (text_field text))
text_field-length text = elim (cases_Bool (starts_with_backslash text)) [
  | inl starts ↦ omega (arith, field_text-length text, text_field-escaped text starts)
  | inr other ↦ omega (arith, field_text-length text, text_field-plain text other)
]

pub fields_size-none : fields_size [] ≡ 0
unfolding fields_text fields_size
fields_size-none = refl

-- what is left after a field and its comma
pub fields_size-cons : (v : Value) (row : List Value) → fields_size (v ∷ row) ≡ length (field_text default_writer (field_of v)) + 1 + fields_size row
unfolding fields_text fields_size
fields_size-cons v row = omega (arith, length-append (field_text default_writer (field_of v)) (fields_text default_writer (map field_of row)))

-- a row text is too long where its fields are, each with one byte behind it
pub is_too_long-fields : (row : List Value) → is_too_long row ≡ nat_lt max_row_text_bytes (fields_size row)
unfolding row_line fields_text is_blank fields_size
is_too_long-fields [] = refl
is_too_long-fields (v ∷ w ∷ row) =
    let first = field_text default_writer (field_of v) in
    let others = fields_text default_writer (map field_of (w ∷ row)) in
    ap (nat_lt max_row_text_bytes) (omega (arith, length-append (first ++ others) (10 ∷ []), length-append first others))
is_too_long-fields (v ∷ []) =
    let field = field_text default_writer (field_of v) in
    elim (cases_Bool (length field == 0)) [
      | inl blank ↦ rw blank (
          let none = eqb-true (length field) 0 blank in
          let size = length-append (field ++ []) (34 ∷ 34 ∷ 10 ∷ []) in
          let same = length-append field [] in
          le-ltb max_row_text_bytes _ (omega arith) ∙ sym (le-ltb max_row_text_bytes _ (omega arith)))
      | inr other ↦ rw other (ap (nat_lt max_row_text_bytes) (omega (arith, length-append (field ++ []) (10 ∷ []), length-append field [])))
    ]

-- the first field of what is left of a row
pub fields_size-drop : (row : List Value) (at : ℕ) (v : Value) → at < length row → v ≡ get_or row at v
    → fields_size (drop at row) ≡ length (field_text default_writer (field_of v)) + 1 + fields_size (drop (at + 1) row)
fields_size-drop row at v within is = rw (drop-cons row at v within, ← is, add-one at) (fields_size-cons v (drop (suc at) row))

-- a limit less what has been counted
pub limit-less : (left size rest whole : ℕ) → whole ≡ size + 1 + rest → size < left → nat_lt left whole ≡ nat_lt (left - (size + 1)) rest
limit-less left size rest whole e within = elim (cases_lt left whole) [
  | inl past ↦ lt-ltb left whole past ∙ sym (lt-ltb (left - (size + 1)) rest (omega arith))
  | inr fits ↦ le-ltb left whole fits ∙ sym (le-ltb (left - (size + 1)) rest (omega arith))
]
