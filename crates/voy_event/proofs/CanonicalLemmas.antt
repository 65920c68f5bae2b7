-- The data of a lawful event is canonical: its texts are UTF-8 and its names ascend.
use Rattle.std.proofs.Common.{◌≡◌, ℕ, zero, suc, ◌<◌, ◌≤◌, ◌^◌, List, [], ◌∷◌, Bool, true, Option, Some, None, arith, refl, slice_get}
use Rattle.std.proofs.lemmas.Bool.{and_parts}
use Rattle.std.proofs.lemmas.Str.{IsUtf8-from_is_utf8, IsUtf8-nil}
use Rattle.std.specs.Cmp.Lexicographic.{slice_cmp}
use Rattle.std.specs.List.{list_all}
use Rattle.std.specs.Ordering.{is_lt, match_ordering, nat_cmp}
use Rattle.std.specs.Prelude.{◌&&◌, codes}
use Rattle.std.specs.Str.{IsUtf8}
use Rattle.std.specs.declared.cmp.Ordering.{Ordering}
use Rattle.std.specs.declared.cmp.Ordering.TheVariants.{Less, Equal, Greater}
use Rattle.json.proofs.Printed.Utf8.{IsUtf8-are_ascii, are_ascii}
use Rattle.serde_json.specs.Data.{Data, number, string, unsigned, Members, no_members, member, put, depth, members_depth}
use Rattle.voy_json.specs.Canonical.{IsBefore, IsCanonical, MembersAreCanonical}
use Rattle.voy_json.specs.CanonicalLaws.{MembersAreCanonical-put}
use Rattle.voy_schema.specs.Lawful.{is_name}
use Rattle.voy_schema.specs.LawfulLaws.{LawfulParts, list_all-at}
use Rattle.voy_schema.specs.Rows.{has_lawful_values, is_lawful_row, text_of, value_at}
use Rattle.voy_schema.specs.TextLaws.{lawful_text_is_utf8, name_is_utf8}
use Rattle.voy_schema.specs.Values.{is_lawful_text, is_lawful_value}
use Rattle.voy_schema.specs.declared.table.Column.{Column}
use Rattle.voy_schema.specs.declared.table.Kind.{Kind}
use Rattle.voy_schema.specs.declared.table.Table.{Table}
use Rattle.voy_schema.specs.declared.value.Value.{Value}
use Rattle.voy_schema.specs.declared.value.Value.TheVariants.{Null, Text}
use Rattle.voy_tables.specs.declared.change.Change.{Change}
use Rattle.voy_tables.specs.declared.change.Change.TheVariants as change
use Rattle.voy_tables.specs.declared.change.Role.{Role}
use Rattle.voy_tables.specs.declared.change.Role.TheVariants as exporter
use Rattle.voy_event.specs.LineText.{after_data, before_data, change_data, cutover_data, key_data, op_text, row_data, value_data, with_columns, with_text, with_texts}
use Rattle.voy_tables.specs.Changes.{keyed_row}
use Rattle.voy_event.specs.Words.{text_of_role}

-- ---- texts

name_has_utf8 : (name : List ℕ) → is_name name ≡ true → IsUtf8 name
name_has_utf8 name named = IsUtf8-from_is_utf8 name (name_is_utf8 name named)

text_has_utf8 : (k : Kind) (bs : List ℕ) → is_lawful_text k bs ≡ true → IsUtf8 bs
text_has_utf8 k bs lawful = IsUtf8-from_is_utf8 bs (lawful_text_is_utf8 k bs lawful)

-- ---- rows and keys

value_is_canonical : (k : Kind) (v : Value) → is_lawful_value k v ≡ true → IsCanonical (value_data v)
value_is_canonical k Null lawful = tt
value_is_canonical k (Text t) lawful = text_has_utf8 k t lawful

columns_are_canonical : (cs : List Column) (row : List Value) (ms : Members) → list_all (λ (c : Column). is_name c.name) cs ≡ true
    → has_lawful_values cs row ≡ true → MembersAreCanonical ms → MembersAreCanonical (with_columns cs row ms)
columns_are_canonical [] row ms named lawful members = members
columns_are_canonical (c ∷ cs) [] ms named lawful members = members
columns_are_canonical (c ∷ cs) (v ∷ vs) ms named lawful members =
    let names = and_parts (is_name c.name) (list_all (λ (d : Column). is_name d.name) cs) named in
    let values = and_parts (is_lawful_value c.kind v) (has_lawful_values cs vs) lawful in
    columns_are_canonical cs vs (put c.name (value_data v) ms) names.1 values.1
    (MembersAreCanonical-put c.name (value_data v) ms (name_has_utf8 c.name names.0) (value_is_canonical c.kind v values.0) members)

value_text_is_utf8 : (k : Kind) (v : Value) → is_lawful_value k v ≡ true → IsUtf8 (text_of v)
value_text_is_utf8 k Null lawful = IsUtf8-nil
value_text_is_utf8 k (Text t) lawful = text_has_utf8 k t lawful

text_at_is_utf8 : (cs : List Column) (row : List Value) (place : ℕ) → has_lawful_values cs row ≡ true → IsUtf8 (text_of (value_at row place))
text_at_is_utf8 [] [] place lawful = IsUtf8-nil
text_at_is_utf8 [] (v ∷ vs) place lawful = cc
text_at_is_utf8 (c ∷ cs) [] place lawful = cc
text_at_is_utf8 (c ∷ cs) (v ∷ vs) zero lawful = value_text_is_utf8 c.kind v (and_parts (is_lawful_value c.kind v) (has_lawful_values cs vs) lawful).0
text_at_is_utf8 (c ∷ cs) (v ∷ vs) (suc place) lawful =
    text_at_is_utf8 cs vs place (and_parts (is_lawful_value c.kind v) (has_lawful_values cs vs) lawful).1

with_text_is_canonical : (cs : List Column) (place : ℕ) (o : Option Column) (text : List ℕ) (ms : Members) → slice_get cs place ≡ o
    → list_all (λ (c : Column). is_name c.name) cs ≡ true → IsUtf8 text → MembersAreCanonical ms → MembersAreCanonical (with_text o text ms)
with_text_is_canonical cs place None text ms is named utf8 members = members
with_text_is_canonical cs place (Some c) text ms is named utf8 members =
    MembersAreCanonical-put c.name (string text) ms (name_has_utf8 c.name (list_all-at (λ (d : Column). is_name d.name) cs place c named is)) utf8 members

texts_are_canonical : (t : Table) (row : List Value) (places : List ℕ) (ms : Members) → list_all (λ (c : Column). is_name c.name) t.columns ≡ true
    → has_lawful_values t.columns row ≡ true → MembersAreCanonical ms → MembersAreCanonical (with_texts t row places ms)
texts_are_canonical t row [] ms named lawful members = members
texts_are_canonical t row (place ∷ places) ms named lawful members =
    texts_are_canonical t row places (with_text (slice_get t.columns place) (text_of (value_at row place)) ms) named lawful
    (with_text_is_canonical t.columns place (slice_get t.columns place) (text_of (value_at row place)) ms refl named (text_at_is_utf8 t.columns row place lawful) members)

-- ---- lines

-- the name stands before each of these: the test that computes
abbrev is_before : List ℕ → Members → Bool
is_before k no_members = true
is_before k (member l d ms) = is_lt (slice_cmp nat_cmp k l) && is_before k ms

less_from : (o : Ordering) → is_lt o ≡ true → o ≡ Less
less_from Less less = refl
less_from Equal less = cc
less_from Greater less = cc

before_from : (k : List ℕ) (ms : Members) → is_before k ms ≡ true → IsBefore k ms
before_from k no_members before = tt
before_from k (member l d ms) before =
    let parts = and_parts (is_lt (slice_cmp nat_cmp k l)) (is_before k ms) before in
    (less_from (slice_cmp nat_cmp k l) parts.0, before_from k ms parts.1)

member_is_canonical : (k : List ℕ) (d : Data) (ms : Members) → are_ascii k ≡ true → is_before k ms ≡ true → IsCanonical d → MembersAreCanonical ms
    → MembersAreCanonical (member k d ms)
member_is_canonical k d ms ascii before canonical members = (IsUtf8-are_ascii k ascii, before_from k ms before, canonical, members)

role_is_utf8 : (role : Role) → IsUtf8 (text_of_role role)
unfolding text_of_role
role_is_utf8 exporter.Source = IsUtf8-are_ascii (codes "source_db_exporter") refl
role_is_utf8 exporter.Target = IsUtf8-are_ascii (codes "target_db_exporter_fb") refl

op_is_utf8 : (c : Change) → IsUtf8 (op_text c)
op_is_utf8 (change.Insert table after) = IsUtf8-are_ascii (codes "c") refl
op_is_utf8 (change.Update table before after) = IsUtf8-are_ascii (codes "u") refl
op_is_utf8 (change.Delete table before) = IsUtf8-are_ascii (codes "d") refl

-- each row of a change has lawful values for the table
abbrev pub RowsAreLawful : Table → Change → Type 0
RowsAreLawful t (change.Insert table after) = is_lawful_row t after ≡ true
RowsAreLawful t (change.Update table before after) = (is_lawful_row t before ≡ true) × (is_lawful_row t after ≡ true)
RowsAreLawful t (change.Delete table before) = is_lawful_row t before ≡ true

pub values_of : (t : Table) (row : List Value) → is_lawful_row t row ≡ true → has_lawful_values t.columns row ≡ true
values_of t row lawful = (and_parts (has_lawful_values t.columns row) _ lawful).0

row_is_canonical : (t : Table) (row : List Value) → LawfulParts t → is_lawful_row t row ≡ true → IsCanonical (row_data t.columns row)
row_is_canonical t row parts lawful = columns_are_canonical t.columns row no_members parts.column_names (values_of t row lawful) tt

before_is_canonical : (t : Table) (c : Change) → LawfulParts t → RowsAreLawful t c → IsCanonical (before_data t c)
before_is_canonical t (change.Insert table after) parts lawful = tt
before_is_canonical t (change.Update table before after) parts lawful = row_is_canonical t before parts lawful.0
before_is_canonical t (change.Delete table before) parts lawful = row_is_canonical t before parts lawful

after_is_canonical : (t : Table) (c : Change) → LawfulParts t → RowsAreLawful t c → IsCanonical (after_data t c)
after_is_canonical t (change.Insert table after) parts lawful = row_is_canonical t after parts lawful
after_is_canonical t (change.Update table before after) parts lawful = row_is_canonical t after parts lawful.1
after_is_canonical t (change.Delete table before) parts lawful = tt

keyed_row_is_lawful : (t : Table) (c : Change) → RowsAreLawful t c → is_lawful_row t (keyed_row c) ≡ true
keyed_row_is_lawful t (change.Insert table after) lawful = lawful
keyed_row_is_lawful t (change.Update table before after) lawful = lawful.0
keyed_row_is_lawful t (change.Delete table before) lawful = lawful

pub change_is_canonical : (t : Table) (vsn : ℕ) (role : Role) (c : Change) → LawfulParts t → vsn < 2 ^ 64 → RowsAreLawful t c → IsCanonical (change_data t vsn role c)
unfolding change_data
change_is_canonical t vsn role c parts fits lawful =
    let key = texts_are_canonical t (keyed_row c) t.primary_key no_members parts.column_names (values_of t (keyed_row c) (keyed_row_is_lawful t c lawful)) tt in
    let from_vsn = member (codes "vsn") (number (unsigned vsn)) no_members in
    let from_table = member (codes "table_name") (string t.table_name) from_vsn in
    let from_schema = member (codes "schema_name") (string t.schema_name) from_table in
    let from_op = member (codes "op") (string (op_text c)) from_schema in
    let from_key = member (codes "key") (key_data t (keyed_row c)) from_op in
    let from_fields = member (codes "fields") (after_data t c) from_key in
    let from_role = member (codes "exporter_role") (string (text_of_role role)) from_fields in
    member_is_canonical (codes "before_fields") (before_data t c) from_role refl refl (before_is_canonical t c parts lawful)
    (member_is_canonical (codes "exporter_role") (string (text_of_role role)) from_fields refl refl (role_is_utf8 role)
    (member_is_canonical (codes "fields") (after_data t c) from_key refl refl (after_is_canonical t c parts lawful)
    (member_is_canonical (codes "key") (key_data t (keyed_row c)) from_op refl refl key
    (member_is_canonical (codes "op") (string (op_text c)) from_schema refl refl (op_is_utf8 c)
    (member_is_canonical (codes "schema_name") (string t.schema_name) from_table refl refl (name_has_utf8 t.schema_name parts.schema_name)
    (member_is_canonical (codes "table_name") (string t.table_name) from_vsn refl refl (name_has_utf8 t.table_name parts.table_name)
    (member_is_canonical (codes "vsn") (number (unsigned vsn)) no_members refl refl fits tt)))))))

pub cutover_is_canonical : (op : List ℕ) (vsn : ℕ) (role : Role) → IsUtf8 op → vsn < 2 ^ 64 → IsCanonical (cutover_data op vsn role)
unfolding cutover_data
cutover_is_canonical op vsn role utf8 fits =
    let from_vsn = member (codes "vsn") (number (unsigned vsn)) no_members in
    let from_op = member (codes "op") (string op) from_vsn in
    member_is_canonical (codes "exporter_role") (string (text_of_role role)) from_op refl refl (role_is_utf8 role)
    (member_is_canonical (codes "op") (string op) from_vsn refl refl utf8
    (member_is_canonical (codes "vsn") (number (unsigned vsn)) no_members refl refl fits tt))

-- ---- how deep lines nest

flat_put : (k : List ℕ) (d : Data) (ms : Members) → depth d ≡ 0 → members_depth ms ≡ 0 → members_depth (put k d ms) ≡ 0
flat_put k d no_members flat members = omega arith
flat_put k d (member l e ms) flat members = by_order (slice_cmp nat_cmp k l) (flat_put k d ms flat (omega arith)) where
  by_order : (o : Ordering) → members_depth (put k d ms) ≡ 0 → members_depth (match_ordering o (member k d (member l e ms)) (member l d ms) (member l e (put k d ms))) ≡ 0
  by_order Less later = omega arith
  by_order Equal later = omega arith
  by_order Greater later = omega arith

flat_value : (v : Value) → depth (value_data v) ≡ 0
flat_value Null = refl
flat_value (Text t) = refl

flat_columns : (cs : List Column) (row : List Value) (ms : Members) → members_depth ms ≡ 0 → members_depth (with_columns cs row ms) ≡ 0
flat_columns [] row ms members = members
flat_columns (c ∷ cs) [] ms members = members
flat_columns (c ∷ cs) (v ∷ vs) ms members = flat_columns cs vs (put c.name (value_data v) ms) (flat_put c.name (value_data v) ms (flat_value v) members)

flat_text : (o : Option Column) (text : List ℕ) (ms : Members) → members_depth ms ≡ 0 → members_depth (with_text o text ms) ≡ 0
flat_text None text ms members = members
flat_text (Some c) text ms members = flat_put c.name (string text) ms refl members

flat_texts : (t : Table) (row : List Value) (places : List ℕ) (ms : Members) → members_depth ms ≡ 0 → members_depth (with_texts t row places ms) ≡ 0
flat_texts t row [] ms members = members
flat_texts t row (place ∷ places) ms members =
    flat_texts t row places (with_text (slice_get t.columns place) (text_of (value_at row place)) ms) (flat_text (slice_get t.columns place) (text_of (value_at row place)) ms members)

before_is_shallow : (t : Table) (c : Change) → depth (before_data t c) ≤ 1
before_is_shallow t (change.Insert table after) = omega arith
before_is_shallow t (change.Update table before after) = let flat = flat_columns t.columns before no_members refl in omega arith
before_is_shallow t (change.Delete table before) = let flat = flat_columns t.columns before no_members refl in omega arith

after_is_shallow : (t : Table) (c : Change) → depth (after_data t c) ≤ 1
after_is_shallow t (change.Insert table after) = let flat = flat_columns t.columns after no_members refl in omega arith
after_is_shallow t (change.Update table before after) = let flat = flat_columns t.columns after no_members refl in omega arith
after_is_shallow t (change.Delete table before) = omega arith

pub change_is_shallow : (t : Table) (vsn : ℕ) (role : Role) (c : Change) → depth (change_data t vsn role c) ≤ 127
unfolding change_data
change_is_shallow t vsn role c =
    let before = before_is_shallow t c in
    let after = after_is_shallow t c in
    let key = flat_texts t (keyed_row c) t.primary_key no_members refl in
    omega arith

pub cutover_is_shallow : (op : List ℕ) (vsn : ℕ) (role : Role) → depth (cutover_data op vsn role) ≤ 127
unfolding cutover_data
cutover_is_shallow op vsn role = omega arith
