-- The line that is written of a lawful event reads back as the event.
use Rattle.std.proofs.Common.{◌≡◌, ◌∙◌, ℕ, ◌<◌, ◌≤◌, ◌^◌, List, Bool, true, false, Option, Some, None, Ok, Err, ap, length, le-leb, le-ltb, lt-ltb, map, option_and_then, option_map, refl, slice_get, subst, sym}
use Rattle.std.proofs.lemmas.Bool.{and_from, and_parts}
use Rattle.std.specs.List.{list_all}
use Rattle.std.specs.Option.{ok_or}
use Rattle.std.specs.Prelude.{◌&&◌, codes, if◌then◌else◌}
use Rattle.json.proofs.Printed.Utf8.{IsUtf8-are_ascii}
use Rattle.serde_json.specs.Data.{Data, no_members}
use Rattle.serde_json.specs.Find.{get}
use Rattle.serde_json.specs.Written.{compact_text}
use Rattle.voy_json.specs.CanonicalLaws.{data_of_bytes-compact_text}
use Rattle.voy_json.specs.Document.{data_of_bytes}
use Rattle.voy_schema.specs.Lawful.{is_lawful}
use Rattle.voy_schema.specs.LawfulLaws.{LawfulParts, place_of-at, table_is_lawful, table_parts}
use Rattle.voy_schema.specs.Rows.{is_lawful_row, text_of, values_at}
use Rattle.voy_schema.specs.declared.table.Table.{Table}
use Rattle.voy_schema.specs.declared.value.Value.{Value}
use Rattle.voy_tables.specs.SameLaws.{same_key-decides}
use Rattle.voy_tables.specs.Changes.{is_row_of, is_well_formed, key_in}
use Rattle.voy_tables.specs.Keys.{same_key}
use Rattle.voy_tables.specs.declared.change.Change.{Change}
use Rattle.voy_tables.specs.declared.change.Change.TheVariants as change
use Rattle.voy_tables.specs.declared.change.Role.{Role}
use Rattle.voy_tables.specs.declared.change.Role.TheVariants as exporter
use Rattle.voy_event.proofs.CanonicalLemmas.{RowsAreLawful, change_is_canonical, change_is_shallow, cutover_is_canonical, cutover_is_shallow, values_of}
use Rattle.voy_event.proofs.KeyLemmas.{agrees-same_key, agrees-with_texts, key_names_are_known, key_names_are_of_key}
use Rattle.voy_event.proofs.MemberLemmas.{columns_are_known, names_of-with_columns, row_of-with_columns, same_text}
use Rattle.voy_event.specs.ChangeLine.{PlacedTable, change_of, has_known_columns, has_long_row, placed, table_named}
use Rattle.voy_event.specs.InTurn.{change_event, cutover_event, cutover_vsn, document_in_turn, kind_in_turn, known_in_turn, stamped, table_in_turn, within_limit}
use Rattle.voy_event.specs.InTurnLaws.{line_is_in_turn}
use Rattle.voy_event.specs.EventLine.{change_event_names, cutover_names, from_one, line_reading, max_event_line_bytes, vsn_at}
use Rattle.voy_event.specs.Fields.{is_column, is_key_of_row, is_null, names_in, only_if, row_at, row_with_key}
use Rattle.voy_event.specs.Laws.{EventsReadBack}
use Rattle.voy_event.specs.LawfulEvent.{IsLawfulChange, IsLawfulFrom}
use Rattle.voy_event.specs.LineText.{after_data, before_data, change_data, change_data_in, cutover_data, key_data, line_text, row_data, what_data}
use Rattle.voy_tables.specs.Changes.{keyed_row}
use Rattle.voy_tables.specs.Changes.{table_of}
use Rattle.voy_event.specs.Words.{event_kind, in_64_bits, kind_of_text, op_of_text, role_at, role_of_text, text_of_role}
use Rattle.voy_json.specs.Document.{text_at}
use Rattle.voy_event.specs.declared.event.Event.{Event}
use Rattle.voy_event.specs.declared.event.What.{What}
use Rattle.voy_event.specs.declared.event.What.TheVariants as what
use Rattle.voy_event.specs.declared.line_error.LineWhy.TheVariants as why
use Rattle.voy_event.specs.declared.words.EventKind.TheVariants as kind
use Rattle.voy_event.specs.declared.words.Op.{Op}
use Rattle.voy_event.specs.declared.words.Op.TheVariants.{Insert, Update, Delete}

-- ---- what stands at the names of a change's line

before_there : (t : Table) (vsn : ℕ) (role : Role) (c : Change) → get (codes "before_fields") (change_data t vsn role c) ≡ Some (before_data t c)
unfolding change_data
before_there t vsn role c = refl

fields_there : (t : Table) (vsn : ℕ) (role : Role) (c : Change) → get (codes "fields") (change_data t vsn role c) ≡ Some (after_data t c)
unfolding change_data
fields_there t vsn role c = refl

key_there : (t : Table) (vsn : ℕ) (role : Role) (c : Change) → get (codes "key") (change_data t vsn role c) ≡ Some (key_data t (keyed_row c))
unfolding change_data
key_there t vsn role c = refl

schema_name_there : (t : Table) (vsn : ℕ) (role : Role) (c : Change) → text_at (codes "schema_name") (change_data t vsn role c) ≡ Some t.schema_name
unfolding change_data
schema_name_there t vsn role c = refl

table_name_there : (t : Table) (vsn : ℕ) (role : Role) (c : Change) → text_at (codes "table_name") (change_data t vsn role c) ≡ Some t.table_name
unfolding change_data
table_name_there t vsn role c = refl

role_reads : (role : Role) → role_of_text (text_of_role role) ≡ Some role
unfolding role_of_text text_of_role
role_reads exporter.Source = refl
role_reads exporter.Target = refl

role_there : (t : Table) (vsn : ℕ) (role : Role) (c : Change) → role_at (change_data t vsn role c) ≡ Some role
unfolding change_data
role_there t vsn role c = role_reads role

number_reads : (vsn : ℕ) → 1 ≤ vsn → vsn < 2 ^ 64 → from_one (in_64_bits (Some vsn)) ≡ Some vsn
number_reads vsn from fits = rw (lt-ltb vsn (2 ^ 64) fits, le-leb 1 vsn from) refl

vsn_there : (t : Table) (vsn : ℕ) (role : Role) (c : Change) → 1 ≤ vsn → vsn < 2 ^ 64 → vsn_at (change_data t vsn role c) ≡ Some vsn
unfolding change_data
vsn_there t vsn role c from fits = number_reads vsn from fits

abbrev op_of : Change → Op
op_of (change.Insert table after) = Insert
op_of (change.Update table before after) = Update
op_of (change.Delete table before) = Delete

kind_there : (t : Table) (vsn : ℕ) (role : Role) (c : Change) → event_kind (change_data t vsn role c) ≡ Some (kind.Change (op_of c))
unfolding change_data kind_of_text op_of_text
kind_there t vsn role (change.Insert table after) = refl
kind_there t vsn role (change.Update table before after) = refl
kind_there t vsn role (change.Delete table before) = refl

-- ---- its rows

only_if-passes : (p : List Value → Bool) (row : List Value) → p row ≡ true → only_if p (Some row) ≡ Some row
only_if-passes p row passes = rw passes refl

key_agrees : (t : Table) (keyed row : List Value) → LawfulParts t → map text_of (values_at keyed t.primary_key) ≡ map text_of (values_at row t.primary_key)
    → is_key_of_row t (key_data t keyed) row ≡ true
key_agrees t keyed row parts same =
    let places = and_parts _ _ parts.primary_key in
    let within = (and_parts _ _ places.0).1 in
    and_from _ _ (key_names_are_of_key t keyed)
    (agrees-same_key t (key_data t keyed) keyed row t.primary_key same
    (agrees-with_texts t keyed t.primary_key no_members parts.distinct_names places.1 within))

row_reads : (t : Table) (keyed row : List Value) → LawfulParts t → is_lawful_row t row ≡ true
    → map text_of (values_at keyed t.primary_key) ≡ map text_of (values_at row t.primary_key)
    → row_with_key t (Some (key_data t keyed)) (Some (row_data t.columns row)) ≡ Some row
row_reads t keyed row parts lawful same =
    let test = λ (r : List Value). is_lawful_row t r && is_key_of_row t (key_data t keyed) r in
    ap (only_if test) (row_of-with_columns t.columns row no_members parts.distinct_names (values_of t row lawful))
    ∙ only_if-passes test row (and_from _ _ lawful (key_agrees t keyed row parts same))

row_there : (t : Table) (vsn : ℕ) (role : Role) (c : Change) (name : List ℕ) (row : List Value) → LawfulParts t → is_lawful_row t row ≡ true
    → map text_of (values_at (keyed_row c) t.primary_key) ≡ map text_of (values_at row t.primary_key)
    → get name (change_data t vsn role c) ≡ Some (row_data t.columns row) → row_at t name (change_data t vsn role c) ≡ Some row
row_there t vsn role c name row parts lawful same there =
    ap (λ o. row_with_key t o (get name (change_data t vsn role c))) (key_there t vsn role c)
    ∙ ap (row_with_key t (Some (key_data t (keyed_row c)))) there ∙ row_reads t (keyed_row c) row parts lawful same

-- the change of a line belongs to this table
abbrev BelongsTo : Table → Change → Type 0
BelongsTo t (change.Insert table after) = is_lawful_row t after ≡ true
BelongsTo t (change.Update table before after) =
    (is_lawful_row t before ≡ true) × (is_lawful_row t after ≡ true) × (map text_of (values_at before t.primary_key) ≡ map text_of (values_at after t.primary_key))
BelongsTo t (change.Delete table before) = is_lawful_row t before ≡ true

change_reads : (t : Table) (vsn : ℕ) (role : Role) (c : Change) → LawfulParts t → BelongsTo t c
    → change_of (op_of c) (record { place = table_of c; table = t }) (change_data t vsn role c) ≡ Some c
change_reads t vsn role (change.Insert table after) parts belongs =
    let c = change.Insert table after in
    let line = change_data t vsn role c in
    ap (λ o. if is_null o then option_map (change.Insert table) (row_at t (codes "fields") line) else None) (before_there t vsn role c)
    ∙ ap (option_map (change.Insert table)) (row_there t vsn role c (codes "fields") after parts belongs refl (fields_there t vsn role c))
change_reads t vsn role (change.Update table before after) parts belongs =
    let c = change.Update table before after in
    let line = change_data t vsn role c in
    ap (option_and_then (λ (b : List Value). option_map (change.Update table b) (row_at t (codes "fields") line)))
    (row_there t vsn role c (codes "before_fields") before parts belongs.0 refl (before_there t vsn role c))
    ∙ ap (option_map (change.Update table before)) (row_there t vsn role c (codes "fields") after parts belongs.1 belongs.2 (fields_there t vsn role c))
change_reads t vsn role (change.Delete table before) parts belongs =
    let c = change.Delete table before in
    let line = change_data t vsn role c in
    ap (λ o. if is_null o then option_map (change.Delete table) (row_at t (codes "before_fields") line) else None) (fields_there t vsn role c)
    ∙ ap (option_map (change.Delete table)) (row_there t vsn role c (codes "before_fields") before parts belongs refl (before_there t vsn role c))

-- ---- its table

row_names_are_known : (t : Table) (row : List Value) → list_all (is_column t) (names_in (Some (row_data t.columns row))) ≡ true
row_names_are_known t row = names_of-with_columns (is_column t) t.columns row no_members (columns_are_known t) refl

before_names_are_known : (t : Table) (c : Change) → list_all (is_column t) (names_in (Some (before_data t c))) ≡ true
before_names_are_known t (change.Insert table after) = refl
before_names_are_known t (change.Update table before after) = row_names_are_known t before
before_names_are_known t (change.Delete table before) = row_names_are_known t before

after_names_are_known : (t : Table) (c : Change) → list_all (is_column t) (names_in (Some (after_data t c))) ≡ true
after_names_are_known t (change.Insert table after) = row_names_are_known t after
after_names_are_known t (change.Update table before after) = row_names_are_known t after
after_names_are_known t (change.Delete table before) = refl

columns_known : (t : Table) (vsn : ℕ) (role : Role) (c : Change) → has_known_columns t (change_data t vsn role c) ≡ true
unfolding change_data
columns_known t vsn role c =
    and_from _ _ (and_from _ _ (key_names_are_known t (keyed_row c)) (after_names_are_known t c)) (before_names_are_known t c)

table_found : (tables : List Table) (place : ℕ) (t : Table) → is_lawful tables ≡ true → slice_get tables place ≡ Some t
    → table_named tables t.schema_name t.table_name ≡ Some (record { place = place; table = t })
table_found tables place t lawful stands =
    ap (option_and_then (placed tables)) (place_of-at tables place t lawful stands)
    ∙ ap (option_map (λ (u : Table). let p : PlacedTable = record { place = place; table = u } in p)) stands

known_table : (t : Table) (p : PlacedTable) (d : Data) → has_known_columns p.table d ≡ true → known_in_turn d (Some p) ≡ Ok p
known_table t p d known = rw known refl

table_reads : (tables : List Table) (place : ℕ) (t : Table) (vsn : ℕ) (role : Role) (c : Change) → is_lawful tables ≡ true → slice_get tables place ≡ Some t
    → table_in_turn tables change_event_names (change_data t vsn role c) ≡ Ok (record { place = place; table = t })
unfolding change_data change_event_names
table_reads tables place t vsn role c lawful stands =
    let p : PlacedTable = record { place = place; table = t } in
    ap (known_in_turn (change_data t vsn role c)) (table_found tables place t lawful stands)
    ∙ known_table t p (change_data t vsn role c) (columns_known t vsn role c)

-- ---- the whole line

short_change : (c : Change) → has_long_row c ≡ false → within_limit (Some c) ≡ Ok c
short_change c short = rw short refl

pub belongs_to : (tables : List Table) (t : Table) (c : Change) → slice_get tables (table_of c) ≡ Some t → is_well_formed tables c ≡ true → BelongsTo t c
belongs_to tables t (change.Insert table after) stands formed = subst (λ o. is_row_of o after ≡ true) stands formed
belongs_to tables t (change.Update table before after) stands formed =
    let o = slice_get tables table in
    let parts = and_parts (is_row_of o before && is_row_of o after) (same_key (key_in o before) (key_in o after)) formed in
    let rows = and_parts (is_row_of o before) (is_row_of o after) parts.0 in
    let keys = subst (λ o. same_key (key_in o before) (key_in o after) ≡ true) stands parts.1 in
    (subst (λ o. is_row_of o before ≡ true) stands rows.0, subst (λ o. is_row_of o after ≡ true) stands rows.1, (same_key-decides _ _).0 keys)
belongs_to tables t (change.Delete table before) stands formed = subst (λ o. is_row_of o before ≡ true) stands formed

pub rows_of : (t : Table) (c : Change) → BelongsTo t c → RowsAreLawful t c
rows_of t (change.Insert table after) belongs = belongs
rows_of t (change.Update table before after) belongs = (belongs.0, belongs.1)
rows_of t (change.Delete table before) belongs = belongs

change_line_reads : (tables : List Table) (t : Table) (vsn : ℕ) (role : Role) (c : Change) → is_lawful tables ≡ true
    → slice_get tables (table_of c) ≡ Some t → 1 ≤ vsn → vsn < 2 ^ 64 → IsLawfulChange tables c
    → kind_in_turn tables (change_data t vsn role c) (event_kind (change_data t vsn role c)) ≡ Ok (record { vsn = vsn; role = role; what = what.Change c })
change_line_reads tables t vsn role c lawful stands from fits change =
    let line = change_data t vsn role c in
    let p : PlacedTable = record { place = table_of c; table = t } in
    let parts = table_parts t (table_is_lawful tables (table_of c) t lawful stands) in
    let belongs = belongs_to tables t c stands change.well_formed in
    ap (kind_in_turn tables line) (kind_there t vsn role c)
    ∙ ap (change_event (op_of c) line) (table_reads tables (table_of c) t vsn role c lawful stands)
    ∙ ap (λ n. stamped n (role_at line) (within_limit (change_of (op_of c) p line))) (vsn_there t vsn role c from fits)
    ∙ ap (λ r. stamped (Some vsn) r (within_limit (change_of (op_of c) p line))) (role_there t vsn role c)
    ∙ ap (λ o. stamped (Some vsn) (Some role) (within_limit o)) (change_reads t vsn role c parts belongs)
    ∙ ap (stamped (Some vsn) (Some role)) (short_change c change.short)

cutover_vsn_reads : (op : List ℕ) (vsn : ℕ) (role : Role) → 1 ≤ vsn → vsn < 2 ^ 64 → cutover_vsn role (cutover_data op vsn role) ≡ Ok vsn
unfolding cutover_data cutover_names
cutover_vsn_reads op vsn role from fits =
    ap (λ b. if b then ok_or (from_one (in_64_bits (Some vsn))) why.BadValue else Err why.BadValue) (same_text (text_of_role role))
    ∙ ap (λ o. ok_or o why.BadValue) (number_reads vsn from fits)

to_target_kind : (tables : List Table) (vsn : ℕ) → document_in_turn tables (Some (cutover_data (codes "cutover.target") vsn exporter.Source))
    ≡ cutover_event exporter.Source what.CutoverTarget (cutover_vsn exporter.Source (cutover_data (codes "cutover.target") vsn exporter.Source))
unfolding cutover_data kind_of_text
to_target_kind tables vsn = refl

to_source_kind : (tables : List Table) (vsn : ℕ) → document_in_turn tables (Some (cutover_data (codes "cutover.source") vsn exporter.Target))
    ≡ cutover_event exporter.Target what.CutoverSource (cutover_vsn exporter.Target (cutover_data (codes "cutover.source") vsn exporter.Target))
unfolding cutover_data kind_of_text
to_source_kind tables vsn = refl

to_target_reads : (tables : List Table) (vsn : ℕ) (role : Role) → role ≡ exporter.Source → 1 ≤ vsn → vsn < 2 ^ 64
    → document_in_turn tables (Some (cutover_data (codes "cutover.target") vsn role)) ≡ Ok (record { vsn = vsn; role = role; what = what.CutoverTarget })
to_target_reads tables vsn role is from fits =
    subst (λ r. document_in_turn tables (Some (cutover_data (codes "cutover.target") vsn r)) ≡ Ok (record { vsn = vsn; role = r; what = what.CutoverTarget })) (sym is)
    (to_target_kind tables vsn
    ∙ ap (cutover_event exporter.Source what.CutoverTarget) (cutover_vsn_reads (codes "cutover.target") vsn exporter.Source from fits))

to_source_reads : (tables : List Table) (vsn : ℕ) (role : Role) → role ≡ exporter.Target → 1 ≤ vsn → vsn < 2 ^ 64
    → document_in_turn tables (Some (cutover_data (codes "cutover.source") vsn role)) ≡ Ok (record { vsn = vsn; role = role; what = what.CutoverSource })
to_source_reads tables vsn role is from fits =
    subst (λ r. document_in_turn tables (Some (cutover_data (codes "cutover.source") vsn r)) ≡ Ok (record { vsn = vsn; role = r; what = what.CutoverSource })) (sym is)
    (to_source_kind tables vsn
    ∙ ap (cutover_event exporter.Target what.CutoverSource) (cutover_vsn_reads (codes "cutover.source") vsn exporter.Target from fits))

object_reads : (tables : List Table) (t : Table) (vsn : ℕ) (role : Role) (c : Change)
    → document_in_turn tables (Some (change_data t vsn role c)) ≡ kind_in_turn tables (change_data t vsn role c) (event_kind (change_data t vsn role c))
unfolding change_data
object_reads tables t vsn role c = refl

line_of_data : (tables : List Table) (d : Data) (e : Event) → length (compact_text d) ≤ max_event_line_bytes → data_of_bytes (compact_text d) ≡ Some d
    → document_in_turn tables (Some d) ≡ Ok e → line_reading tables (compact_text d) ≡ Ok e
line_of_data tables d e short bytes read =
    line_is_in_turn tables (compact_text d)
    ∙ ap (λ b. if b then Err why.TooLong else document_in_turn tables (data_of_bytes (compact_text d))) (le-ltb max_event_line_bytes (length (compact_text d)) short)
    ∙ ap (document_in_turn tables) bytes ∙ read

pub no_table : (tables : List Table) (c : Change) → is_well_formed tables c ≡ true → slice_get tables (table_of c) ≡ None → ⊥
no_table tables (change.Insert table after) formed none = let row = subst (λ o. is_row_of o after ≡ true) none formed in cc
no_table tables (change.Update table before after) formed none =
    let rows = (and_parts (is_row_of (slice_get tables table) before && is_row_of (slice_get tables table) after) _ formed).0 in
    let row = subst (λ o. is_row_of o before ≡ true) none (and_parts (is_row_of (slice_get tables table) before) _ rows).0 in cc
no_table tables (change.Delete table before) formed none = let row = subst (λ o. is_row_of o before ≡ true) none formed in cc

change_reads_back : (tables : List Table) (vsn : ℕ) (role : Role) (c : Change) (o : Option Table) → slice_get tables (table_of c) ≡ o → is_lawful tables ≡ true
    → 1 ≤ vsn → vsn < 2 ^ 64 → IsLawfulChange tables c → length (compact_text (change_data_in o vsn role c)) ≤ max_event_line_bytes
    → line_reading tables (compact_text (change_data_in o vsn role c)) ≡ Ok (record { vsn = vsn; role = role; what = what.Change c })
change_reads_back tables vsn role c None stands lawful from fits change short = absurd (no_table tables c change.well_formed stands)
change_reads_back tables vsn role c (Some t) stands lawful from fits change short =
    let line = change_data t vsn role c in
    let parts = table_parts t (table_is_lawful tables (table_of c) t lawful stands) in
    let canonical = change_is_canonical t vsn role c parts fits (rows_of t c (belongs_to tables t c stands change.well_formed)) in
    line_of_data tables line (record { vsn = vsn; role = role; what = what.Change c }) short
    (data_of_bytes-compact_text line canonical (change_is_shallow t vsn role c))
    (object_reads tables t vsn role c ∙ change_line_reads tables t vsn role c lawful stands from fits change)

what_reads_back : (tables : List Table) (vsn : ℕ) (role : Role) (w : What) → is_lawful tables ≡ true → 1 ≤ vsn → vsn < 2 ^ 64
    → IsLawfulFrom tables role w → length (compact_text (what_data tables vsn role w)) ≤ max_event_line_bytes
    → line_reading tables (compact_text (what_data tables vsn role w)) ≡ Ok (record { vsn = vsn; role = role; what = w })
what_reads_back tables vsn role (what.Change c) lawful from fits change short =
    change_reads_back tables vsn role c (slice_get tables (table_of c)) refl lawful from fits change short
what_reads_back tables vsn role what.CutoverTarget lawful from fits is short =
    let op = codes "cutover.target" in
    line_of_data tables (cutover_data op vsn role) (record { vsn = vsn; role = role; what = what.CutoverTarget }) short
    (data_of_bytes-compact_text (cutover_data op vsn role) (cutover_is_canonical op vsn role (IsUtf8-are_ascii op refl) fits) (cutover_is_shallow op vsn role))
    (to_target_reads tables vsn role is from fits)
what_reads_back tables vsn role what.CutoverSource lawful from fits is short =
    let op = codes "cutover.source" in
    line_of_data tables (cutover_data op vsn role) (record { vsn = vsn; role = role; what = what.CutoverSource }) short
    (data_of_bytes-compact_text (cutover_data op vsn role) (cutover_is_canonical op vsn role (IsUtf8-are_ascii op refl) fits) (cutover_is_shallow op vsn role))
    (to_source_reads tables vsn role is from fits)

pub events_read_back : EventsReadBack
unfolding line_text
events_read_back tables e lawful event short = what_reads_back tables e.vsn e.role e.what lawful event.from_one event.fits event.what short
