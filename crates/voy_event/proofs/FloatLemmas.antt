-- No event line has a number with a fraction, so its compact text is the text that is written.
use Rattle.std.proofs.Common.{◌≡◌, ℕ, List, [], ◌∷◌, Bool, true, false, ◌||◌, Option, Some, None, refl}
use Rattle.std.proofs.lemmas.Bool.{or_parts}
use Rattle.std.specs.Cmp.Lexicographic.{slice_cmp}
use Rattle.std.specs.Ordering.{match_ordering, nat_cmp}
use Rattle.std.specs.declared.cmp.Ordering.{Ordering}
use Rattle.std.specs.declared.cmp.Ordering.TheVariants.{Less, Equal, Greater}
use Rattle.serde_json.specs.Data.{Data, Members, no_members, member, put}
use Rattle.serde_json.specs.Written.{has_float, members_have_float}
use Rattle.voy_schema.specs.Rows.{text_of, value_at}
use Rattle.voy_schema.specs.declared.table.Column.{Column}
use Rattle.voy_schema.specs.declared.table.Table.{Table}
use Rattle.voy_schema.specs.declared.value.Value.{Value}
use Rattle.voy_schema.specs.declared.value.Value.TheVariants.{Null, Text}
use Rattle.voy_tables.specs.declared.change.Change.{Change}
use Rattle.voy_tables.specs.declared.change.Change.TheVariants as change
use Rattle.voy_tables.specs.declared.change.Role.{Role}
use Rattle.voy_event.specs.LineText.{after_data, before_data, change_data, change_data_in, cutover_data, key_data, value_data, what_data, with_columns, with_text, with_texts}
use Rattle.voy_tables.specs.Changes.{keyed_row}
use Rattle.std.specs.Prelude.{slice_get}
use Rattle.voy_event.specs.declared.event.What.{What}
use Rattle.voy_event.specs.declared.event.What.TheVariants as what

neither : (a b : Bool) → a ≡ false → b ≡ false → (a || b) ≡ false
neither true b first second = cc
neither false b first second = second

put_no_float : (k : List ℕ) (d : Data) (ms : Members) → has_float d ≡ false → members_have_float ms ≡ false → members_have_float (put k d ms) ≡ false
put_no_float k d no_members value members = neither (has_float d) false value refl
put_no_float k d (member l e ms) value members =
    let parts = or_parts (has_float e) (members_have_float ms) members in
    by_order (slice_cmp nat_cmp k l) parts.0 (put_no_float k d ms value parts.1) where
      by_order : (o : Ordering) → has_float e ≡ false → members_have_float (put k d ms) ≡ false
          → members_have_float (match_ordering o (member k d (member l e ms)) (member l d ms) (member l e (put k d ms))) ≡ false
      by_order Less other later = neither (has_float d) (members_have_float (member l e ms)) value members
      by_order Equal other later = neither (has_float d) (members_have_float ms) value (or_parts (has_float e) (members_have_float ms) members).1
      by_order Greater other later = neither (has_float e) (members_have_float (put k d ms)) other later

value_has_no_float : (v : Value) → has_float (value_data v) ≡ false
value_has_no_float Null = refl
value_has_no_float (Text t) = refl

columns_have_no_float : (cs : List Column) (row : List Value) (ms : Members) → members_have_float ms ≡ false → members_have_float (with_columns cs row ms) ≡ false
columns_have_no_float [] row ms members = members
columns_have_no_float (c ∷ cs) [] ms members = members
columns_have_no_float (c ∷ cs) (v ∷ vs) ms members =
    columns_have_no_float cs vs (put c.name (value_data v) ms) (put_no_float c.name (value_data v) ms (value_has_no_float v) members)

text_has_no_float : (column : Option Column) (text : List ℕ) (ms : Members) → members_have_float ms ≡ false → members_have_float (with_text column text ms) ≡ false
text_has_no_float None text ms members = members
text_has_no_float (Some c) text ms members = put_no_float c.name _ ms refl members

texts_have_no_float : (t : Table) (row : List Value) (places : List ℕ) (ms : Members) → members_have_float ms ≡ false → members_have_float (with_texts t row places ms) ≡ false
texts_have_no_float t row [] ms members = members
texts_have_no_float t row (place ∷ places) ms members =
    texts_have_no_float t row places _ (text_has_no_float (slice_get t.columns place) (text_of (value_at row place)) ms members)

before_has_no_float : (t : Table) (c : Change) → has_float (before_data t c) ≡ false
before_has_no_float t (change.Insert table after) = refl
before_has_no_float t (change.Update table before after) = columns_have_no_float t.columns before no_members refl
before_has_no_float t (change.Delete table before) = columns_have_no_float t.columns before no_members refl

after_has_no_float : (t : Table) (c : Change) → has_float (after_data t c) ≡ false
after_has_no_float t (change.Insert table after) = columns_have_no_float t.columns after no_members refl
after_has_no_float t (change.Update table before after) = columns_have_no_float t.columns after no_members refl
after_has_no_float t (change.Delete table before) = refl

change_has_no_float : (t : Table) (vsn : ℕ) (role : Role) (c : Change) → has_float (change_data t vsn role c) ≡ false
unfolding change_data
change_has_no_float t vsn role c =
    neither (has_float (before_data t c)) _ (before_has_no_float t c)
    (neither (has_float (after_data t c)) _ (after_has_no_float t c)
    (neither (has_float (key_data t (keyed_row c))) _ (texts_have_no_float t (keyed_row c) t.primary_key no_members refl) refl))

change_in_has_no_float : (o : Option Table) (vsn : ℕ) (role : Role) (c : Change) → has_float (change_data_in o vsn role c) ≡ false
change_in_has_no_float None vsn role c = refl
change_in_has_no_float (Some t) vsn role c = change_has_no_float t vsn role c

cutover_has_no_float : (op : List ℕ) (vsn : ℕ) (role : Role) → has_float (cutover_data op vsn role) ≡ false
unfolding cutover_data
cutover_has_no_float op vsn role = refl

pub event_has_no_float : (tables : List Table) (vsn : ℕ) (role : Role) (w : What) → has_float (what_data tables vsn role w) ≡ false
event_has_no_float tables vsn role (what.Change c) = change_in_has_no_float _ vsn role c
event_has_no_float tables vsn role what.CutoverTarget = cutover_has_no_float _ vsn role
event_has_no_float tables vsn role what.CutoverSource = cutover_has_no_float _ vsn role
