-- The canonical text of an event line: compact, with the names of every object in byte order.
use Rattle.std.specs.Prelude.{ℕ, List, [], ◌∷◌, Option, Some, None, codes, slice_get}
use Rattle.serde_json.specs.Data.{Data, null, number, object, string, unsigned, Members, no_members, member, put}
use Rattle.serde_json.specs.Written.{compact_text}
use Rattle.voy_schema.specs.Rows.{text_of, value_at}
use Rattle.voy_schema.specs.declared.table.Column.{Column}
use Rattle.voy_schema.specs.declared.table.Table.{Table}
use Rattle.voy_schema.specs.declared.value.Value.{Value}
use Rattle.voy_schema.specs.declared.value.Value.TheVariants.{Null, Text}
use Rattle.voy_tables.specs.Changes.{keyed_row, table_of}
use Rattle.voy_tables.specs.declared.change.Change.{Change}
use Rattle.voy_tables.specs.declared.change.Change.TheVariants as change
use Rattle.voy_tables.specs.declared.change.Role.{Role}
use Rattle.voy_event.specs.Words.{text_of_role}
use Rattle.voy_event.specs.declared.event.Event.{Event}
use Rattle.voy_event.specs.declared.event.What.{What}
use Rattle.voy_event.specs.declared.event.What.TheVariants as what

abbrev pub value_data : Value → Data
value_data Null = null
value_data (Text t) = string t

-- the members, and each column with its value
abbrev pub with_columns : List Column → List Value → Members → Members
with_columns [] row ms = ms
with_columns (c ∷ cs) [] ms = ms
with_columns (c ∷ cs) (v ∷ vs) ms = with_columns cs vs (put c.name (value_data v) ms)

-- a row as an object of column values
abbrev pub row_data : List Column → List Value → Data
row_data columns row = object (with_columns columns row no_members)

-- the members, and this column with a text
abbrev pub with_text : Option Column → List ℕ → Members → Members
with_text None text ms = ms
with_text (Some c) text ms = put c.name (string text) ms

-- the members, and the columns at these places with the row's texts
abbrev pub with_texts : Table → List Value → List ℕ → Members → Members
with_texts t row [] ms = ms
with_texts t row (place ∷ places) ms = with_texts t row places (with_text (slice_get t.columns place) (text_of (value_at row place)) ms)

-- the key of a row as an object
abbrev pub key_data : Table → List Value → Data
key_data t row = object (with_texts t row t.primary_key no_members)

-- a change's row before, or null
abbrev pub before_data : Table → Change → Data
before_data t (change.Insert table after) = null
before_data t (change.Update table before after) = row_data t.columns before
before_data t (change.Delete table before) = row_data t.columns before

-- a change's row after, or null
abbrev pub after_data : Table → Change → Data
after_data t (change.Insert table after) = row_data t.columns after
after_data t (change.Update table before after) = row_data t.columns after
after_data t (change.Delete table before) = null

abbrev pub op_text : Change → List ℕ
op_text (change.Insert table after) = codes "c"
op_text (change.Update table before after) = codes "u"
op_text (change.Delete table before) = codes "d"

-- an event line with a change of this table
unfoldable pub change_data : Table → ℕ → Role → Change → Data
change_data t vsn role c =
    object
    (member (codes "before_fields") (before_data t c)
    (member (codes "exporter_role") (string (text_of_role role))
    (member (codes "fields") (after_data t c)
    (member (codes "key") (key_data t (keyed_row c))
    (member (codes "op") (string (op_text c))
    (member (codes "schema_name") (string t.schema_name)
    (member (codes "table_name") (string t.table_name)
    (member (codes "vsn") (number (unsigned vsn))
    no_members))))))))

-- the line of a cutover with this op
unfoldable pub cutover_data : List ℕ → ℕ → Role → Data
cutover_data op vsn role =
    object
    (member (codes "exporter_role") (string (text_of_role role))
    (member (codes "op") (string op)
    (member (codes "vsn") (number (unsigned vsn))
    no_members)))

-- no line where there is no such table
abbrev pub change_data_in : Option Table → ℕ → Role → Change → Data
change_data_in None vsn role c = null
change_data_in (Some t) vsn role c = change_data t vsn role c

abbrev pub what_data : List Table → ℕ → Role → What → Data
what_data tables vsn role (what.Change c) = change_data_in (slice_get tables (table_of c)) vsn role c
what_data tables vsn role what.CutoverTarget = cutover_data (codes "cutover.target") vsn role
what_data tables vsn role what.CutoverSource = cutover_data (codes "cutover.source") vsn role

abbrev pub event_data : List Table → Event → Data
event_data tables e = what_data tables e.vsn e.role e.what

-- the canonical text of an event's line, without its LF
unfoldable pub line_text : List Table → Event → List ℕ
line_text tables e = compact_text (event_data tables e)
