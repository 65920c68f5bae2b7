-- Which bytes are which event line, and which refusal comes first where they are none.
use Rattle.std.specs.Prelude.{ℕ, Bool, false, List, [], ◌∷◌, Option, Some, None, Result, codes, is_some, length, nat_le, nat_lt, not, option_and_then, option_map, if◌then◌else◌}
use Rattle.std.specs.Str.{bytes_eq}
use Rattle.std.specs.Option.{option_map_or}
use Rattle.serde_json.specs.Data.{Data}
use Rattle.voy_json.specs.Document.{has_names, has_only_names, is_object}
use Rattle.voy_schema.specs.declared.table.Table.{Table}
use Rattle.voy_tables.specs.declared.change.Role.{Role}
use Rattle.voy_tables.specs.declared.change.Role.TheVariants as exporter
use Rattle.voy_event.specs.ChangeLine.{change_of, has_known_names, has_long_row, table_at}
use Rattle.voy_event.specs.Refusal.{unless_broken}
use Rattle.voy_event.specs.Words.{document, event_kind, number_at, role_at, text_of_role}
use Rattle.voy_json.specs.Document.{text_at}
use Rattle.voy_event.specs.declared.event.Event.{Event}
use Rattle.voy_event.specs.declared.event.What.{What}
use Rattle.voy_event.specs.declared.event.What.TheVariants as what
use Rattle.voy_event.specs.declared.line_error.LineWhy.{LineWhy}
use Rattle.voy_event.specs.declared.line_error.LineWhy.TheVariants as why
use Rattle.voy_event.specs.declared.words.EventKind.{EventKind}
use Rattle.voy_event.specs.declared.words.EventKind.TheVariants as kind

-- the most bytes of an event line, without its LF
abbrev pub max_event_line_bytes : ℕ
max_event_line_bytes = 4195328

-- the names of an event line with a change
unfoldable pub change_event_names : List (List ℕ)
change_event_names =
    codes "before_fields" ∷ codes "exporter_role" ∷ codes "fields" ∷ codes "key" ∷ codes "op" ∷ codes "schema_name"
    ∷ codes "table_name" ∷ codes "vsn" ∷ []

-- the names of a cutover's line
unfoldable pub cutover_names : List (List ℕ)
cutover_names = codes "exporter_role" ∷ codes "op" ∷ codes "vsn" ∷ []

abbrev pub from_one : Option ℕ → Option ℕ
from_one None = None
from_one (Some vsn) = if nat_le 1 vsn then Some vsn else None

-- the line's vsn, from 1
abbrev pub vsn_at : Data → Option ℕ
vsn_at d = from_one (number_at (codes "vsn") d)

-- the line names this exporter
abbrev pub has_exporter : Role → Data → Bool
has_exporter role d = option_map_or (bytes_eq (text_of_role role)) (text_at (codes "exporter_role") d) false

-- the names of a line of this kind
abbrev pub names_for : Option EventKind → List (List ℕ)
names_for None = []
names_for (Some (kind.Change op)) = change_event_names
names_for (Some kind.CutoverTarget) = cutover_names
names_for (Some kind.CutoverSource) = cutover_names

-- the names of a line are known; a cutover names no table
abbrev pub knows_names : List Table → Data → Option EventKind → Bool
knows_names tables d None = false
knows_names tables d (Some (kind.Change op)) = has_known_names tables change_event_names d
knows_names tables d (Some kind.CutoverTarget) = has_only_names cutover_names d
knows_names tables d (Some kind.CutoverSource) = has_only_names cutover_names d

abbrev pub event : Role → What → ℕ → Event
event role what vsn = record { vsn = vsn; role = role; what = what }

-- the event that a line's values state; a cutover to the target is written by the source's exporter, and the other way round
abbrev pub stated_event : List Table → Data → Option EventKind → Option Event
stated_event tables d None = None
stated_event tables d (Some (kind.Change op)) =
    option_and_then (λ vsn. option_and_then (λ role. option_map (λ c. event role (what.Change c) vsn)
    (option_and_then (λ t. change_of op t d) (table_at tables d))) (role_at d)) (vsn_at d)
stated_event tables d (Some kind.CutoverTarget) =
    if has_exporter exporter.Source d then option_map (event exporter.Source what.CutoverTarget) (vsn_at d) else None
stated_event tables d (Some kind.CutoverSource) =
    if has_exporter exporter.Target d then option_map (event exporter.Target what.CutoverSource) (vsn_at d) else None

-- the event has a row whose text is past the limit
abbrev pub has_long_rows : Option Event → Bool
has_long_rows None = false
has_long_rows (Some e) = is_long e.what where
  is_long : What → Bool
  is_long (what.Change c) = has_long_row c
  is_long what.CutoverTarget = false
  is_long what.CutoverSource = false

-- the first rule that an event line breaks, with the document that it is and the kind of event that its `op` names
abbrev pub broken_rule : List Table → List ℕ → Data → Option EventKind → Option LineWhy
broken_rule tables bytes d k =
    if nat_lt max_event_line_bytes (length bytes) then Some why.TooLong
    else if not (is_object d) then Some why.NotJson
    else if not (is_some k) then Some why.BadOp
    else if not (has_names (names_for k) d) then Some why.Missing
    else if not (knows_names tables d k) then Some why.Unknown
    else if not (is_some (stated_event tables d k)) then Some why.BadValue
    else if has_long_rows (stated_event tables d k) then Some why.TooLong
    else None

-- the event that a line states by the schema, or the first rule that it breaks
abbrev pub line_reading : List Table → List ℕ → Result Event LineWhy
line_reading tables bytes =
    let d = document bytes in
    unless_broken (broken_rule tables bytes d (event_kind d)) (stated_event tables d (event_kind d))
