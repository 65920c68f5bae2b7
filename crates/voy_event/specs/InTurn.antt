-- The same readings as the program makes them, rule by rule; a law says that they are the readings of the tables of rules.
use Rattle.std.specs.Prelude.{ℕ, List, Option, Some, None, Result, Ok, Err, codes, length, nat_lt, not, if◌then◌else◌}
use Rattle.std.specs.Option.{ok_or}
use Rattle.serde_json.specs.Data.{Data}
use Rattle.voy_json.specs.Document.{data_of_bytes, has_names, has_only_names, is_object}
use Rattle.voy_schema.specs.declared.table.Table.{Table}
use Rattle.voy_tables.specs.declared.change.Change.{Change}
use Rattle.voy_tables.specs.declared.change.Role.{Role}
use Rattle.voy_tables.specs.declared.change.Role.TheVariants as exporter
use Rattle.voy_event.specs.ChangeLine.{PlacedTable, change_of, has_known_columns, has_long_row, table_named}
use Rattle.voy_event.specs.EventLine.{change_event_names, cutover_names, has_exporter, max_event_line_bytes, vsn_at}
use Rattle.voy_event.specs.RecordedLine.{max_recorded_line_bytes, recorded_names}
use Rattle.voy_event.specs.Words.{change_op, event_kind, number_at, role_at}
use Rattle.voy_json.specs.Document.{text_at}
use Rattle.voy_event.specs.declared.event.Event.{Event}
use Rattle.voy_event.specs.declared.event.What.{What}
use Rattle.voy_event.specs.declared.event.What.TheVariants as what
use Rattle.voy_event.specs.declared.line_error.LineWhy.{LineWhy}
use Rattle.voy_event.specs.declared.line_error.LineWhy.TheVariants as why
use Rattle.voy_event.specs.declared.recorded.Recorded.{Recorded}
use Rattle.voy_event.specs.declared.words.EventKind.{EventKind}
use Rattle.voy_event.specs.declared.words.EventKind.TheVariants as kind
use Rattle.voy_event.specs.declared.words.Op.{Op}

-- the table, where its columns are the only ones that the line names
abbrev pub known_in_turn : Data → Option PlacedTable → Result PlacedTable LineWhy
known_in_turn d None = Err why.Unknown
known_in_turn d (Some t) = if has_known_columns t.table d then Ok t else Err why.Unknown

-- the table of the two table names, which must both be strings
abbrev pub named_in_turn : List Table → Data → Option (List ℕ) → Option (List ℕ) → Result PlacedTable LineWhy
named_in_turn tables d None table_name = Err why.BadValue
named_in_turn tables d (Some schema_name) None = Err why.BadValue
named_in_turn tables d (Some schema_name) (Some table_name) = known_in_turn d (table_named tables schema_name table_name)

-- the table of a line that must have just these names: the refusals `Missing` and `Unknown`, and `BadValue` where no table is named
abbrev pub table_in_turn : List Table → List (List ℕ) → Data → Result PlacedTable LineWhy
table_in_turn tables names d =
    if not (has_names names d) then Err why.Missing
    else if not (has_only_names names d) then Err why.Unknown
    else named_in_turn tables d (text_at (codes "schema_name") d) (text_at (codes "table_name") d)

-- a broken rule is refused before the length of row texts, the last rule
abbrev pub within_limit : Option Change → Result Change LineWhy
within_limit None = Err why.BadValue
within_limit (Some c) = if has_long_row c then Err why.TooLong else Ok c

-- an event with the line's vsn and exporter
abbrev pub stamped : Option ℕ → Option Role → Result Change LineWhy → Result Event LineWhy
stamped None role c = Err why.BadValue
stamped (Some vsn) None c = Err why.BadValue
stamped (Some vsn) (Some role) (Err cause) = Err cause
stamped (Some vsn) (Some role) (Ok c) = Ok (record { vsn = vsn; role = role; what = what.Change c })

abbrev pub change_event : Op → Data → Result PlacedTable LineWhy → Result Event LineWhy
change_event op d (Err cause) = Err cause
change_event op d (Ok table) = stamped (vsn_at d) (role_at d) (within_limit (change_of op table d))

-- the vsn of a cutover that this exporter must have written
abbrev pub cutover_vsn : Role → Data → Result ℕ LineWhy
cutover_vsn role d =
    if not (has_names cutover_names d) then Err why.Missing
    else if not (has_only_names cutover_names d) then Err why.Unknown
    else if has_exporter role d then ok_or (vsn_at d) why.BadValue
    else Err why.BadValue

abbrev pub cutover_event : Role → What → Result ℕ LineWhy → Result Event LineWhy
cutover_event role what (Err cause) = Err cause
cutover_event role what (Ok vsn) = Ok (record { vsn = vsn; role = role; what = what })

-- a cutover to the target is written by the source's exporter, and the other way round
abbrev pub kind_in_turn : List Table → Data → Option EventKind → Result Event LineWhy
kind_in_turn tables d None = Err why.BadOp
kind_in_turn tables d (Some (kind.Change op)) = change_event op d (table_in_turn tables change_event_names d)
kind_in_turn tables d (Some kind.CutoverTarget) = cutover_event exporter.Source what.CutoverTarget (cutover_vsn exporter.Source d)
kind_in_turn tables d (Some kind.CutoverSource) = cutover_event exporter.Target what.CutoverSource (cutover_vsn exporter.Target d)

abbrev pub document_in_turn : List Table → Option Data → Result Event LineWhy
document_in_turn tables None = Err why.NotJson
document_in_turn tables (Some d) = if is_object d then kind_in_turn tables d (event_kind d) else Err why.NotJson

abbrev pub line_in_turn : List Table → List ℕ → Result Event LineWhy
line_in_turn tables bytes =
    if nat_lt max_event_line_bytes (length bytes) then Err why.TooLong else document_in_turn tables (data_of_bytes bytes)

-- a change with the line's commit and its place there
abbrev pub spotted : Option ℕ → Option ℕ → Result Change LineWhy → Result Recorded LineWhy
spotted None seq c = Err why.BadValue
spotted (Some commit) None c = Err why.BadValue
spotted (Some commit) (Some seq) (Err cause) = Err cause
spotted (Some commit) (Some seq) (Ok c) = Ok (record { spot = record { commit = commit; seq = seq }; change = c })

abbrev pub recorded_change : Op → Data → Result PlacedTable LineWhy → Result Recorded LineWhy
recorded_change op d (Err cause) = Err cause
recorded_change op d (Ok table) =
    spotted (number_at (codes "commit") d) (number_at (codes "seq") d) (within_limit (change_of op table d))

abbrev pub recorded_op_in_turn : List Table → Data → Option Op → Result Recorded LineWhy
recorded_op_in_turn tables d None = Err why.BadOp
recorded_op_in_turn tables d (Some op) = recorded_change op d (table_in_turn tables recorded_names d)

abbrev pub recorded_document_in_turn : List Table → Option Data → Result Recorded LineWhy
recorded_document_in_turn tables None = Err why.NotJson
recorded_document_in_turn tables (Some d) = if is_object d then recorded_op_in_turn tables d (change_op d) else Err why.NotJson

abbrev pub recorded_in_turn : List Table → List ℕ → Result Recorded LineWhy
recorded_in_turn tables bytes =
    if nat_lt max_recorded_line_bytes (length bytes) then Err why.TooLong else recorded_document_in_turn tables (data_of_bytes bytes)
