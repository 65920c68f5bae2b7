-- The words of a line's `op` and exporter, and the strings and numbers at its names.
use Rattle.std.specs.Prelude.{ℕ, ◌^◌, List, Option, Some, None, codes, nat_lt, option_and_then, option_map, if◌then◌else◌}
use Rattle.std.specs.Str.{bytes_eq}
use Rattle.serde_json.specs.Data.{Data, null}
use Rattle.serde_json.specs.Find.{as_number, as_u64, get}
use Rattle.voy_json.specs.Document.{data_of_bytes}
use Rattle.voy_json.specs.Document.{text_at}
use Rattle.voy_event.specs.declared.words.EventKind.{EventKind}
use Rattle.voy_event.specs.declared.words.EventKind.TheVariants.{Change, CutoverTarget, CutoverSource}
use Rattle.voy_event.specs.declared.words.Op.{Op}
use Rattle.voy_event.specs.declared.words.Op.TheVariants.{Insert, Update, Delete}
use Rattle.voy_tables.specs.declared.change.Role.{Role}
use Rattle.voy_tables.specs.declared.change.Role.TheVariants as exporter

abbrev pub or_null : Option Data → Data
or_null None = null
or_null (Some d) = d

-- the JSON document that the bytes are; null, which is no object, where they are none
abbrev pub document : List ℕ → Data
document bytes = or_null (data_of_bytes bytes)

unfoldable pub op_of_text : List ℕ → Option Op
op_of_text text =
    if bytes_eq text (codes "c") then Some Insert
    else if bytes_eq text (codes "u") then Some Update
    else if bytes_eq text (codes "d") then Some Delete
    else None

-- a cutover to the target or to the source, or else a change
unfoldable pub kind_of_text : List ℕ → Option EventKind
kind_of_text text =
    if bytes_eq text (codes "cutover.target") then Some CutoverTarget
    else if bytes_eq text (codes "cutover.source") then Some CutoverSource
    else option_map Change (op_of_text text)

unfoldable pub role_of_text : List ℕ → Option Role
role_of_text text =
    if bytes_eq text (codes "source_db_exporter") then Some exporter.Source
    else if bytes_eq text (codes "target_db_exporter_fb") then Some exporter.Target
    else None

unfoldable pub text_of_role : Role → List ℕ
text_of_role exporter.Source = codes "source_db_exporter"
text_of_role exporter.Target = codes "target_db_exporter_fb"

-- the number, where it is below 2 ^ 64
abbrev pub in_64_bits : Option ℕ → Option ℕ
in_64_bits None = None
in_64_bits (Some n) = if nat_lt n (2 ^ 64) then Some n else None

-- the whole number at this name of an object: digits without fraction and exponent, below 2 ^ 64
abbrev pub number_at : List ℕ → Data → Option ℕ
number_at name d = in_64_bits (option_and_then as_u64 (option_and_then as_number (get name d)))

-- what an event line is; nothing where its `op` is absent or no such word
abbrev pub event_kind : Data → Option EventKind
event_kind d = option_and_then kind_of_text (text_at (codes "op") d)

-- what a change line does; nothing where its `op` is absent or no such word
abbrev pub change_op : Data → Option Op
change_op d = option_and_then op_of_text (text_at (codes "op") d)

-- the exporter that an event line names
abbrev pub role_at : Data → Option Role
role_at d = option_and_then role_of_text (text_at (codes "exporter_role") d)
