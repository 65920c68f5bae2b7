-- Which bytes are the canonical line of which event.
use Rattle.std.specs.Prelude.{ℕ, List, Option, Some, None, option_and_then, if◌then◌else◌}
use Rattle.std.specs.Result.{result_ok}
use Rattle.std.specs.Str.{bytes_eq}
use Rattle.voy_schema.specs.declared.table.Table.{Table}
use Rattle.voy_event.specs.EventLine.{line_reading}
use Rattle.voy_event.specs.LineText.{line_text}
use Rattle.voy_event.specs.declared.event.Event.{Event}

-- the event, where the line is its canonical one
abbrev pub if_canonical : List Table → List ℕ → Event → Option Event
if_canonical tables line e = if bytes_eq (line_text tables e) line then Some e else None

-- the event whose canonical line the bytes are
unfoldable pub canonical_reading : List Table → List ℕ → Option Event
canonical_reading tables line = option_and_then (if_canonical tables line) (result_ok (line_reading tables line))
