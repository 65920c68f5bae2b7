-- The bytes of a segment, as its writer puts them: each event's line with LF behind it, and at the end of a closed one the closing line.
use Rattle.std.specs.Prelude.{ℕ, Bool, true, false, List, [], ◌∷◌, ◌++◌, Option, Some, None, ◌==◌, if◌then◌else◌}
use Rattle.std.specs.Option.{option_map}
use Rattle.voy_event.specs.Events.{closing_line}
use Rattle.voy_event.specs.LineText.{line_text}
use Rattle.voy_event.specs.declared.event.Event.{Event}
use Rattle.voy_schema.specs.declared.table.Table.{Table}

abbrev pub line_feed : ℕ
line_feed = 10

-- the canonical line of an event, with LF
abbrev pub event_bytes : List Table → Event → List ℕ
event_bytes schema event = line_text schema event ++ line_feed ∷ []

-- the line that closes a segment, with LF; none where it is open
abbrev pub closing_bytes : Bool → List ℕ
closing_bytes false = []
closing_bytes true = closing_line ++ line_feed ∷ []

-- the first line of these bytes without its LF, and what stands behind it; there is none where no LF stands in them
unfoldable pub first_line : List ℕ → Option (List ℕ × List ℕ)
first_line [] = None
first_line (byte ∷ bytes) =
    if byte == line_feed then Some ([], bytes) else option_map (λ found. (byte ∷ found.0, found.1)) (first_line bytes)
