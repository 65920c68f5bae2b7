-- What events say: which are changes, which end a part of the queue, and the line that closes a segment.
use Rattle.std.specs.Prelude.{ℕ, Bool, true, false, List, Option, Some, None, codes, option_map}
use Rattle.std.specs.List.{filter_map}
use Rattle.voy_tables.specs.declared.change.Change.{Change}
use Rattle.voy_tables.specs.declared.change.Role.{Role}
use Rattle.voy_tables.specs.declared.change.Role.TheVariants as exporter
use Rattle.voy_event.specs.declared.event.Event.{Event}
use Rattle.voy_event.specs.declared.event.What.{What}
use Rattle.voy_event.specs.declared.event.What.TheVariants as what

-- the change of an event; a cutover has none
abbrev pub change_in : What → Option Change
change_in (what.Change c) = Some c
change_in what.CutoverTarget = None
change_in what.CutoverSource = None

-- the changes of events, one after the other
abbrev pub changes_in : List Event → List Change
changes_in events = filter_map (λ (e : Event). change_in e.what) events

-- the changes of events, each with the vsn of its event
abbrev pub vsn_changes : List Event → List (ℕ × Change)
vsn_changes events = filter_map (λ (e : Event). option_map (λ c. (e.vsn, c)) (change_in e.what)) events

-- the event is a change, and no cutover
abbrev pub is_change : What → Bool
is_change (what.Change c) = true
is_change what.CutoverTarget = false
is_change what.CutoverSource = false

-- the event is a cutover
abbrev pub is_cutover : What → Bool
is_cutover (what.Change c) = false
is_cutover what.CutoverTarget = true
is_cutover what.CutoverSource = true

-- the event is the last of its part of the queue
abbrev pub ends_part : Event → Bool
ends_part e = is_cutover e.what

-- the event is of the source part
abbrev pub is_by_source : Role → Bool
is_by_source exporter.Source = true
is_by_source exporter.Target = false

-- the line that closes a segment
unfoldable pub closing_line : List ℕ
closing_line = codes "\\."
