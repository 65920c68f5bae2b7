-- Change events: the events of a queue that change a row, each with its number there.
use Rattle.std.specs.Prelude.{◌<◌, ℕ, List, [], ◌∷◌, Option, length, map}
use Rattle.std.specs.List.{AllByRecursion, filter_map}
use Rattle.std.specs.Option.{option_map}
use Rattle.voy_schema.specs.declared.table.Table.{Table}
use Rattle.voy_tables.specs.Changes.{RowChange, row_change}
use Rattle.voy_tables.specs.declared.change.Change.{Change}
use Rattle.voy_event.specs.Events.{change_in}
use Rattle.voy_event.specs.LineText.{line_text}
use Rattle.voy_event.specs.declared.event.Event.{Event}

-- an event that changes a row: its vsn, what it does to which row, and how many bytes its line takes
pub record ChangeEvent : Type 0 where
  pub vsn : ℕ
  pub change : RowChange
  pub bytes : ℕ

-- an event with this change as a change event
abbrev pub with_change : List Table → Event → Change → ChangeEvent
with_change schema e c = record { vsn = e.vsn; change = row_change schema c; bytes = length (line_text schema e) }

-- the change event that an event is; none where it is a cutover
abbrev pub change_event : List Table → Event → Option ChangeEvent
change_event schema e = option_map (with_change schema e) (change_in e.what)

-- the change events among events, in their order
abbrev pub change_events : List Table → List Event → List ChangeEvent
change_events schema events = filter_map (change_event schema) events

-- what change events do, one after the other
abbrev pub row_changes : List ChangeEvent → List RowChange
row_changes events = map (λ (e : ChangeEvent). e.change) events

-- each vsn is below all later ones
abbrev pub VsnsAscend : List ChangeEvent → Type 0
VsnsAscend [] = Unit {0}
VsnsAscend (e ∷ events) = AllByRecursion (λ (later : ChangeEvent). e.vsn < later.vsn) events × VsnsAscend events

-- vsns begin from 1
abbrev pub FromOne : List ChangeEvent → Type 0
FromOne events = AllByRecursion (λ (e : ChangeEvent). 0 < e.vsn) events
