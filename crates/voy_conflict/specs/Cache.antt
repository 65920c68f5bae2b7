-- What a cache of released tuples keeps, and what it answers.
use Rattle.std.specs.Prelude.{◌≡◌, ℕ, Bool, false, List, [], ◌∷◌, ◌++◌, ◌&&◌, ◌==◌, Option, Some, None, map, nat_le, not, slice_get}
use Rattle.std.specs.List.{AllByRecursion, filter, filter_map}
use Rattle.std.specs.Option.{option_and_then, option_map_or}
use Rattle.voy_schema.specs.declared.table.Table.{Table}
use Rattle.voy_event.specs.declared.event.Event.{Event}
use Rattle.voy_txn.specs.declared.needs.Need.{Need}
use Rattle.voy_link.specs.Arena.{Contents, Node}
use Rattle.voy_order.specs.ChangeEvents.{ChangeEvent, change_event}
use Rattle.voy_order.specs.Channels.{channel_of}
use Rattle.voy_order.specs.Conflicts.{needs_of}
use Rattle.voy_conflict.specs.Filing.{IsFiled, keys_released}
use Rattle.voy_conflict.specs.declared.entry.Entry.{Entry}

-- the change event at a place of a window's events; none where no event stands there, or it changes no row
abbrev pub change_at : List Table → List Event → ℕ → Option ChangeEvent
change_at schema events at = option_and_then (change_event schema) (slice_get events at)

-- the change events at places, one after the other
abbrev pub events_at : List Table → List Event → List ℕ → List ChangeEvent
events_at schema events places = filter_map (change_at schema events) places

-- the unique keys of which an event releases a tuple, ascending
abbrev pub released_keys : List Table → ChangeEvent → List ℕ
released_keys schema e = keys_released schema e.change

-- the entries of an event: one for each tuple that it releases
abbrev pub entries_by : List Table → ℕ → Option ChangeEvent → List Entry
entries_by schema at None = []
entries_by schema at (Some e) = map (λ unique. record { at = at; unique = unique }) (released_keys schema e)

abbrev pub entries_at : List Table → List Event → ℕ → List Entry
entries_at schema events at = entries_by schema at (change_at schema events at)

-- the entries of the events at places, one after the other
abbrev pub entries_of : List Table → List Event → List ℕ → List Entry
entries_of schema events [] = []
entries_of schema events (at ∷ places) = entries_at schema events at ++ entries_of schema events places

-- the entries that a cache keeps, in the order in which they were put
abbrev pub kept : Contents Entry → List Entry
kept cache = map (λ (n : Node Entry). n.item) cache.nodes

-- a cache keeps the released tuples of just the events at these places. Callers hand it on unread
pub record Caches (cache : Contents Entry) (schema : List Table) (events : List Event) (places : List ℕ) : Type 0 where
  pub entries : kept cache ≡ entries_of schema events places
  pub filed : AllByRecursion (IsFiled schema events cache.buckets cache.lanes) cache.nodes

-- what the event at a place waits for among those at the places of a cache
abbrev pub needs_by : List Table → ℕ → List ChangeEvent → Option ChangeEvent → List Need
needs_by schema channels pending None = []
needs_by schema channels pending (Some f) = needs_of schema channels pending f

abbrev pub needs_at : List Table → ℕ → List Event → List ℕ → ℕ → List Need
needs_at schema channels events places at = needs_by schema channels (events_at schema events places) (change_at schema events at)

-- the event at a place is one of this channel up to this vsn
abbrev pub is_past : List Table → ℕ → List Event → ℕ → ℕ → ℕ → Bool
is_past schema channels events channel vsn at =
    option_map_or (λ (e : ChangeEvent). (channel_of schema channels e.change.row == channel) && nat_le e.vsn vsn) (change_at schema events at) false

-- the places of the others
abbrev pub left_of : List Table → ℕ → List Event → ℕ → ℕ → List ℕ → List ℕ
left_of schema channels events channel vsn places = filter (λ at. not (is_past schema channels events channel vsn at)) places
