-- What stands when a window's events grow.
use Rattle.std.specs.Prelude.{◌≡◌, ◌<◌, ◌≤◌, ◌*◌, ◌++◌, ◌&&◌, ◌==◌, ℕ, List, [], ◌∷◌, true, length, nat_le, not}
use Rattle.std.specs.List.{AllByRecursion, filter}
use Rattle.voy_schema.specs.Lawful.{is_lawful}
use Rattle.voy_schema.specs.declared.table.Table.{Table}
use Rattle.voy_event.specs.declared.event.Event.{Event}
use Rattle.voy_link.specs.Arena.{Contents}
use Rattle.voy_order.specs.ChangeEvents.{ChangeEvent, change_events}
use Rattle.voy_order.specs.Channels.{channel_of}
use Rattle.voy_conflict.specs.Cache.{Caches, entries_at, events_at, left_of}
use Rattle.voy_conflict.specs.declared.entry.Entry.{Entry}

-- a cache keeps the tuples of the same events when further ones come behind them
abbrev pub EventsMayGrow : Type 0
EventsMayGrow =
    (cache : Contents Entry) (schema : List Table) (events more : List Event) (places : List ℕ)
    → AllByRecursion (λ at. at < length events) places
    → Caches cache schema events places → Caches cache schema (events ++ more) places

-- an event has at most one entry for each unique key that a table may have
abbrev pub EntriesAreFew : Type 0
EntriesAreFew = (schema : List Table) (events : List Event) (at : ℕ) → is_lawful schema ≡ true → length (entries_at schema events at) ≤ 8

-- a cache has at most eight entries for each place
abbrev pub CachesAreFew : Type 0
CachesAreFew =
    (cache : Contents Entry) (schema : List Table) (events : List Event) (places : List ℕ)
    → is_lawful schema ≡ true → Caches cache schema events places → length cache.nodes ≤ 8 * length places

-- a cache without events left serves others as a new one does
abbrev pub EmptiedServeAnew : Type 0
EmptiedServeAnew =
    (cache : Contents Entry) (schema other : List Table) (events others : List Event) (places : List ℕ)
    → Caches cache schema events places → events_at schema events places ≡ [] → Caches cache other others []

-- what stands at the places that are left are the events that stood there but those of the channel up to the vsn
abbrev pub LeftAreOthers : Type 0
LeftAreOthers =
    (schema : List Table) (channels channel vsn : ℕ) (events : List Event) (places : List ℕ)
    → events_at schema events (left_of schema channels events channel vsn places)
    ≡ filter (λ (e : ChangeEvent). not ((channel_of schema channels e.change.row == channel) && nat_le e.vsn vsn)) (events_at schema events places)

-- at the place of an event that comes behind the others stands that event
abbrev pub NextIsListed : Type 0
NextIsListed =
    (schema : List Table) (events : List Event) (e : Event) (places : List ℕ)
    → AllByRecursion (λ at. at < length events) places
    → events_at schema (events ++ e ∷ []) (places ++ length events ∷ []) ≡ events_at schema events places ++ change_events schema (e ∷ [])
