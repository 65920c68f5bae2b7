-- Where a cache files an entry: its bucket is by a hash of table, unique key and tuple, its lane the channel. Words of private clauses.
use Rattle.std.specs.Prelude.{◌≡◌, ◌+◌, ◌*◌, ◌%◌, ℕ, Bool, List, [], ◌∷◌, ◌++◌, ◌&&◌, ◌==◌, Option, Some, None, true, false, is_some, length, map, nat_le, nat_lt, not, slice_get, if◌then◌else◌}
use Rattle.std.specs.List.{AllByRecursion, filter}
use Rattle.std.specs.Option.{option_and_then, option_map, option_map_or}
use Rattle.voy_schema.specs.Rows.{text_of}
use Rattle.voy_schema.specs.declared.table.Table.{Table}
use Rattle.voy_schema.specs.declared.table.UniqueKey.{UniqueKey}
use Rattle.voy_schema.specs.declared.value.Value.{Value}
use Rattle.voy_tables.specs.Changes.{RowChange, row_change}
use Rattle.voy_tables.specs.declared.change.Change.{Change}
use Rattle.voy_event.specs.Events.{change_in}
use Rattle.voy_event.specs.declared.event.Event.{Event}
use Rattle.voy_link.specs.Arena.{Contents, Node, node_of}
use Rattle.voy_order.specs.ChangeEvents.{ChangeEvent, change_event}
use Rattle.voy_order.specs.Channels.{channel_of, fnv1a}
use Rattle.voy_order.specs.Conflicts.{is_handed, released, unique_keys_of}
use Rattle.voy_conflict.specs.declared.entry.Entry.{Entry}

-- the vsn and the change of the event at a place, where it has a change
abbrev pub vsn_change : Event → Option (ℕ × Change)
vsn_change e = option_map (λ c. (e.vsn, c)) (change_in e.what)

abbrev pub change_there : List Event → ℕ → Option (ℕ × Change)
change_there events at = option_and_then vsn_change (slice_get events at)

-- the same beside what the change does to which row
abbrev pub as_row_change : List Table → ℕ × Change → ℕ × RowChange
as_row_change schema p = (p.0, row_change schema p.1)

abbrev pub vsn_and_change : ChangeEvent → ℕ × RowChange
vsn_and_change g = (g.vsn, g.change)

-- the texts of a tuple, each behind a zero byte
abbrev pub tuple_bytes : List Value → List ℕ
tuple_bytes [] = []
tuple_bytes (v ∷ values) = (0 ∷ text_of v) ++ tuple_bytes values

abbrev pub tuple_hash : ℕ → ℕ → List Value → ℕ
tuple_hash table unique values = fnv1a (table * 256 + unique) (tuple_bytes values)

-- a node stands in the bucket of the tuple that its event releases, and in the lane of its event's channel
pub record IsFiled (schema : List Table) (events : List Event) (buckets lanes : ℕ) (n : Node Entry) : Type 0 where
  pub event : ChangeEvent
  pub there : option_and_then (change_event schema) (slice_get events n.item.at) ≡ Some event
  pub values : List Value
  pub releases : released schema n.item.unique event.change ≡ Some values
  pub bucket : n.bucket ≡ tuple_hash event.change.row.table n.item.unique values % buckets
  pub lane : n.lane ≡ channel_of schema lanes event.change.row

-- the event of an entry changes this table, releases this tuple of the unique key, and stands in front of this vsn
abbrev pub does_answer : List Table → List Event → ℕ → ℕ → Option (List Value) → ℕ → Entry → Bool
does_answer schema events table unique tuple vsn entry =
    (entry.unique == unique)
    && option_map_or (λ (g : ChangeEvent). (g.change.row.table == table) && is_handed (released schema unique g.change) tuple && nat_lt g.vsn vsn)
    (option_and_then (change_event schema) (slice_get events entry.at)) false

-- the last node that passes a test
abbrev pub last_passing : (Node Entry → Bool) → Option (Node Entry) → List (Node Entry) → Option (Node Entry)
last_passing test last [] = last
last_passing test last (n ∷ ns) = last_passing test (if test n then Some n else last) ns

-- the vsn of the event at a place; 0 where no event stands there
abbrev pub vsn_at : List Event → ℕ → ℕ
vsn_at events at = option_map_or (λ (e : Event). e.vsn) (slice_get events at) 0

-- the nodes without the first ones of a lane, up to this vsn
abbrev pub without_past : List Event → ℕ → ℕ → List (Node Entry) → List (Node Entry)
without_past events lane vsn [] = []
without_past events lane vsn (n ∷ ns) =
    if n.lane == lane
    then (if nat_le (vsn_at events n.item.at) vsn then without_past events lane vsn ns else n ∷ ns)
    else n ∷ without_past events lane vsn ns

-- no two nodes have the same id
abbrev pub are_apart : List (Node Entry) → Bool
are_apart [] = true
are_apart (n ∷ ns) = not (is_some (node_of ns n.id)) && are_apart ns

-- the columns of a unique key that may be there
abbrev pub columns_of : Option UniqueKey → List ℕ
columns_of None = []
columns_of (Some key) = key.columns

-- the unique keys of which a change releases a tuple, ascending
abbrev pub keys_released : List Table → RowChange → List ℕ
keys_released schema c = filter (λ unique. is_some (released schema unique c)) (unique_keys_of schema c.row.table)

-- this unique key, where the change releases a tuple of it
abbrev pub key_if : List Table → RowChange → ℕ → List ℕ
key_if schema c unique = if is_some (released schema unique c) then unique ∷ [] else []

-- entries of these unique keys were put behind all others, for the event with this change at a place
pub record Puts (schema : List Table) (c : RowChange) (at lane : ℕ) (keys : List ℕ) (old new : Contents Entry) : Type 0 where
  pub kept : map (λ (n : Node Entry). n.item) new.nodes ≡ map (λ (n : Node Entry). n.item) old.nodes ++ map (λ unique. record { at = at; unique = unique }) keys
  pub spare : new.spare + length keys ≡ old.spare
  pub buckets : new.buckets ≡ old.buckets
  pub lanes : new.lanes ≡ old.lanes
  pub apart : are_apart old.nodes ≡ true → are_apart new.nodes ≡ true
  pub filed : (events : List Event) (e : ChangeEvent) → option_and_then (change_event schema) (slice_get events at) ≡ Some e → e.change ≡ c
      → lane ≡ channel_of schema old.lanes c.row
      → AllByRecursion (IsFiled schema events old.buckets old.lanes) old.nodes → AllByRecursion (IsFiled schema events old.buckets old.lanes) new.nodes
