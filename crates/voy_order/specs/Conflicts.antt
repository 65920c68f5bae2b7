-- Which changes must not pass one another: what a change releases and acquires, and what holds it back.
use Rattle.std.specs.Prelude.{◌≡◌, ◌<◌, ℕ, Bool, false, List, [], ◌∷◌, ◌&&◌, ◌==◌, Option, Some, None, is_some, length, nat_lt, slice_get, if◌then◌else◌}
use Rattle.std.specs.List.{filter, filter_map, list_any, range_with_len}
use Rattle.voy_schema.specs.declared.table.Table.{Table}
use Rattle.voy_schema.specs.declared.value.Value.{Value}
use Rattle.voy_tables.specs.Changes.{RowChange}
use Rattle.voy_tables.specs.Keys.{same_tuple, same_values}
use Rattle.voy_tables.specs.Tables.{tuple_in}
use Rattle.voy_order.specs.ChangeEvents.{ChangeEvent}
use Rattle.voy_order.specs.Channels.{channel_of}
use Rattle.voy_txn.specs.declared.needs.Need.{Need}

-- a change releases the counting tuple of its row before for a unique key where its row after has another one, or none
abbrev pub released : List Table → ℕ → RowChange → Option (List Value)
released schema unique c =
    if same_tuple (tuple_in schema c.row.table unique c.before) (tuple_in schema c.row.table unique c.after)
    then None
    else tuple_in schema c.row.table unique c.before

-- it acquires the counting tuple of its row after where its row before has another one, or none
abbrev pub acquired : List Table → ℕ → RowChange → Option (List Value)
acquired schema unique c =
    if same_tuple (tuple_in schema c.row.table unique c.before) (tuple_in schema c.row.table unique c.after)
    then None
    else tuple_in schema c.row.table unique c.after

-- the row before a change that releases a tuple of this unique key, and the row after one that acquires one
abbrev pub releasing_row : List Table → ℕ → RowChange → Option (List Value)
releasing_row schema unique c = if is_some (released schema unique c) then c.before else None

abbrev pub acquiring_row : List Table → ℕ → RowChange → Option (List Value)
acquiring_row schema unique c = if is_some (acquired schema unique c) then c.after else None

-- the second change acquires the tuple that the first releases, for one unique key of the table that both change
pub record HandsOver (schema : List Table) (first second : RowChange) : Type 0 where
  pub table : first.row.table ≡ second.row.table
  pub unique : ℕ
  pub values : List Value
  pub releases : released schema unique first ≡ Some values
  pub acquires : acquired schema unique second ≡ Some values

-- an earlier change event holds a later one back where it releases what the later one acquires
pub record HoldsBack (schema : List Table) (g f : ChangeEvent) : Type 0 where
  pub before : g.vsn < f.vsn
  pub hands : HandsOver schema g.change f.change

-- how many unique keys the table has
abbrev pub unique_keys_in : Option Table → ℕ
unique_keys_in None = 0
unique_keys_in (Some t) = length t.unique_keys

-- the numbers of the unique keys of the table at this place
abbrev pub unique_keys_of : List Table → ℕ → List ℕ
unique_keys_of schema table = range_with_len 0 (unique_keys_in (slice_get schema table))

-- the event changes this table, and releases this tuple of the unique key
abbrev pub does_release : List Table → ℕ → ℕ → List Value → ChangeEvent → Bool
does_release schema table unique values g = (g.change.row.table == table) && same_tuple (released schema unique g.change) (Some values)

-- the last of these events that releases the tuple, or else this one
abbrev pub last_releaser : List Table → ℕ → ℕ → List Value → Option ChangeEvent → List ChangeEvent → Option ChangeEvent
last_releaser schema table unique values last [] = last
last_releaser schema table unique values last (g ∷ events) =
    last_releaser schema table unique values (if does_release schema table unique values g then Some g else last) events

-- an event of another channel is waited for
abbrev pub need_at : List Table → ℕ → ℕ → Option ChangeEvent → Option Need
need_at schema channels channel None = None
need_at schema channels channel (Some g) =
    if channel_of schema channels g.change.row == channel
    then None
    else Some (record { channel = channel_of schema channels g.change.row; vsn = g.vsn })

-- what an event waits for that acquires this tuple, if it does: the last event before it that releases the tuple
abbrev pub need_for : List Table → ℕ → List ChangeEvent → ChangeEvent → ℕ → Option (List Value) → Option Need
need_for schema channels pending f unique None = None
need_for schema channels pending f unique (Some values) =
    need_at schema channels (channel_of schema channels f.change.row)
    (last_releaser schema f.change.row.table unique values None (filter (λ g. nat_lt g.vsn f.vsn) pending))

-- what an event waits for among pending ones, by ascending unique key
abbrev pub needs_of : List Table → ℕ → List ChangeEvent → ChangeEvent → List Need
needs_of schema channels pending f =
    filter_map (λ unique. need_for schema channels pending f unique (acquired schema unique f.change)) (unique_keys_of schema f.change.row.table)

-- whether the second change acquires what the first releases
abbrev pub is_handed : Option (List Value) → Option (List Value) → Bool
is_handed None second = false
is_handed (Some a) None = false
is_handed (Some a) (Some b) = same_values a b

unfoldable pub hands_over : List Table → RowChange → RowChange → Bool
hands_over schema first second =
    (first.row.table == second.row.table)
    && list_any (λ unique. is_handed (released schema unique first) (acquired schema unique second)) (unique_keys_of schema first.row.table)

-- whether the first event holds the second back
abbrev pub holds_back : List Table → ChangeEvent → ChangeEvent → Bool
holds_back schema g f = nat_lt g.vsn f.vsn && hands_over schema g.change f.change
