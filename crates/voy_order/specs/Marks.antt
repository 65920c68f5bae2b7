-- Marks: which change events are applied, and which rows stand then, in whatever order they were committed.
use Rattle.std.specs.Prelude.{◌≡◌, ℕ, Bool, true, false, List, [], ◌∷◌, ◌++◌, ◌&&◌, ◌==◌, Option, nat_le, not, if◌then◌else◌}
use Rattle.std.specs.List.{Contains, filter}
use Rattle.voy_schema.specs.declared.table.Table.{Table}
use Rattle.voy_schema.specs.declared.value.Value.{Value}
use Rattle.voy_tables.specs.Changes.{RowId}
use Rattle.voy_tables.specs.Tables.{Tables, same_row_id}
use Rattle.voy_txn.specs.History.{Mark}
use Rattle.voy_order.specs.ChangeEvents.{ChangeEvent}
use Rattle.voy_order.specs.Channels.{channel_of}
use Rattle.voy_order.specs.Conflicts.{HoldsBack}

-- the channel of an event among those of a mark
abbrev pub channel_in : List Table → Mark → ChangeEvent → ℕ
channel_in schema mark e = channel_of schema mark.channels e.change.row

-- an event is applied at a mark that its vsn does not pass
abbrev pub is_applied : List Table → Mark → ChangeEvent → Bool
is_applied schema mark e = nat_le e.vsn (mark.vsn_of (channel_in schema mark e))

-- a mark is closed for a part of the queue where whatever holds an applied event of it back is applied too
abbrev pub IsClosed : List Table → Mark → List ChangeEvent → Type 0
IsClosed schema mark part =
    (f g : ChangeEvent) → Contains part f → Contains part g
    → is_applied schema mark f ≡ true → HoldsBack schema g f → is_applied schema mark g ≡ true

-- the mark with this event applied
abbrev pub raised : List Table → Mark → ChangeEvent → Mark
raised schema mark f = record {
  channels = mark.channels;
  vsn_of = λ channel. if channel == channel_in schema mark f then f.vsn else mark.vsn_of channel;
}

-- the mark with these events applied, one after the other
abbrev pub raised_by : List Table → Mark → List ChangeEvent → Mark
raised_by schema mark [] = mark
raised_by schema mark (f ∷ items) = raised_by schema (raised schema mark f) items

-- the row that the last of these events leaves at a key, or else this one
abbrev pub row_left : RowId → Option (List Value) → List ChangeEvent → Option (List Value)
row_left id row [] = row
row_left id row (e ∷ events) = row_left id (if same_row_id id e.change.row then e.change.after else row) events

-- the tables at a mark: at each key the row that its last applied change leaves, or that of the tables before them all
abbrev pub tables_at : List Table → Tables → List ChangeEvent → Mark → Tables
tables_at schema tables part mark = λ id. row_left id (tables id) (filter (is_applied schema mark) part)

-- the events of a channel that are not applied
abbrev pub lane : List Table → Mark → ℕ → List ChangeEvent → List ChangeEvent
lane schema mark channel events = filter (λ e. (channel_in schema mark e == channel) && not (is_applied schema mark e)) events

-- the event is the next of its channel
abbrev pub IsNext : List Table → Mark → List ChangeEvent → ChangeEvent → Type 0
IsNext schema mark part f = (rest : List ChangeEvent) × (lane schema mark (channel_in schema mark f) part ≡ f ∷ rest)

-- what holds one of these items back is applied or among them
abbrev pub AreFree : List Table → Mark → List ChangeEvent → List ChangeEvent → Type 0
AreFree schema mark part items =
    (f g : ChangeEvent) → Contains items f → Contains part g → HoldsBack schema g f → is_applied schema mark g ≡ false → Contains items g

-- items that may be committed at once: the next ones of their channel, which no pending event of another channel holds back
pub record MayCommit (schema : List Table) (mark : Mark) (part : List ChangeEvent) (channel : ℕ) (items : List ChangeEvent) : Type 0 where
  pub rest : List ChangeEvent
  pub next : lane schema mark channel part ≡ items ++ rest
  pub free : AreFree schema mark part items
