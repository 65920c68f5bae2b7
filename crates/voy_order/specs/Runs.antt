-- Which channels may go on in a window of the queue, and how far: ready channels, and the run of one.
use Rattle.std.specs.Prelude.{◌≡◌, ◌-◌, ◌+◌, ℕ, zero, suc, Bool, false, List, [], ◌∷◌, ◌++◌, ◌&&◌, ◌==◌, nat_le, not, if◌then◌else◌}
use Rattle.std.specs.List.{Contains, filter, list_any, range_with_len}
use Rattle.voy_schema.specs.declared.table.Table.{Table}
use Rattle.voy_txn.specs.History.{Mark}
use Rattle.voy_order.specs.ChangeEvents.{ChangeEvent}
use Rattle.voy_order.specs.Conflicts.{holds_back}
use Rattle.voy_order.specs.Marks.{MayCommit, channel_in, is_applied, lane, raised_by}

-- the events of a window that are not applied
abbrev pub pending : List Table → Mark → List ChangeEvent → List ChangeEvent
pending schema mark window = filter (λ e. not (is_applied schema mark e)) window

-- what is pending in the window are the first pending events of the part
abbrev pub IsWindow : List Table → Mark → List ChangeEvent → List ChangeEvent → Type 0
IsWindow schema mark part window = (beyond : List ChangeEvent) × (pending schema mark part ≡ pending schema mark window ++ beyond)

-- a pending event of the window holds this one back
abbrev pub is_held : List Table → Mark → List ChangeEvent → ChangeEvent → Bool
is_held schema mark window f = list_any (λ g. holds_back schema g f) (pending schema mark window)

-- the first event of a lane is there, and nothing holds it back
abbrev pub may_begin : List Table → Mark → List ChangeEvent → List ChangeEvent → Bool
may_begin schema mark window [] = false
may_begin schema mark window (f ∷ rest) = not (is_held schema mark window f)

-- the ready channels, ascending: those whose first pending event no pending event of the window holds back
abbrev pub ready : List Table → Mark → List ChangeEvent → List ℕ
ready schema mark window = filter (λ channel. may_begin schema mark window (lane schema mark channel window)) (range_with_len 0 mark.channels)

-- a pending event of another channel holds this one back
abbrev pub is_held_by_other : List Table → Mark → List ChangeEvent → ChangeEvent → Bool
is_held_by_other schema mark window f =
    list_any (λ g. holds_back schema g f && not (channel_in schema mark g == channel_in schema mark f)) (pending schema mark window)

-- the first events, up to one that is held, and at most so many of at most so many bytes together
abbrev pub front : (ChangeEvent → Bool) → ℕ → ℕ → List ChangeEvent → List ChangeEvent
front held items bytes [] = []
front held zero bytes (f ∷ rest) = []
front held (suc items) bytes (f ∷ rest) =
    if nat_le f.bytes bytes && not (held f) then f ∷ front held items (bytes - f.bytes) rest else []

-- the bytes of events together
abbrev pub total_bytes : List ChangeEvent → ℕ
total_bytes [] = 0
total_bytes (e ∷ events) = e.bytes + total_bytes events

-- the most bytes that the lines of one run take together
abbrev pub max_run_bytes : ℕ
max_run_bytes = 16777216

-- the run of a channel: the longest list of its first pending events within both limits of which none is held back by a
-- pending event of another channel
abbrev pub run_of : List Table → ℕ → Mark → List ChangeEvent → ℕ → List ChangeEvent
run_of schema max_events mark window channel =
    front (is_held_by_other schema mark window) max_events max_run_bytes (lane schema mark channel window)

-- a transaction of change events: its channel, and its items
pub record Commit : Type 0 where
  pub channel : ℕ
  pub items : List ChangeEvent

-- the mark after commits, one after the other
abbrev pub marked_by : List Table → Mark → List Commit → Mark
marked_by schema mark [] = mark
marked_by schema mark (c ∷ commits) = marked_by schema (raised_by schema mark c.items) commits

-- each may be committed at the mark that those before it leave
abbrev pub MayCommitInTurn : List Table → Mark → List ChangeEvent → List Commit → Type 0
MayCommitInTurn schema mark part [] = Unit {0}
MayCommitInTurn schema mark part (c ∷ commits) =
    MayCommit schema mark part c.channel c.items × MayCommitInTurn schema (raised_by schema mark c.items) part commits

-- the items of commits, one after the other
abbrev pub items_in : List Commit → List ChangeEvent
items_in [] = []
items_in (c ∷ commits) = c.items ++ items_in commits

-- each is the run of a channel that is ready in the window at the mark that those before it leave, until nothing is pending there
abbrev pub Drains : List Table → ℕ → Mark → List ChangeEvent → List Commit → Type 0
Drains schema max_events mark window [] = pending schema mark window ≡ []
Drains schema max_events mark window (c ∷ commits) =
    Contains (ready schema mark window) c.channel
    × (c.items ≡ run_of schema max_events mark window c.channel)
    × Drains schema max_events (raised_by schema mark c.items) window commits
