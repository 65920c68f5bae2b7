-- The laws of ready channels and their runs, which a drain goes by.
use Rattle.std.specs.Prelude.{◌≡◌, ◌≢◌, ◌<◌, ◌≤◌, ℕ, Bool, true, false, List, [], ◌∷◌, ◌++◌, ◌==◌, length}
use Rattle.std.specs.List.{AllByRecursion, Contains, filter}
use Rattle.voy_schema.specs.declared.table.Table.{Table}
use Rattle.voy_tables.specs.Tables.{IsValid, Tables}
use Rattle.voy_txn.specs.History.{Mark}
use Rattle.voy_order.specs.ChangeEvents.{ChangeEvent, VsnsAscend, row_changes}
use Rattle.voy_order.specs.Channels.{channel_of}
use Rattle.voy_order.specs.Conflicts.{needs_of}
use Rattle.voy_order.specs.Marks.{IsClosed, MayCommit, is_applied, lane, raised_by}
use Rattle.voy_order.specs.Runs.{Commit, Drains, IsWindow, MayCommitInTurn, front, is_held, is_held_by_other, items_in, marked_by, max_run_bytes, pending, ready, run_of, total_bytes}
use Rattle.voy_txn.specs.declared.needs.Need.{Need}

-- where an event of the window is pending, some channel is ready
abbrev pub SomeChannelIsReady : Type 0
SomeChannelIsReady =
    (schema : List Table) (mark : Mark) (window : List ChangeEvent) (e : ChangeEvent)
    → VsnsAscend window → 0 < mark.channels → Contains window e → is_applied schema mark e ≡ false
    → ready schema mark window ≢ []

-- whether there are needs
abbrev pub has_needs : List Need → Bool
has_needs [] = false
has_needs (need ∷ needs) = true

-- the first pending event of a channel is held back exactly where it has needs among the pending ones
abbrev pub ReadyByNeeds : Type 0
ReadyByNeeds =
    (schema : List Table) (mark : Mark) (window : List ChangeEvent) (channel : ℕ) (f : ChangeEvent) (rest : List ChangeEvent)
    → VsnsAscend window → lane schema mark channel window ≡ f ∷ rest
    → is_held schema mark window f ≡ has_needs (needs_of schema mark.channels (pending schema mark window) f)

-- a ready channel has a run, where each event is within the bytes of one
abbrev pub ReadyChannelsRun : Type 0
ReadyChannelsRun =
    (schema : List Table) (max_events : ℕ) (mark : Mark) (window : List ChangeEvent) (channel : ℕ)
    → 1 ≤ max_events → AllByRecursion (λ (e : ChangeEvent). e.bytes ≤ max_run_bytes) window
    → Contains (ready schema mark window) channel
    → run_of schema max_events mark window channel ≢ []

-- the run of a channel may be committed, where the window has the first pending events of the part
abbrev pub RunsMayCommit : Type 0
RunsMayCommit =
    (schema : List Table) (max_events : ℕ) (part : List ChangeEvent) (mark : Mark) (window : List ChangeEvent) (channel : ℕ)
    → VsnsAscend part → IsWindow schema mark part window
    → MayCommit schema mark part channel (run_of schema max_events mark window channel)

-- at a closed mark of a valid part the run of a channel ends in front of the first event that has needs
abbrev pub RunsAreByNeeds : Type 0
RunsAreByNeeds =
    (schema : List Table) (max_events : ℕ) (tables : Tables) (part : List ChangeEvent) (mark : Mark) (window : List ChangeEvent) (channel : ℕ)
    → VsnsAscend part → IsValid schema tables (row_changes part) → IsClosed schema mark part
    → IsWindow schema mark part window
    → run_of schema max_events mark window channel
    ≡ front (λ f. has_needs (needs_of schema mark.channels (pending schema mark window) f)) max_events max_run_bytes (lane schema mark channel window)

-- first events of a channel within both limits, of which none is held back by a pending event of another channel
pub record IsWithin (schema : List Table) (max_events : ℕ) (mark : Mark) (window : List ChangeEvent) (channel : ℕ) (items : List ChangeEvent) : Type 0 where
  pub rest : List ChangeEvent
  pub first : lane schema mark channel window ≡ items ++ rest
  pub few : length items ≤ max_events
  pub short : total_bytes items ≤ max_run_bytes
  pub free : AllByRecursion (λ f. is_held_by_other schema mark window f ≡ false) items

-- the run is such a list, and none is longer
pub record IsLongest (schema : List Table) (max_events : ℕ) (mark : Mark) (window : List ChangeEvent) (channel : ℕ) (run : List ChangeEvent) : Type 0 where
  pub within : IsWithin schema max_events mark window channel run
  pub longest : (other : List ChangeEvent) → IsWithin schema max_events mark window channel other → length other ≤ length run

abbrev pub RunsAreLongest : Type 0
RunsAreLongest =
    (schema : List Table) (max_events : ℕ) (mark : Mark) (window : List ChangeEvent) (channel : ℕ)
    → IsLongest schema max_events mark window channel (run_of schema max_events mark window channel)

-- a window stays one while its channels are committed
abbrev pub WindowsStay : Type 0
WindowsStay =
    (schema : List Table) (part : List ChangeEvent) (mark : Mark) (window : List ChangeEvent) (channel : ℕ) (items : List ChangeEvent)
    → VsnsAscend part → IsWindow schema mark part window → MayCommit schema mark part channel items
    → IsWindow schema (raised_by schema mark items) part window

-- the events of one channel
abbrev pub of_channel : List Table → ℕ → ℕ → List ChangeEvent → List ChangeEvent
of_channel schema channels channel events = filter (λ (e : ChangeEvent). channel_of schema channels e.change.row == channel) events

-- the commits of a drain: each may be committed in its turn; all of the window is applied behind them; and of each channel they have just
-- what was pending there, in order
pub record IsDrained (schema : List Table) (part : List ChangeEvent) (mark : Mark) (window : List ChangeEvent) (commits : List Commit) : Type 0 where
  pub may : MayCommitInTurn schema mark part commits
  pub applied : (e : ChangeEvent) → Contains window e → is_applied schema (marked_by schema mark commits) e ≡ true
  pub each : (channel : ℕ) → of_channel schema mark.channels channel (items_in commits) ≡ lane schema mark channel window

-- runs of ready channels, picked in any order until nothing is pending, drain the window
abbrev pub DrainsEnd : Type 0
DrainsEnd =
    (schema : List Table) (max_events : ℕ) (part : List ChangeEvent) (mark : Mark) (window : List ChangeEvent) (commits : List Commit)
    → VsnsAscend part → IsWindow schema mark part window
    → Drains schema max_events mark window commits
    → IsDrained schema part mark window commits

-- a commit takes its items from its channel, and leaves the other channels
pub record TakesItems (schema : List Table) (events : List ChangeEvent) (mark : Mark) (channel : ℕ) (items rest : List ChangeEvent) : Type 0 where
  pub own : lane schema (raised_by schema mark items) channel events ≡ rest
  pub others : (other : ℕ) → other ≢ channel → lane schema (raised_by schema mark items) other events ≡ lane schema mark other events

abbrev pub CommitsTakeItems : Type 0
CommitsTakeItems =
    (schema : List Table) (events : List ChangeEvent) (mark : Mark) (channel : ℕ) (items rest : List ChangeEvent)
    → VsnsAscend events → lane schema mark channel events ≡ items ++ rest
    → TakesItems schema events mark channel items rest
