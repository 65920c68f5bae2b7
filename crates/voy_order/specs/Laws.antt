-- The laws of commit orders: change events of a valid part, committed in any order that keeps marks closed.
use Rattle.std.specs.Prelude.{◌≡◌, ◌<◌, ◌≤◌, ◌⊎◌, ℕ, true, List, [], ◌∷◌, ◌++◌, Some}
use Rattle.std.specs.Bool.{Decides}
use Rattle.std.specs.List.{AllByRecursion, Contains}
use Rattle.voy_schema.specs.declared.table.Table.{Table}
use Rattle.voy_schema.specs.declared.value.Value.{Value}
use Rattle.voy_tables.specs.Changes.{RowChange, RowId}
use Rattle.voy_tables.specs.Tables.{FitInTurn, Fits, IsClean, IsValid, Tables, do_change, fold_changes}
use Rattle.voy_txn.specs.History.{Mark}
use Rattle.voy_order.specs.ChangeEvents.{ChangeEvent, FromOne, VsnsAscend, row_changes}
use Rattle.voy_order.specs.Conflicts.{HandsOver, HoldsBack, hands_over, holds_back, needs_of, released}
use Rattle.voy_order.specs.Marks.{IsClosed, IsNext, MayCommit, is_applied, lane, raised, raised_by, tables_at}
use Rattle.voy_order.specs.Runs.{Commit, MayCommitInTurn, items_in, marked_by}
use Rattle.voy_txn.specs.declared.needs.Need.{Need}

-- the test whether one event holds another back says exactly that it does
pub record HoldingBackIsDecided : Type 0 where
  pub changes : (schema : List Table) (first second : RowChange) → Decides (hands_over schema first second) (HandsOver schema first second)
  pub events : (schema : List Table) (g f : ChangeEvent) → Decides (holds_back schema g f) (HoldsBack schema g f)

-- the tables at a closed mark of a valid part are clean
abbrev pub ClosedMarksAreClean : Type 0
ClosedMarksAreClean =
    (schema : List Table) (tables : Tables) (part : List ChangeEvent) (mark : Mark)
    → VsnsAscend part → IsValid schema tables (row_changes part) → IsClosed schema mark part
    → IsClean schema (tables_at schema tables part mark)

-- what one event does to the tables at a mark: it fits, it gives the tables with the event applied, and that mark is closed
pub record Applies (schema : List Table) (tables : Tables) (part : List ChangeEvent) (mark : Mark) (f : ChangeEvent) : Type 0 where
  pub fits : Fits schema f.change (tables_at schema tables part mark)
  pub gives : (id : RowId) → do_change f.change (tables_at schema tables part mark) id ≡ tables_at schema tables part (raised schema mark f) id
  pub closed : IsClosed schema (raised schema mark f) part

-- the next event of its channel applies, at a closed mark of a valid part, where all that hold it back are applied
abbrev pub OneStep : Type 0
OneStep =
    (schema : List Table) (tables : Tables) (part : List ChangeEvent) (mark : Mark) (f : ChangeEvent)
    → VsnsAscend part → IsValid schema tables (row_changes part) → IsClosed schema mark part
    → IsNext schema mark part f
    → ((g : ChangeEvent) → Contains part g → HoldsBack schema g f → is_applied schema mark g ≡ true)
    → Applies schema tables part mark f

-- where an event that releases a tuple is applied, at a closed mark of a valid part, each earlier one that releases it is applied too
abbrev pub LastReleaser : Type 0
LastReleaser =
    (schema : List Table) (tables : Tables) (part : List ChangeEvent) (mark : Mark) (g earlier : ChangeEvent) (unique : ℕ) (values : List Value)
    → VsnsAscend part → IsValid schema tables (row_changes part) → IsClosed schema mark part
    → Contains part g → released schema unique g.change ≡ Some values → is_applied schema mark g ≡ true
    → Contains part earlier → earlier.vsn < g.vsn → earlier.change.row.table ≡ g.change.row.table
    → released schema unique earlier.change ≡ Some values
    → is_applied schema mark earlier ≡ true

-- what the items of a transaction do to the tables at a mark: they fit in turn, they give the tables with all of them applied, and
-- that mark is closed
pub record Commits (schema : List Table) (tables : Tables) (part : List ChangeEvent) (mark : Mark) (items : List ChangeEvent) : Type 0 where
  pub fit : FitInTurn schema (tables_at schema tables part mark) (row_changes items)
  pub gives : (id : RowId) → fold_changes (tables_at schema tables part mark) (row_changes items) id
      ≡ tables_at schema tables part (raised_by schema mark items) id
  pub closed : IsClosed schema (raised_by schema mark items) part

-- items that may be committed fit
abbrev pub ItemsFit : Type 0
ItemsFit =
    (schema : List Table) (tables : Tables) (part : List ChangeEvent) (mark : Mark) (channel : ℕ) (items : List ChangeEvent)
    → VsnsAscend part → IsValid schema tables (row_changes part) → IsClosed schema mark part
    → MayCommit schema mark part channel items
    → Commits schema tables part mark items

-- no event is applied, of so many channels
abbrev pub nothing_done : ℕ → Mark
nothing_done channels = record { channels = channels; vsn_of = λ channel. 0 }

-- what commits do to tables from the first on: all items fit in turn and give the tables at the mark, which are clean, and the mark is
-- closed; where it has the whole part applied, they are the fold of the part
pub record Ends (schema : List Table) (tables : Tables) (part : List ChangeEvent) (mark : Mark) (items : List ChangeEvent) : Type 0 where
  pub fit : FitInTurn schema tables (row_changes items)
  pub gives : (id : RowId) → fold_changes tables (row_changes items) id ≡ tables_at schema tables part mark id
  pub clean : IsClean schema (tables_at schema tables part mark)
  pub closed : IsClosed schema mark part
  pub whole : ((e : ChangeEvent) → Contains part e → is_applied schema mark e ≡ true)
      → (id : RowId) → tables_at schema tables part mark id ≡ fold_changes tables (row_changes part) id

-- any order of commits, each of what may be committed then, ends in the tables at its mark, and in the fold where nothing is left
abbrev pub AnyOrder : Type 0
AnyOrder =
    (schema : List Table) (tables : Tables) (part : List ChangeEvent) (channels : ℕ) (commits : List Commit)
    → VsnsAscend part → FromOne part → IsValid schema tables (row_changes part)
    → MayCommitInTurn schema (nothing_done channels) part commits
    → Ends schema tables part (marked_by schema (nothing_done channels) commits) (items_in commits)

-- a need is reached at a mark whose channel has that vsn
abbrev pub IsReached : Mark → Need → Type 0
IsReached mark need = need.vsn ≤ mark.vsn_of need.channel

-- a list of events of the part in which each that is not applied stands, up to some event
abbrev pub ListsPending : List Table → Mark → List ChangeEvent → (ChangeEvent → Type 0) → List ChangeEvent → Type 0
ListsPending schema mark part UpTo listed =
    VsnsAscend listed
    × ((e : ChangeEvent) → Contains listed e → Contains part e)
    × ((e : ChangeEvent) → Contains part e → UpTo e → (is_applied schema mark e ≡ true) ⊎ Contains listed e)

-- where the needs of the next event of a channel are reached, all that hold it back are applied
abbrev pub ReachedNeedsSuffice : Type 0
ReachedNeedsSuffice =
    (schema : List Table) (tables : Tables) (part : List ChangeEvent) (mark : Mark) (f : ChangeEvent) (listed : List ChangeEvent)
    → VsnsAscend part → IsValid schema tables (row_changes part) → IsClosed schema mark part
    → IsNext schema mark part f
    → ListsPending schema mark part (λ e. e.vsn < f.vsn) listed
    → AllByRecursion (IsReached mark) (needs_of schema mark.channels listed f)
    → (g : ChangeEvent) → Contains part g → HoldsBack schema g f → is_applied schema mark g ≡ true

-- the needs of the first are reached, and the others have none
abbrev pub HaveReachedNeeds : List Table → Mark → List ChangeEvent → List ChangeEvent → Type 0
HaveReachedNeeds schema mark listed [] = Unit {0}
HaveReachedNeeds schema mark listed (f ∷ items) =
    AllByRecursion (IsReached mark) (needs_of schema mark.channels listed f)
    × AllByRecursion (λ e. needs_of schema mark.channels listed e ≡ []) items

-- the next items of a channel, none of them behind this vsn, may be committed where their needs, found once over a list that may be older
-- than the mark and has what is pending in front of it, are reached at the first and are none at the others
abbrev pub WorkerCommits : Type 0
WorkerCommits =
    (schema : List Table) (tables : Tables) (part : List ChangeEvent) (mark : Mark) (channel : ℕ) (items rest listed : List ChangeEvent) (last : ℕ)
    → VsnsAscend part → IsValid schema tables (row_changes part) → IsClosed schema mark part
    → lane schema mark channel part ≡ items ++ rest
    → ((f : ChangeEvent) → Contains items f → f.vsn ≤ last)
    → ListsPending schema mark part (λ e. e.vsn < last) listed
    → HaveReachedNeeds schema mark listed items
    → MayCommit schema mark part channel items

-- every channel done up to this vsn
abbrev pub epoch_mark : ℕ → ℕ → Mark
epoch_mark vsn channels = record { channels = channels; vsn_of = λ channel. vsn }

-- an epoch leaves what is applied: the tables are the same, and the mark is closed where it was
pub record EpochStays (schema : List Table) (part : List ChangeEvent) (mark epoch : Mark) : Type 0 where
  pub applied : (e : ChangeEvent) → Contains part e → is_applied schema epoch e ≡ is_applied schema mark e
  pub same : (tables : Tables) (id : RowId) → tables_at schema tables part epoch id ≡ tables_at schema tables part mark id
  pub closed : IsClosed schema mark part → IsClosed schema epoch part

-- an epoch at a vsn that no channel has passed, and up to which the whole part is applied
abbrev pub EpochsChangeNothing : Type 0
EpochsChangeNothing =
    (schema : List Table) (part : List ChangeEvent) (mark : Mark) (vsn channels : ℕ)
    → 0 < mark.channels
    → ((channel : ℕ) → channel < mark.channels → mark.vsn_of channel ≤ vsn)
    → ((e : ChangeEvent) → Contains part e → e.vsn ≤ vsn → is_applied schema mark e ≡ true)
    → EpochStays schema part mark (epoch_mark vsn channels)
