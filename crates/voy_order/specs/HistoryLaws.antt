-- The laws of good histories: what keeps them good, what stands after each prefix, and where they end.
use Rattle.std.specs.Prelude.{◌≡◌, ◌<◌, ◌≤◌, ◌↔◌, ℕ, true, false, List, [], ◌∷◌, ◌++◌, None}
use Rattle.std.specs.List.{AllByRecursion, Contains, list_any}
use Rattle.voy_schema.specs.declared.table.Table.{Table}
use Rattle.voy_schema.specs.declared.value.Value.{Value}
use Rattle.voy_tables.specs.Changes.{RowId}
use Rattle.voy_tables.specs.Lists.{look}
use Rattle.voy_tables.specs.Standing.{are_tables}
use Rattle.voy_tables.specs.Tables.{FitInTurn, IsValid, Tables, fold_changes, no_rows}
use Rattle.voy_event.specs.declared.event.Event.{Event}
use Rattle.voy_txn.specs.History.{History, Mark, channels_of, mark_of, tables_of}
use Rattle.voy_txn.specs.Items.{violation_of}
use Rattle.voy_txn.specs.LawfulTxn.{IsLawfulTxn}
use Rattle.voy_txn.specs.declared.txn.Txn.{Txn}
use Rattle.voy_txn.specs.declared.txn.Txn.TheVariants.{Load, Batch, Events, Epoch}
use Rattle.voy_order.specs.ChangeEvents.{ChangeEvent, FromOne, VsnsAscend, change_events, row_changes}
use Rattle.voy_order.specs.Histories.{AreNextEvents, Basis, BatchFiles, HasAllRows, IsGood, IsNextBatch, IsNextEpoch, Origin, Stands, beginning, changes_by, is_events, rows_standing, tables_before}
use Rattle.voy_order.specs.Marks.{AreFree, is_applied, raised_by}

-- the transactions of a store, those that it began with in front
abbrev pub whole : Basis → History → History
whole basis history = beginning basis.origin ++ history

-- change events that come next, fit, and are free where the part is valid, keep a history good
abbrev pub EventsKeepGood : Type 0
EventsKeepGood =
    (basis : Basis) (history : History) (channel : ℕ) (items : List Event)
    → VsnsAscend basis.part → FromOne basis.part → IsGood basis history
    → AreNextEvents basis.schema basis.origin basis.part basis.first (whole basis history) channel items
    → FitInTurn basis.schema (rows_standing basis.schema (whole basis history)) (changes_by basis.schema (Events channel items))
    → (IsValid basis.schema (tables_before basis.schema basis.origin) (row_changes basis.part)
    → AreFree basis.schema (mark_of basis.first (whole basis history)) basis.part (change_events basis.schema items))
    → IsGood basis (history ++ Events channel items ∷ [])

-- so does a batch that comes next and fits, while no change events stand
abbrev pub BatchesKeepGood : Type 0
BatchesKeepGood =
    (basis : Basis) (history : History) (table number : ℕ) (rows : List (List Value))
    → FromOne basis.part → IsGood basis history
    → list_any is_events history ≡ false
    → IsNextBatch basis.origin basis.files (whole basis history) table number rows
    → FitInTurn basis.schema (rows_standing basis.schema (whole basis history)) (changes_by basis.schema (Batch table number rows))
    → IsGood basis (history ++ Batch table number rows ∷ [])

-- and an epoch that comes next
abbrev pub EpochsKeepGood : Type 0
EpochsKeepGood =
    (basis : Basis) (history : History) (vsn channels : ℕ)
    → 0 < basis.first → FromOne basis.part → IsGood basis history
    → IsNextEpoch basis.schema basis.part basis.last basis.first (whole basis history) vsn channels
    → IsGood basis (history ++ Epoch vsn channels ∷ [])

-- a basis whose part of the queue has more events, up to this vsn
abbrev pub with_events : Basis → List ChangeEvent → ℕ → Basis
with_events basis more last = record {
  schema = basis.schema;
  origin = basis.origin;
  files = basis.files;
  part = basis.part ++ more;
  last = last;
  first = basis.first;
}

-- a history stays good when the queue grows
abbrev pub QueuesMayGrow : Type 0
QueuesMayGrow =
    (basis : Basis) (history : History) (more : List ChangeEvent) (last : ℕ)
    → VsnsAscend (basis.part ++ more)
    → ((e : ChangeEvent) → Contains basis.part e → e.vsn ≤ basis.last)
    → ((e : ChangeEvent) → Contains more e → basis.last < e.vsn)
    → basis.last ≤ last
    → IsGood basis history → IsGood (with_events basis more last) history

-- a basis with other batch files
abbrev pub with_files : Basis → BatchFiles → Basis
with_files basis files = record {
  schema = basis.schema;
  origin = basis.origin;
  files = files;
  part = basis.part;
  last = basis.last;
  first = basis.first;
}

-- and when batch files are made
abbrev pub FilesMayBeMade : Type 0
FilesMayBeMade =
    (basis : Basis) (history : History) (files : BatchFiles)
    → ((table number : ℕ) (rows : List (List Value)) → Contains (basis.files table) (number, rows) → Contains (files table) (number, rows))
    → IsGood basis history → IsGood (with_files basis files) history

-- a basis that begins with another number of channels
abbrev pub with_first : Basis → ℕ → Basis
with_first basis first = record {
  schema = basis.schema;
  origin = basis.origin;
  files = basis.files;
  part = basis.part;
  last = basis.last;
  first = first;
}

-- and when the number of channels is set, while there are neither change events nor epochs
abbrev pub CountsMayBeSet : Type 0
CountsMayBeSet =
    (basis : Basis) (history : History) (first : ℕ)
    → FromOne basis.part → list_any is_events history ≡ false → channels_of history ≡ None
    → IsGood basis history → IsGood (with_first basis first) history

-- one mark for both: as many channels, and each as far
pub record IsSameMark (one other : Mark) : Type 0 where
  pub channels : one.channels ≡ other.channels
  pub vsns : (channel : ℕ) → one.vsn_of channel ≡ other.vsn_of channel

-- change events that come next raise the mark of a history as they do one after the other
abbrev pub EventsRaiseMarks : Type 0
EventsRaiseMarks =
    (schema : List Table) (origin : Origin) (part : List ChangeEvent) (first : ℕ) (before : History) (channel : ℕ) (items : List Event)
    → AreNextEvents schema origin part first before channel items
    → IsSameMark (raised_by schema (mark_of first before) (change_events schema items)) (mark_of first (before ++ Events channel items ∷ []))

-- behind every first part of a good history all stands: clean tables, those at the mark, and a closed mark for a valid part
abbrev pub EveryPrefixStands : Type 0
EveryPrefixStands =
    (basis : Basis) (history more : History)
    → FromOne basis.part → IsGood basis (history ++ more) → Stands basis (whole basis history)

-- where all rows are there and the whole part is applied, a good history ends in the fold of the part
abbrev pub AppliedPartsAreFolded : Type 0
AppliedPartsAreFolded =
    (basis : Basis) (history : History)
    → FromOne basis.part → IsGood basis history → HasAllRows basis.origin (whole basis history)
    → ((e : ChangeEvent) → Contains basis.part e → is_applied basis.schema (mark_of basis.first (whole basis history)) e ≡ true)
    → (id : RowId) → rows_standing basis.schema (whole basis history) id
    ≡ fold_changes (tables_before basis.schema basis.origin) (row_changes basis.part) id

-- lists of rows that are the tables of a history
pub record AreStanding (schema : List Table) (history : History) : Type 0 where
  pub stand : are_tables schema (tables_of schema history) ≡ true
  pub same : (id : RowId) → look schema (tables_of schema history) id ≡ rows_standing schema history id

-- of lawful transactions the lists of rows that a store keeps are the tables of the history
abbrev pub ListsAreStanding : Type 0
ListsAreStanding =
    (schema : List Table) (history : History) → AllByRecursion (IsLawfulTxn schema) history → AreStanding schema history

-- the tables that the items of a transaction have to fit: for a load those without rows
abbrev pub rows_under : List Table → History → Txn → Tables
rows_under schema history (Load rows) = no_rows
rows_under schema history (Batch table number rows) = rows_standing schema history
rows_under schema history (Events channel items) = rows_standing schema history
rows_under schema history (Epoch vsn channels) = rows_standing schema history

-- what a store takes of lawful transactions fits
abbrev pub TakenItemsFit : Type 0
TakenItemsFit =
    (schema : List Table) (history : History) (txn : Txn)
    → AllByRecursion (IsLawfulTxn schema) history → IsLawfulTxn schema txn
    → (violation_of schema (tables_of schema history) txn ≡ None) ↔ FitInTurn schema (rows_under schema history txn) (changes_by schema txn)
