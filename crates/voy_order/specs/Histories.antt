-- Good histories: what every store of a move has done, in whatever order its channels were committed.
use Rattle.std.specs.Prelude.{◌≡◌, ◌≤◌, ◌<◌, ℕ, Bool, true, false, List, [], ◌∷◌, ◌++◌, ◌==◌, length, map, slice_get, if◌then◌else◌}
use Rattle.std.specs.List.{Contains, fold, list_all, list_any}
use Rattle.voy_schema.specs.declared.table.Table.{Table}
use Rattle.voy_schema.specs.declared.value.Value.{Value}
use Rattle.voy_tables.specs.Changes.{RowChange, RowId, row_change}
use Rattle.voy_tables.specs.Lists.{rows_in}
use Rattle.voy_tables.specs.Tables.{FitInTurn, IsClean, IsValid, Tables, fold_changes, no_rows}
use Rattle.voy_event.specs.Events.{is_change}
use Rattle.voy_event.specs.declared.event.Event.{Event}
use Rattle.voy_txn.specs.History.{History, batches_of, mark_of}
use Rattle.voy_txn.specs.Items.{inserts_from, items_of}
use Rattle.voy_txn.specs.LawfulTxn.{max_channels, max_items}
use Rattle.voy_txn.specs.declared.txn.Txn.{Txn}
use Rattle.voy_txn.specs.declared.txn.Txn.TheVariants.{Load, Batch, Events, Epoch}
use Rattle.voy_order.specs.ChangeEvents.{ChangeEvent, change_events, row_changes}
use Rattle.voy_order.specs.Marks.{IsClosed, is_applied, lane, tables_at}

-- ---- tables of a history, as functions of keys

-- what a transaction does to rows, one after the other; a row of a load or a batch is inserted
abbrev pub changes_by : List Table → Txn → List RowChange
changes_by schema txn = map (row_change schema) (items_of txn)

-- the tables after a transaction: a load sets all rows
abbrev pub tables_after_txn : List Table → Tables → Txn → Tables
tables_after_txn schema tables (Load rows) = fold_changes no_rows (changes_by schema (Load rows))
tables_after_txn schema tables (Batch table number rows) = fold_changes tables (changes_by schema (Batch table number rows))
tables_after_txn schema tables (Events channel items) = fold_changes tables (changes_by schema (Events channel items))
tables_after_txn schema tables (Epoch vsn channels) = tables

-- the tables of a history: the plain fold of what its transactions do
abbrev pub rows_standing : List Table → History → Tables
rows_standing schema history = fold (tables_after_txn schema) no_rows history

-- ---- what a good history begins with

-- rows for each table, which come in batches from the snapshot, or are there by one load
pub data Origin : Type 0 where
  Snapshot : List (List (List Value)) → Origin
  Loaded : List (List (List Value)) → Origin

abbrev pub rows_of : Origin → List (List (List Value))
rows_of (Snapshot rows) = rows
rows_of (Loaded rows) = rows

-- the tables that the rows are, table by table in their order
abbrev pub tables_before : List Table → Origin → Tables
tables_before schema origin = fold_changes no_rows (map (row_change schema) (inserts_from 0 (rows_of origin)))

-- the load stands in front of all else; batches do not
abbrev pub beginning : Origin → History
beginning (Snapshot rows) = []
beginning (Loaded rows) = Load rows ∷ []

-- the rows of a load fit, one after the other
abbrev pub IsBegun : List Table → Origin → Type 0
IsBegun schema (Snapshot rows) = Unit {0}
IsBegun schema (Loaded rows) = FitInTurn schema no_rows (changes_by schema (Load rows))

-- ---- the transactions that may come next

-- the rows of a table's batch
abbrev pub rows_for : ℕ → Txn → List (List Value)
rows_for table (Load rows) = []
rows_for table (Batch t number rows) = if t == table then rows else []
rows_for table (Events channel items) = []
rows_for table (Epoch vsn channels) = []

-- the rows of all batches of a table, one batch after the other
abbrev pub batched_rows : ℕ → History → List (List Value)
batched_rows table [] = []
batched_rows table (txn ∷ history) = rows_for table txn ++ batched_rows table history

-- the batches have all rows of every table, in their order; a load has them by itself
abbrev pub HasAllRows : Origin → History → Type 0
HasAllRows (Snapshot rows) history = (table : ℕ) → batched_rows table history ≡ rows_in (slice_get rows table)
HasAllRows (Loaded rows) history = Unit {0}

-- for each table the number and the rows of its batch files
abbrev pub BatchFiles : Type 0
BatchFiles = ℕ → List (ℕ × List (List Value))

-- the rows of a snapshot come in batches; behind a load there are none
abbrev pub TakesBatches : Origin → Type 0
TakesBatches (Snapshot rows) = Unit {0}
TakesBatches (Loaded rows) = ⊥

-- a batch with exactly the rows of its file, which has none yet
pub record IsNextBatch (origin : Origin) (files : BatchFiles) (before : History) (table number : ℕ) (rows : List (List Value)) : Type 0 where
  pub taken : TakesBatches origin
  pub filed : Contains (files table) (number, rows)
  pub new : Contains (batches_of before) (table, number) → ⊥

-- 1 to 1,000 change events: the next of one channel above its mark, in order, none skipped; they come when all rows are there
pub record AreNextEvents (schema : List Table) (origin : Origin) (part : List ChangeEvent) (first : ℕ) (before : History) (channel : ℕ) (items : List Event) : Type 0 where
  pub all : HasAllRows origin before
  pub below : channel < (mark_of first before).channels
  pub some : 1 ≤ length items
  pub most : length items ≤ max_items
  pub changes : list_all (λ (e : Event). is_change e.what) items ≡ true
  pub rest : List ChangeEvent
  pub next : lane schema (mark_of first before) channel part ≡ change_events schema items ++ rest

-- 1 to 512 channels, and a vsn of the queue up to which every change of the part is applied, and which no channel has passed
pub record IsNextEpoch (schema : List Table) (part : List ChangeEvent) (last first : ℕ) (before : History) (vsn channels : ℕ) : Type 0 where
  pub some : 1 ≤ channels
  pub most : channels ≤ max_channels
  pub within : vsn ≤ last
  pub above : (channel : ℕ) → channel < (mark_of first before).channels → (mark_of first before).vsn_of channel ≤ vsn
  pub applied : (e : ChangeEvent) → Contains part e → e.vsn ≤ vsn → is_applied schema (mark_of first before) e ≡ true

-- ---- good histories

-- what does not change of a store while a command runs: the tables of a schema, what it begins with, its batch files, its part of
-- the queue with the last vsn of the queue, and how many channels it has at first
pub record Basis : Type 0 where
  pub schema : List Table
  pub origin : Origin
  pub files : BatchFiles
  pub part : List ChangeEvent
  pub last : ℕ
  pub first : ℕ

-- a load comes at the beginning alone
abbrev pub IsNextTxn : Basis → History → Txn → Type 0
IsNextTxn basis before (Load rows) = ⊥
IsNextTxn basis before (Batch table number rows) = IsNextBatch basis.origin basis.files before table number rows
IsNextTxn basis before (Events channel items) = AreNextEvents basis.schema basis.origin basis.part basis.first before channel items
IsNextTxn basis before (Epoch vsn channels) = IsNextEpoch basis.schema basis.part basis.last basis.first before vsn channels

abbrev pub is_events : Txn → Bool
is_events (Load rows) = false
is_events (Batch table number rows) = false
is_events (Events channel items) = true
is_events (Epoch vsn channels) = false

-- what holds after each transaction: the tables are clean; from the first change events on they are those at the mark, which is closed
-- where the part is valid
pub record Stands (basis : Basis) (history : History) : Type 0 where
  pub clean : IsClean basis.schema (rows_standing basis.schema history)
  pub at_mark : list_any is_events history ≡ true
      → (id : RowId) → rows_standing basis.schema history id
      ≡ tables_at basis.schema (tables_before basis.schema basis.origin) basis.part (mark_of basis.first history) id
  pub closed : IsValid basis.schema (tables_before basis.schema basis.origin) (row_changes basis.part)
      → IsClosed basis.schema (mark_of basis.first history) basis.part

-- a transaction that may come behind these, whose items fit, and behind which all stands
pub record ComesNext (basis : Basis) (before : History) (txn : Txn) : Type 0 where
  pub next : IsNextTxn basis before txn
  pub fit : FitInTurn basis.schema (rows_standing basis.schema before) (changes_by basis.schema txn)
  pub after : Stands basis (before ++ txn ∷ [])

-- each comes next behind those in front of it
abbrev pub ComeInTurn : Basis → History → History → Type 0
ComeInTurn basis before [] = Unit {0}
ComeInTurn basis before (txn ∷ history) = ComesNext basis before txn × ComeInTurn basis (before ++ txn ∷ []) history

-- a good history, behind the load where it began with one
pub record IsGood (basis : Basis) (history : History) : Type 0 where
  pub begun : IsBegun basis.schema basis.origin
  pub in_turn : ComeInTurn basis (beginning basis.origin) history
