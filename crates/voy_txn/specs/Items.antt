-- What a transaction changes, item by item, and the first item that does not fit.
use Rattle.std.specs.Prelude.{ℕ, suc, ◌++◌, List, [], ◌∷◌, Option, map}
use Rattle.voy_schema.specs.declared.table.Table.{Table}
use Rattle.voy_schema.specs.declared.value.Value.{Value}
use Rattle.voy_tables.specs.Folds.{first_misfit}
use Rattle.voy_tables.specs.Lists.{empty_lists}
use Rattle.voy_tables.specs.declared.change.Change.{Change}
use Rattle.voy_tables.specs.declared.change.Change.TheVariants.{Insert}
use Rattle.voy_tables.specs.declared.change.Misfit.{Misfit}
use Rattle.voy_event.specs.Events.{changes_in}
use Rattle.voy_txn.specs.declared.txn.Txn.{Txn}
use Rattle.voy_txn.specs.declared.txn.Txn.TheVariants.{Load, Batch, Events, Epoch}

-- the rows of the tables from this place on, each as an insert, table by table
abbrev pub inserts_from : ℕ → List (List (List Value)) → List Change
inserts_from place [] = []
inserts_from place (rows ∷ tables) = map (Insert place) rows ++ inserts_from (suc place) tables

-- the items of a transaction: the rows of a load or a batch as inserts, and the changes of events; an epoch has none
abbrev pub items_of : Txn → List Change
items_of (Load tables) = inserts_from 0 tables
items_of (Batch table batch rows) = map (Insert table) rows
items_of (Events channel items) = changes_in items
items_of (Epoch vsn channels) = []

-- the tables that the items go into: those that stand, but empty ones for a load
abbrev pub tables_under : List Table → List (List (List Value)) → Txn → List (List (List Value))
tables_under schema lists (Load tables) = empty_lists schema
tables_under schema lists (Batch table batch rows) = lists
tables_under schema lists (Events channel items) = lists
tables_under schema lists (Epoch vsn channels) = lists

-- the first item of a transaction that does not fit, counted from 0, and why; none where all fit, one after the other
abbrev pub violation_of : List Table → List (List (List Value)) → Txn → Option (ℕ × Misfit)
violation_of schema lists txn = first_misfit schema (tables_under schema lists txn) 0 (items_of txn)
