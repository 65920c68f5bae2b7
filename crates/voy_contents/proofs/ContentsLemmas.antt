-- Tables and contents that take a transaction or a change, or refuse it.
use Rattle.std.proofs.Common.{◌≡◌, true, List, [], ◌∷◌, None, Result, Ok, Err, OnErr, OnOk, length, refl, sym, ap, subst}
use Rattle.std.proofs.lemmas.Bool.{and_from}
use Rattle.voy_schema.specs.declared.table.Table.{Table}
use Rattle.voy_schema.specs.declared.value.Value.{Value}
use Rattle.voy_contents.specs.Known.{HasRoomFor}
use Rattle.voy_contents.specs.Marks.{HasMarkRoom}
use Rattle.voy_txn.specs.TableNames.{NamesTables}
use Rattle.voy_contents.specs.TableLists.{lists_of}
use Rattle.voy_contents.specs.declared.contents.MemContents.{MemContents}
use Rattle.voy_contents.specs.declared.mem_table.MemTable.{MemTable}
use Rattle.voy_tables.specs.Changes.{is_well_formed, row_change}
use Rattle.voy_tables.specs.Laws.{EmptyListsHaveNoRows, ListsAreTables, MisfitIsNoneWhereItFits}
use Rattle.voy_tables.specs.Lists.{lists_after, misfit_of}
use Rattle.voy_tables.specs.declared.change.Change.{Change}
use Rattle.voy_txn.specs.CleanLaws.{changes_keep_clean, txn_keeps_clean}
use Rattle.voy_txn.specs.Commits.{AreCleanTables}
use Rattle.voy_txn.specs.History.{tables_after}
use Rattle.voy_txn.specs.Items.{violation_of}
use Rattle.voy_txn.specs.LawfulTxn.{IsLawfulTxn}
use Rattle.voy_txn.specs.declared.txn.Txn.{Txn}

-- what can be noted once there is room
pub room_for : {T E : Type 0} (result : Result T E) (txn : Txn) (contents : MemContents) → NamesTables (length contents.marks.tables) txn → OnOk result (HasMarkRoom txn contents.marks.tables)
    → OnOk result (HasRoomFor txn contents)
room_for (Ok t) txn contents names room = record { names = names; room = room }
room_for (Err e) txn contents names room = tt

-- tables stay clean, whether a transaction was taken or refused
pub stay_clean : {T E : Type 0} → ListsAreTables → MisfitIsNoneWhereItFits → EmptyListsHaveNoRows
    → (result : Result T E) (schema : List Table) (old new : List (List (List Value))) (txn : Txn) → IsLawfulTxn schema txn → AreCleanTables schema old
    → OnOk result (violation_of schema old txn ≡ None) → OnOk result (new ≡ tables_after schema old txn) → OnErr result (new ≡ old) → AreCleanTables schema new
stay_clean lists_law misfit_law empty_law (Ok t) schema old new txn lawful clean fits done kept =
    subst (AreCleanTables schema) (sym done) (txn_keeps_clean lists_law misfit_law empty_law schema old txn lawful clean fits)
stay_clean lists_law misfit_law empty_law (Err e) schema old new txn lawful clean fits done kept = subst (AreCleanTables schema) (sym kept) clean

-- and so they do when a change that fits was done
pub change_stays_clean : ListsAreTables → MisfitIsNoneWhereItFits → (schema : List Table) (old new : List (List (List Value))) (c : Change) → AreCleanTables schema old → is_well_formed schema c ≡ true
    → misfit_of schema (row_change schema c) old ≡ None → new ≡ lists_after schema (row_change schema c) old → AreCleanTables schema new
change_stays_clean lists_law misfit_law schema old new c clean well fits is =
    subst (AreCleanTables schema) (sym is) (changes_keep_clean lists_law misfit_law schema old 0 (c ∷ []) clean (and_from (is_well_formed schema c) true well refl) (rw fits refl))

-- tables that are the same have the same rows
pub kept_lists : {T E : Type 0} (result : Result T E) (old new : List MemTable) → OnErr result (new ≡ old) → OnErr result (lists_of new ≡ lists_of old)
kept_lists (Ok t) old new kept = tt
kept_lists (Err e) old new kept = ap lists_of kept
