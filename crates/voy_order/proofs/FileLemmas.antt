-- A history stays good when batch files are made.
use Rattle.std.specs.Prelude.{List, ℕ}
use Rattle.std.specs.List.{Contains}
use Rattle.voy_schema.specs.declared.value.Value.{Value}
use Rattle.voy_txn.specs.History.{History}
use Rattle.voy_txn.specs.declared.txn.Txn.{Txn}
use Rattle.voy_txn.specs.declared.txn.Txn.TheVariants.{Load, Batch, Events, Epoch}
use Rattle.voy_order.specs.Histories.{Basis, BatchFiles, ComesNext, IsNextTxn, beginning}
use Rattle.voy_order.specs.HistoryLaws.{FilesMayBeMade, with_files}
use Rattle.voy_order.proofs.TurnLemmas.{turns_for}

-- each file of one is a file of the other
abbrev HasFiles : BatchFiles → BatchFiles → Type 0
HasFiles files others = (table number : ℕ) (rows : List (List Value)) → Contains (files table) (number, rows) → Contains (others table) (number, rows)

next_by_files : (basis : Basis) (files : BatchFiles) → HasFiles basis.files files
    → (before : History) (txn : Txn) → IsNextTxn basis before txn → IsNextTxn (with_files basis files) before txn
next_by_files basis files has before (Load rows) next = absurd next
next_by_files basis files has before (Batch table number rows) next = record { taken = next.taken; filed = has table number rows next.filed; new = next.new }
next_by_files basis files has before (Events channel items) next = next
next_by_files basis files has before (Epoch vsn channels) next = next

comes_by_files : (basis : Basis) (files : BatchFiles) → HasFiles basis.files files
    → (before : History) (txn : Txn) → ComesNext basis before txn → ComesNext (with_files basis files) before txn
comes_by_files basis files has before txn comes = record {
  next = next_by_files basis files has before txn comes.next;
  fit = comes.fit;
  after = record { clean = comes.after.clean; at_mark = comes.after.at_mark; closed = comes.after.closed };
}

-- a history stays good when batch files are made
pub files_law : FilesMayBeMade
files_law basis history files has good = record {
  begun = good.begun;
  in_turn = turns_for basis (with_files basis files) (λ _. Unit {0}) (λ before txn comes holds. (comes_by_files basis files has before txn comes, tt))
      (beginning basis.origin) history tt good.in_turn;
}
