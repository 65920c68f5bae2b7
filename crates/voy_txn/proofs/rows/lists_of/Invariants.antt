use Rattle.std.proofs.Common.{◌≡◌, drop}
use Rattle.voy_txn.specs.Reading.{lists_of}
use Rattle.voy_txn.proofs.LoopLemmas.{with_front}
use Rattle.voy_txn.proofs.rows.lists_of.Given as goal

abbrev pub invariant-loop-table : goal.invariant-loop-table
invariant-loop-table l = with_front l.lists (lists_of (drop l.table-index l.tables) l.rest) ≡ lists_of l.tables l.bytes
