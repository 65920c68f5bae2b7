use Rattle.std.proofs.Common.{◌≡◌, ◌++◌, drop}
use Rattle.std.specs.List.{flat_map}
use Rattle.voy_txn.specs.Payload.{rows_part}
use Rattle.voy_txn.proofs.writing.push_lists.Given as goal

abbrev pub invariant-loop-rows : goal.invariant-loop-rows
invariant-loop-rows l = l.to ++ flat_map rows_part (drop l.rows-index l.lists) ≡ l.fn.to ++ flat_map rows_part l.lists
