use Rattle.std.proofs.Common.{◌≡◌, ◌+◌, ◌<◌, ◌^◌, drop}
use Rattle.std.specs.List.{sum_by}
use Rattle.voy_txn.specs.History.{counted}
use Rattle.voy_txn.specs.Sizes.{rows_size}
use Rattle.voy_txn.proofs.sizes.lists_bytes.Given as goal

abbrev pub invariant-loop-rows : goal.invariant-loop-rows
invariant-loop-rows l = (l.bytes < 2 ^ 64) × (counted (l.bytes + sum_by rows_size (drop l.rows-index l.lists)) ≡ counted (sum_by rows_size l.lists))
