use Rattle.std.proofs.Common.{◌≡◌, ◌-◌}
use Rattle.voy_txn.specs.Reading.{items_of}
use Rattle.voy_txn.proofs.LoopLemmas.{with_front}
use Rattle.voy_txn.proofs.items.items_of.Given as goal

abbrev pub invariant-loop : goal.invariant-loop
invariant-loop l = with_front l.items (items_of l.schema.tables (l.count - l.counter) l.rest) ≡ items_of l.schema.tables l.count l.bytes
