use Rattle.voy_order.proofs.KeyLemmas.{Hashes}
use Rattle.voy_order.proofs.channels.hash_key.Given as goal

abbrev pub invariant-loop : goal.invariant-loop
invariant-loop l = Hashes l.table l.row l.start l.last l.hash l.counter
