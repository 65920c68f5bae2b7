use Rattle.std.proofs.Common.{◌≡◌, drop}
use Rattle.std.specs.List.{fold}
use Rattle.voy_order.specs.Channels.{fnv1a_step}
use Rattle.voy_order.proofs.fnv.fnv1a.Given as goal

abbrev pub invariant-loop-byte : goal.invariant-loop-byte
invariant-loop-byte l = fold fnv1a_step l.start l.bytes ≡ fold fnv1a_step l.hash (drop l.byte-index l.bytes)
