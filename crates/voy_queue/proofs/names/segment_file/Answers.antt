use Rattle.std.proofs.Common.{rules}
use Rattle.voy_queue.specs.Names.{segment_name}
use Rattle.voy_queue.proofs.NameLemmas.{segment_is_named}
use Rattle.voy_queue.proofs.names.segment_file.Goals as goal

-- src/names.rt:15:17
pub unreachable-requires : goal.unreachable-requires
unfolding segment_name
unreachable-requires c = let named = segment_is_named c.args.number c.ranges.number.fits in search rules
