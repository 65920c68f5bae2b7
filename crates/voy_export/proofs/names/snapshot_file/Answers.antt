use Rattle.std.proofs.Common.{rules}
use Rattle.voy_export.specs.Names.{csv_file, snapshot_file}
use Rattle.voy_export.proofs.NameLemmas.{snapshot_is_named}
use Rattle.voy_export.proofs.names.snapshot_file.Goals as goal

pub unreachable-requires : goal.unreachable-requires
unfolding snapshot_file csv_file
unreachable-requires c = let named = snapshot_is_named c.args.table.now c.requires in search rules
