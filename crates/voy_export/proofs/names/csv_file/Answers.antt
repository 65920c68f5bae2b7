use Rattle.std.proofs.Common.{rules}
use Rattle.voy_export.specs.Names.{csv_file}
use Rattle.voy_export.proofs.NameLemmas.{csv_is_named}
use Rattle.voy_export.proofs.names.csv_file.Goals as goal

pub unreachable-requires : goal.unreachable-requires
unfolding csv_file
unreachable-requires c = let named = csv_is_named c.args.table.now c.requires in search rules
