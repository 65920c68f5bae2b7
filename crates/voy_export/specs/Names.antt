-- The files of tables.
use Rattle.std.specs.Prelude.{ℕ, List, ◌++◌, codes}
use Rattle.voy_schema.specs.declared.table.Table.{Table}

-- a table's names with a dot between them, and `.csv`
unfoldable pub csv_file : Table → List ℕ
csv_file table = table.schema_name ++ (codes "." ++ (table.table_name ++ codes ".csv"))

-- the exported snapshot of a table
unfoldable pub snapshot_file : Table → List ℕ
snapshot_file table = codes "snapshot." ++ csv_file table
