-- What holds of all tables in memory.
use Rattle.voy_contents.specs.Tables.{lists_in, schema_in}
use Rattle.voy_contents.specs.declared.tables.Tables.{Tables}
use Rattle.voy_txn.specs.Commits.{AreCleanTables}

-- they are clean at each moment
pub tables_are_clean : (tables : Tables) → AreCleanTables (schema_in tables) (lists_in tables)
unfolding schema_in lists_in
tables_are_clean tables = tables.clean
