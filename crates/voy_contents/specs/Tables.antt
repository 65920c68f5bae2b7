-- The tables of a schema in memory.
use Rattle.std.specs.Prelude.{◌≡◌, List}
use Rattle.voy_schema.specs.declared.table.Table.{Table}
use Rattle.voy_schema.specs.declared.value.Value.{Value}
use Rattle.voy_contents.specs.TableLists.{AreMemTables, lists_of}
use Rattle.voy_contents.specs.WayBack.{goes_back}
use Rattle.voy_contents.specs.declared.tables.Tables.{Tables}
use Rattle.voy_contents.specs.declared.way_back.WayBack.{WayBack}
use Rattle.voy_txn.specs.Commits.{AreCleanTables}

-- the tables of the schema that they are of
unfoldable pub schema_in : Tables → List Table
schema_in tables = tables.schema.tables

-- for each table its rows, by ascending key
unfoldable pub lists_in : Tables → List (List (List Value))
lists_in tables = lists_of tables.tables

-- the way leads back to clean tables
pub record CanGoBack (way : WayBack) (tables : Tables) : Type 0 where
  pub stand : AreMemTables tables.schema.tables (goes_back way tables.tables)
  pub clean : AreCleanTables tables.schema.tables (lists_of (goes_back way tables.tables))

-- and these are the rows that they have
pub record LeadsTo (way : WayBack) (tables : Tables) (before : List (List (List Value))) : Type 0 where
  pub can : CanGoBack way tables
  pub lists : lists_of (goes_back way tables.tables) ≡ before
