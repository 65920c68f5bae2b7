-- What holds of all contents in memory.
use Rattle.voy_contents.specs.Known.{known, schema_of}
use Rattle.voy_contents.specs.TableLaws.{tables_are_clean}
use Rattle.voy_contents.specs.declared.contents.MemContents.{MemContents}
use Rattle.voy_txn.specs.Commits.{AreCleanTables}

-- the tables are clean at each moment
pub known_are_clean : (contents : MemContents) → AreCleanTables (schema_of contents) (known contents).tables
unfolding known schema_of
known_are_clean contents = tables_are_clean contents.tables
