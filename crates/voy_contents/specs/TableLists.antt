-- The tables in memory of a schema.
use Rattle.std.specs.Prelude.{◌≡◌, ℕ, List, Some, None, length, map, slice_get}
use Rattle.voy_schema.specs.declared.table.Table.{Table}
use Rattle.voy_schema.specs.declared.value.Value.{Value}
use Rattle.voy_contents.specs.MemTables.{IsMemTable, rows_of}
use Rattle.voy_contents.specs.declared.mem_table.MemTable.{MemTable}
use Rattle.voy_tables.specs.Changes.{RowChange}
use Rattle.voy_tables.specs.Lists.{lists_after, misfit_of}

-- for each table its rows, by ascending key
abbrev pub lists_of : List MemTable → List (List (List Value))
lists_of tables = map (λ (m : MemTable). rows_of m.rows) tables

-- a table in memory for each table of the schema
pub record AreMemTables (schema : List Table) (tables : List MemTable) : Type 0 where
  pub as_many : length tables ≡ length schema
  pub each : (n : ℕ) (t : Table) (m : MemTable) → slice_get schema n ≡ Some t → slice_get tables n ≡ Some m → IsMemTable t m.rows m.indexes

-- the change fitted, and it was done
pub record DoesChange (schema : List Table) (c : RowChange) (old new : List MemTable) : Type 0 where
  pub stand : AreMemTables schema new
  pub fits : misfit_of schema c (lists_of old) ≡ None
  pub lists : lists_of new ≡ lists_after schema c (lists_of old)

-- all rows are the same, and tables that stood stand
pub record SweepsLists (old new : List MemTable) : Type 0 where
  pub lists : lists_of new ≡ lists_of old
  pub stand : (schema : List Table) → AreMemTables schema old → AreMemTables schema new
