-- Traces of places that were set, which lead back to the tables that stood before.
use Rattle.std.specs.Prelude.{◌≡◌, ℕ, Bool, List, [], ◌∷◌, Option, Some, None, slice_get, slice_set}
use Rattle.voy_schema.specs.declared.value.Value.{Value}
use Rattle.voy_contents.specs.MemTables.{TupleSlots, tuple_cmp}
use Rattle.voy_contents.specs.Places.{place_back}
use Rattle.voy_contents.specs.declared.mem_table.MemTable.{MemTable}
use Rattle.voy_contents.specs.declared.traces.Place.{Place}
use Rattle.voy_contents.specs.declared.traces.Place.TheVariants.{Row, Tuple}
use Rattle.voy_contents.specs.declared.traces.Trace.{Trace}
use Rattle.voy_tables.specs.Keys.{key_cmp}

-- the indexes once the place of a tuple holds again what it held
abbrev pub indexes_back : ℕ → List Value → Option Bool → List TupleSlots → Option TupleSlots → List TupleSlots
indexes_back unique tuple held indexes None = indexes
indexes_back unique tuple held indexes (Some index) = slice_set indexes unique (place_back tuple_cmp index tuple held)

-- a table once a place holds again what it held
abbrev pub table_back : Place → MemTable → MemTable
table_back (Row key held emptied) m = record { rows = place_back key_cmp m.rows key held; indexes = m.indexes }
table_back (Tuple unique tuple held emptied) m = record { rows = m.rows; indexes = indexes_back unique tuple held m.indexes (slice_get m.indexes unique) }

abbrev pub back_at : Trace → List MemTable → Option MemTable → List MemTable
back_at trace tables None = tables
back_at trace tables (Some m) = slice_set tables trace.table (table_back trace.place m)

-- all tables once the place of a trace holds again what it held
abbrev pub back : Trace → List MemTable → List MemTable
back trace tables = back_at trace tables (slice_get tables trace.table)

-- and once those of all traces do, the last one first
abbrev pub all_back : List Trace → List MemTable → List MemTable
all_back [] tables = tables
all_back (trace ∷ traces) tables = back trace (all_back traces tables)

-- with the places of one table changed, the new traces lead to where the old ones led
abbrev pub GoesBack : (table : ℕ) → (old new : MemTable) → (before after : List Trace) → Type 0
GoesBack table old new before after = (tables : List MemTable) → slice_get tables table ≡ Some old → all_back after (slice_set tables table new) ≡ all_back before tables
