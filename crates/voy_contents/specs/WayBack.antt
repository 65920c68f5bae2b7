-- What leads back to the tables that stood before a transaction.
use Rattle.std.specs.Prelude.{List}
use Rattle.voy_contents.specs.Traces.{all_back}
use Rattle.voy_contents.specs.declared.mem_table.MemTable.{MemTable}
use Rattle.voy_contents.specs.declared.way_back.WayBack.{WayBack}
use Rattle.voy_contents.specs.declared.way_back.WayBack.TheVariants.{Traces, Tables}

-- the tables to which it leads from these
abbrev pub goes_back : WayBack → List MemTable → List MemTable
goes_back (Traces traces) tables = all_back traces.items tables
goes_back (Tables before) tables = before
