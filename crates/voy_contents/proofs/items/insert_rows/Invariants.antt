use Rattle.std.proofs.Common.{◌≡◌, ◌+◌, true, drop, map}
use Rattle.std.specs.List.{list_all}
use Rattle.voy_contents.specs.Done.{AreDone}
use Rattle.voy_contents.specs.Traces.{all_back}
use Rattle.voy_tables.specs.Changes.{is_well_formed}
use Rattle.voy_tables.specs.declared.change.Change.TheVariants.{Insert}
use Rattle.voy_contents.proofs.items.insert_rows.Given as goal

abbrev pub invariant-loop-row : goal.invariant-loop-row
invariant-loop-row l = record {
  item : l.item ≡ l.first + l.row-index;
  back : all_back l.traces.items l.tables ≡ all_back l.fn.traces.items l.fn.tables;
  well : list_all (is_well_formed l.schema.tables) (map (Insert l.table) (drop l.row-index l.rows)) ≡ true;
  done : AreDone l.schema.tables (map (Insert l.table) l.rows) l.first (map (Insert l.table) (drop l.row-index l.rows)) l.item l.fn.tables l.tables;
}
