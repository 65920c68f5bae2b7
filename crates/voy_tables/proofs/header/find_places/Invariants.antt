use Rattle.std.proofs.Common.{◌≡◌, take, map, true}
use Rattle.std.specs.Prelude.{◌==◌, count_by}
use Rattle.std.specs.List.{list_all, position_or_len}
use Rattle.std.specs.Str.{bytes_eq}
use Rattle.csv.specs.Records.{fields_of}
use Rattle.voy_schema.specs.declared.table.Column.{Column}
use Rattle.voy_tables.proofs.header.find_places.Given as goal

abbrev pub invariant-loop-column : goal.invariant-loop-column
invariant-loop-column l = record {
  places : l.places ≡ map (λ (c : Column). position_or_len (bytes_eq c.name) (fields_of l.header)) (take l.column-index l.column-items);
  once : list_all (λ (c : Column). count_by (bytes_eq c.name) (fields_of l.header) == 1) (take l.column-index l.column-items) ≡ true;
}
