use Rattle.std.proofs.Common.{◌≡◌, [], Ok, drop, length}
use Rattle.serde_json.specs.View.{items_view}
use Rattle.voy_schema.specs.Reading.{tables_reading}
use Rattle.voy_schema.proofs.reading.read_tables.Given as goal

-- the tables so far are those of the items so far
abbrev pub invariant-loop-item : goal.invariant-loop-item
invariant-loop-item l = record {
  so_far : tables_reading (Ok []) (items_view l.items) ≡ tables_reading (Ok l.tables) (items_view (drop l.item-index l.items));
  counted : length l.tables ≡ l.item-index;
}
