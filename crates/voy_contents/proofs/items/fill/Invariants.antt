use Rattle.std.proofs.Common.{◌≡◌, ◌+◌, true, drop, length}
use Rattle.std.specs.List.{list_all}
use Rattle.voy_contents.specs.Done.{AreDone}
use Rattle.voy_tables.specs.Changes.{is_well_formed}
use Rattle.voy_txn.specs.Items.{inserts_from}
use Rattle.voy_contents.proofs.items.fill.Given as goal

abbrev pub invariant-loop-place : goal.invariant-loop-place
invariant-loop-place l = record {
  item : l.first + length (inserts_from l.place (drop l.place l.lists)) ≡ length (inserts_from 0 l.lists);
  well : list_all (is_well_formed l.schema.tables) (inserts_from l.place (drop l.place l.lists)) ≡ true;
  done : AreDone l.schema.tables (inserts_from 0 l.lists) 0 (inserts_from l.place (drop l.place l.lists)) l.first l.fn.tables l.tables;
}
