use Rattle.std.proofs.Common.{◌≡◌, ◌≤◌, true, drop}
use Rattle.std.specs.List.{list_all}
use Rattle.voy_contents.specs.Done.{AreDone}
use Rattle.voy_contents.specs.Traces.{all_back}
use Rattle.voy_event.specs.Events.{changes_in}
use Rattle.voy_tables.specs.Changes.{is_well_formed}
use Rattle.voy_contents.proofs.items.do_events.Given as goal

abbrev pub invariant-loop-event : goal.invariant-loop-event
invariant-loop-event l = record {
  item : l.item ≤ l.event-index;
  back : all_back l.traces.items l.tables ≡ all_back l.fn.traces.items l.fn.tables;
  well : list_all (is_well_formed l.schema.tables) (changes_in (drop l.event-index l.events)) ≡ true;
  done : AreDone l.schema.tables (changes_in l.events) 0 (changes_in (drop l.event-index l.events)) l.item l.fn.tables l.tables;
}
