use Rattle.std.proofs.Common.{◌+◌, [], arith, ap, drop, subst, sym, ◌∙◌}
use Rattle.std.proofs.lemmas.Result.{err_from_is_err_and}
use Rattle.std.specs.List.{cons_option, list_all}
use Rattle.voy_contents.proofs.DoneLemmas.{all_parts, done_on, events_at, stopped_on}
use Rattle.voy_contents.proofs.ListLemmas.{get_at}
use Rattle.voy_contents.specs.Done.{AreDone}
use Rattle.voy_event.specs.Events.{change_in, changes_in}
use Rattle.voy_tables.specs.Changes.{is_well_formed}
use Rattle.voy_contents.proofs.items.do_events.Goals as goal

pub do_event-requires-clause-well : goal.do_event-requires-clause-well
do_event-requires-clause-well c =
    let events = c.args.events.now in
    let at = c.loop-event.event-index in
    let here = events_at events at c.event-item.result (get_at events at c.event-item.result c.loop-event-test.true c.event-item.is) in
    (all_parts (is_well_formed c.args.schema.now.tables) (cons_option (change_in c.event-item.result.what) []) (changes_in (drop (at + 1) events))
    (ap (list_all (is_well_formed c.args.schema.now.tables)) (sym here) ∙ c.loop-event.invariant.well)).0

pub returns-in_err-item-clause-stopped : goal.returns-in_err-item-clause-stopped
returns-in_err-item-clause-stopped c =
    let schema = c.args.schema.now.tables in
    let events = c.args.events.now in
    let at = c.loop-event.event-index in
    let here = events_at events at c.event-item.result (get_at events at c.event-item.result c.loop-event-test.true c.event-item.is) in
    let failed = err_from_is_err_and c.from_residual.result c.from_residual.ensures.1 in
    rw (failed.1, failed.2)
    (stopped_on schema (changes_in events) 0 (cons_option (change_in c.event-item.result.what) []) (changes_in (drop (at + 1) events)) c.loop-event.item c.args.tables.now c.loop-event.tables c.in_err-item.field-0.0
    (subst (λ left. AreDone schema (changes_in events) 0 left c.loop-event.item c.args.tables.now c.loop-event.tables) here c.loop-event.invariant.done) c.in_err-item.ensures.stopped)

pub loop-event-preserved : goal.loop-event-preserved
loop-event-preserved c =
    let schema = c.args.schema.now.tables in
    let events = c.args.events.now in
    let at = c.loop-event.event-index in
    let here = events_at events at c.event-item.result (get_at events at c.event-item.result c.loop-event-test.true c.event-item.is) in
    record {
      item = omega (arith, c.loop-event.invariant.item, c.in_ok-item.ensures.next);
      back = c.do_event.ensures.back ∙ c.loop-event.invariant.back;
      well = (all_parts (is_well_formed schema) (cons_option (change_in c.event-item.result.what) []) (changes_in (drop (at + 1) events)) (ap (list_all (is_well_formed schema)) (sym here) ∙ c.loop-event.invariant.well)).1;
      done = done_on schema (changes_in events) 0 (cons_option (change_in c.event-item.result.what) []) (changes_in (drop (at + 1) events)) c.loop-event.item c.in_ok-item.item
          c.args.tables.now c.loop-event.tables c.do_event.new.tables
          (subst (λ left. AreDone schema (changes_in events) 0 left c.loop-event.item c.args.tables.now c.loop-event.tables) here c.loop-event.invariant.done) c.in_ok-item.ensures.done;
    }
