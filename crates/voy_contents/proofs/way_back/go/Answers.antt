use Rattle.std.proofs.Common.{◌≡◌, List, true, ap, map, subst, sym, ◌∙◌}
use Rattle.std.specs.List.{list_all}
use Rattle.voy_event.specs.Events.{changes_in}
use Rattle.voy_event.specs.declared.event.Event.{Event}
use Rattle.voy_schema.specs.declared.table.Table.{Table}
use Rattle.voy_schema.specs.declared.value.Value.{Value}
use Rattle.voy_contents.proofs.DoneLemmas.{batch_fits, batch_stopped, events_fit, events_stopped}
use Rattle.voy_contents.specs.TableLists.{lists_of}
use Rattle.voy_tables.specs.Changes.{is_well_formed}
use Rattle.voy_tables.specs.declared.change.Change.TheVariants.{Insert}
use Rattle.voy_txn.specs.History.{tables_after}
use Rattle.voy_txn.specs.Items.{items_of}
use Rattle.voy_txn.specs.LawfulTxn.{IsLawfulTxn}
use Rattle.voy_txn.specs.LoadLaws.{items_are_well_formed, load_sets_rows}
use Rattle.voy_txn.specs.declared.txn.Txn.{Txn}
use Rattle.voy_contents.proofs.way_back.go.Goals as goal

pub load-requires-clause-well : goal.load-requires-clause-well
load-requires-clause-well c =
    subst (λ (txn : Txn). list_all (is_well_formed c.args.schema.now.tables) (items_of txn) ≡ true) c.in-Load.is (items_are_well_formed c.args.schema.now.tables c.args.txn.now c.requires.lawful)

pub insert_rows-requires-clause-well : goal.insert_rows-requires-clause-well
insert_rows-requires-clause-well c =
    let schema = c.args.schema.now.tables in
    subst (λ (rows : List (List Value)). list_all (is_well_formed schema) (map (Insert c.in-Batch.table) rows) ≡ true) (sym c.as_slice-rows.ensures)
    (subst (λ (txn : Txn). list_all (is_well_formed schema) (items_of txn) ≡ true) c.in-Batch.is (items_are_well_formed schema c.args.txn.now c.requires.lawful))

pub do_events-requires-clause-well : goal.do_events-requires-clause-well
do_events-requires-clause-well c =
    let schema = c.args.schema.now.tables in
    subst (λ (events : List Event). list_all (is_well_formed schema) (changes_in events) ≡ true) (sym c.as_slice.ensures)
    (subst (λ (txn : Txn). list_all (is_well_formed schema) (items_of txn) ≡ true) c.in-Events.is (items_are_well_formed schema c.args.txn.now c.requires.lawful))

pub returns-in_ok-made-in-Load-clause-done : goal.returns-in_ok-made-in-Load-clause-done
returns-in_ok-made-in-Load-clause-done c =
    let schema : List Table = c.args.schema.now.tables in
    ap lists_of c.replace.ensures.after ∙ c.in_ok-made-in-Load.ensures.done.lists ∙ load_sets_rows schema c.in-Load.lists (subst (IsLawfulTxn schema) c.in-Load.is c.requires.lawful)
    ∙ sym (ap (tables_after schema (lists_of c.args.tables.now)) c.in-Load.is)

pub returns-in-Ok-clause-fits : goal.returns-in-Ok-clause-fits
returns-in-Ok-clause-fits c =
    (batch_fits c.args.schema.now.tables c.in-Batch.table c.in-Batch.number c.in-Batch.rows c.as_slice-rows.result.now c.args.txn.now _ c.args.tables.now c.insert_rows.new.tables c.in-Batch.is c.as_slice-rows.ensures c.in-Ok.ensures.done).0

pub returns-in-Ok-clause-done : goal.returns-in-Ok-clause-done
returns-in-Ok-clause-done c =
    (batch_fits c.args.schema.now.tables c.in-Batch.table c.in-Batch.number c.in-Batch.rows c.as_slice-rows.result.now c.args.txn.now _ c.args.tables.now c.insert_rows.new.tables c.in-Batch.is c.as_slice-rows.ensures c.in-Ok.ensures.done).1

pub returns-in-Err-clause-reason : goal.returns-in-Err-clause-reason
returns-in-Err-clause-reason c =
    batch_stopped c.args.schema.now.tables c.in-Batch.table c.in-Batch.number c.in-Batch.rows c.as_slice-rows.result.now c.args.txn.now c.args.tables.now c.in-Err.refused c.in-Batch.is c.as_slice-rows.ensures c.in-Err.ensures.stopped

pub returns-in-Ok-do_events-clause-fits : goal.returns-in-Ok-do_events-clause-fits
returns-in-Ok-do_events-clause-fits c =
    (events_fit c.args.schema.now.tables c.in-Events.channel c.in-Events.items c.as_slice.result.now c.args.txn.now c.args.tables.now c.do_events.new.tables c.in-Events.is c.as_slice.ensures c.in-Ok-do_events.ensures.done).0

pub returns-in-Ok-do_events-clause-done : goal.returns-in-Ok-do_events-clause-done
returns-in-Ok-do_events-clause-done c =
    (events_fit c.args.schema.now.tables c.in-Events.channel c.in-Events.items c.as_slice.result.now c.args.txn.now c.args.tables.now c.do_events.new.tables c.in-Events.is c.as_slice.ensures c.in-Ok-do_events.ensures.done).1

pub returns-in-Err-do_events-clause-reason : goal.returns-in-Err-do_events-clause-reason
returns-in-Err-do_events-clause-reason c =
    events_stopped c.args.schema.now.tables c.in-Events.channel c.in-Events.items c.as_slice.result.now c.args.txn.now c.args.tables.now c.in-Err-do_events.refused c.in-Events.is c.as_slice.ensures c.in-Err-do_events.ensures.stopped
