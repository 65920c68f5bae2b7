-- Change events that come next, fit, and are free where the part is valid, keep a history good.
use Rattle.std.specs.Prelude.{◌≡◌, ℕ, Bool, true, false, List, [], ◌∷◌, ◌++◌, Option, Some, None, map, option_map, refl}
use Rattle.std.specs.List.{AllByRecursion, cons_option, list_any}
use Rattle.std.proofs.Common.{ap, subst, sym, ◌∙◌}
use Rattle.voy_schema.specs.declared.table.Table.{Table}
use Rattle.voy_tables.specs.Changes.{RowId, row_change}
use Rattle.voy_tables.specs.Tables.{IsValid, Tables, do_change, fold_changes}
use Rattle.voy_tables.specs.declared.change.Change.{Change}
use Rattle.voy_event.specs.Events.{change_in, changes_in}
use Rattle.voy_event.specs.declared.event.Event.{Event}
use Rattle.voy_txn.specs.History.{History, Mark, mark_of}
use Rattle.voy_txn.specs.declared.txn.Txn.TheVariants.{Events}
use Rattle.voy_order.specs.ChangeEvents.{ChangeEvent, FromOne, VsnsAscend, change_events, row_changes, with_change}
use Rattle.voy_order.specs.Histories.{AreNextEvents, Basis, IsGood, Stands, is_events, rows_standing, tables_before}
use Rattle.voy_order.specs.HistoryLaws.{EventsKeepGood, whole}
use Rattle.voy_order.specs.Laws.{Commits, ItemsFit}
use Rattle.voy_order.specs.Marks.{IsClosed, channel_in, is_applied, lane, raised, raised_by, row_left, tables_at}
use Rattle.voy_order.proofs.BatchLemmas.{behind_without, nothing_without, one_more_clean}
use Rattle.voy_order.proofs.BatchedRowLemmas.{rows_are_there}
use Rattle.voy_order.proofs.EventMarkLemmas.{lane_by_channel, raise_law, same_mark}
use Rattle.voy_order.proofs.ListLemmas.{filter_none}
use Rattle.voy_order.proofs.RaiseLemmas.{Raised, lane_raised, raise}
use Rattle.voy_order.proofs.StandLemmas.{NothingApplied, good_stands, rows_grow}
use Rattle.voy_order.proofs.StepLemmas.{gives}
use Rattle.voy_order.proofs.TurnLemmas.{good_more}

-- the next events of a channel, done one after the other, give the tables with them applied, whether the part is valid or not
pub items_give : (schema : List Table) (tables : Tables) (part : List ChangeEvent) (channel : ℕ) (items rest : List ChangeEvent) (mark : Mark)
    → VsnsAscend part → lane schema mark channel part ≡ items ++ rest → AllByRecursion (λ e. channel_in schema mark e ≡ channel) items
    → (id : RowId) → fold_changes (tables_at schema tables part mark) (row_changes items) id ≡ tables_at schema tables part (raised_by schema mark items) id
items_give schema tables part channel [] rest mark up next by_channel id = refl
items_give schema tables part channel (f ∷ items) rest mark up next by_channel id =
    ap (λ (t : Tables). fold_changes t (row_changes items) id) whole_tables
    ∙ items_give schema tables part channel items rest (raised schema mark f) up
    (ap (λ c. lane schema (raised schema mark f) c part) (sym by_channel.0) ∙ lane_raised schema mark part f (items ++ rest) r) by_channel.1 id
  where
    r : Raised schema mark part f (items ++ rest)
    r = raise schema mark part f (items ++ rest) up (ap (λ c. lane schema mark c part) by_channel.0 ∙ next)

    whole_tables : do_change f.change (tables_at schema tables part mark) ≡ tables_at schema tables part (raised schema mark f)
    whole_tables = λ i at. gives schema tables part mark f (items ++ rest) r at i

-- the tables at a mark where nothing is applied are those before
pub nothing_leaves : (schema : List Table) (tables : Tables) (part : List ChangeEvent) (mark : Mark) → NothingApplied schema part mark
    → (id : RowId) → tables_at schema tables part mark id ≡ tables id
nothing_leaves schema tables part mark nothing id = ap (row_left id (tables id)) (filter_none (is_applied schema mark) part nothing)

-- what the events of a transaction change, as its items and as change events
changes_are : (schema : List Table) (items : List Event) → map (row_change schema) (changes_in items) ≡ row_changes (change_events schema items)
changes_are schema [] = refl
changes_are schema (e ∷ items) = by (change_in e.what) (changes_are schema items)
  where
    by : (found : Option Change) → map (row_change schema) (changes_in items) ≡ row_changes (change_events schema items)
        → map (row_change schema) (cons_option found (changes_in items))
        ≡ row_changes (cons_option (option_map (with_change schema e) found) (change_events schema items))
    by None same = same
    by (Some c) same = ap (λ cs. row_change schema c ∷ cs) same

-- where change events may come next, the tables are those at the mark
pub ready_for_events : (basis : Basis) (history : History) (channel : ℕ) (items : List Event) → FromOne basis.part → IsGood basis history
    → AreNextEvents basis.schema basis.origin basis.part basis.first (whole basis history) channel items
    → (id : RowId) → rows_standing basis.schema (whole basis history) id
    ≡ tables_at basis.schema (tables_before basis.schema basis.origin) basis.part (mark_of basis.first (whole basis history)) id
ready_for_events basis history channel items from good next id = by (list_any is_events (whole basis history)) refl
  where
    by : (b : Bool) → list_any is_events (whole basis history) ≡ b → rows_standing basis.schema (whole basis history) id
        ≡ tables_at basis.schema (tables_before basis.schema basis.origin) basis.part (mark_of basis.first (whole basis history)) id
    by true is = (good_stands basis history from good).at_mark is id
    by false is =
        rows_are_there basis history good (behind_without basis history is) next.all id
        ∙ sym (nothing_leaves basis.schema (tables_before basis.schema basis.origin) basis.part (mark_of basis.first (whole basis history))
        (nothing_without basis history from good is) id)

-- change events that come next, fit, and are free where the part is valid, keep a history good
pub events_law : ItemsFit → EventsKeepGood
events_law items_law basis history channel items up from good next fit free =
    good_more basis history (Events channel items) good (record { next = next; fit = fit; after = after })
  where
    mark : Mark
    mark = mark_of basis.first (whole basis history)

    before : Tables
    before = tables_before basis.schema basis.origin

    events : List ChangeEvent
    events = change_events basis.schema items

    stands : Stands basis (whole basis history)
    stands = good_stands basis history from good

    raised_is : raised_by basis.schema mark events ≡ mark_of basis.first (whole basis history ++ Events channel items ∷ [])
    raised_is = same_mark (raised_by basis.schema mark events) (mark_of basis.first (whole basis history ++ Events channel items ∷ []))
        (raise_law basis.schema basis.origin basis.part basis.first (whole basis history) channel items next)

    now : rows_standing basis.schema (whole basis history) ≡ tables_at basis.schema before basis.part mark
    now = λ i id. ready_for_events basis history channel items from good next id i

    commits : IsValid basis.schema before (row_changes basis.part) → Commits basis.schema before basis.part mark events
    commits valid = items_law basis.schema before basis.part mark channel events up valid (stands.closed valid)
        (record { rest = next.rest; next = next.next; free = free valid })

    at_mark : (id : RowId) → rows_standing basis.schema (whole basis history ++ Events channel items ∷ []) id
        ≡ tables_at basis.schema before basis.part (mark_of basis.first (whole basis history ++ Events channel items ∷ [])) id
    at_mark id =
        ap (λ (t : Tables). t id) (rows_grow basis.schema (whole basis history) (Events channel items))
        ∙ ap (λ cs. fold_changes (rows_standing basis.schema (whole basis history)) cs id) (changes_are basis.schema items)
        ∙ ap (λ (t : Tables). fold_changes t (row_changes events) id) now
        ∙ items_give basis.schema before basis.part channel events next.rest mark up next.next
        (lane_by_channel basis.schema mark channel basis.part events next.rest next.next) id
        ∙ ap (λ (m : Mark). tables_at basis.schema before basis.part m id) raised_is

    after : Stands basis (whole basis history ++ Events channel items ∷ [])
    after = record {
      clean = one_more_clean basis (whole basis history) (Events channel items) stands (λ others is. cc) fit;
      at_mark = λ has. at_mark;
      closed = λ valid. subst (λ m. IsClosed basis.schema m basis.part) raised_is (commits valid).closed;
    }
