-- Where a good history ends: in the fold of its part, where all rows are there and the whole part is applied.
use Rattle.std.specs.Prelude.{◌≡◌, Bool, true, false, List, [], ◌∷◌, refl}
use Rattle.std.specs.List.{Contains, list_any}
use Rattle.std.proofs.Common.{ap, sym, ◌∙◌}
use Rattle.std.proofs.lemmas.Bool.{both_ways}
use Rattle.voy_schema.specs.declared.table.Table.{Table}
use Rattle.voy_tables.specs.Changes.{RowId}
use Rattle.voy_tables.specs.Tables.{Tables, fold_changes}
use Rattle.voy_txn.specs.History.{Mark, mark_of}
use Rattle.voy_order.specs.ChangeEvents.{ChangeEvent, row_changes}
use Rattle.voy_order.specs.Histories.{is_events, rows_standing, tables_before}
use Rattle.voy_order.specs.HistoryLaws.{AppliedPartsAreFolded, whole}
use Rattle.voy_order.specs.Marks.{is_applied, tables_at}
use Rattle.voy_order.proofs.BatchLemmas.{behind_without, nothing_without}
use Rattle.voy_order.proofs.BatchedRowLemmas.{rows_are_there}
use Rattle.voy_order.proofs.EventLemmas.{fold_at, row_left-all}
use Rattle.voy_order.proofs.ListLemmas.{contains_first}
use Rattle.voy_order.proofs.StandLemmas.{NothingApplied, good_stands}

-- at a mark that has the whole part applied stand the tables that the part leaves
all_applied : (schema : List Table) (tables : Tables) (part : List ChangeEvent) (mark : Mark)
    → ((e : ChangeEvent) → Contains part e → is_applied schema mark e ≡ true)
    → (id : RowId) → tables_at schema tables part mark id ≡ fold_changes tables (row_changes part) id
all_applied schema tables part mark all id = row_left-all id (tables id) (is_applied schema mark) part (λ e at same. all e at) ∙ sym (fold_at tables part id)

-- a part of which all is applied, and nothing, is empty
none_there : (schema : List Table) (part : List ChangeEvent) (mark : Mark) → NothingApplied schema part mark
    → ((e : ChangeEvent) → Contains part e → is_applied schema mark e ≡ true) → part ≡ []
none_there schema [] mark nothing all = refl
none_there schema (e ∷ part) mark nothing all =
    absurd (both_ways (is_applied schema mark e) (nothing e (contains_first e part)) (all e (contains_first e part)))

-- where all rows are there and the whole part is applied, a good history ends in the fold of the part
pub ends_law : AppliedPartsAreFolded
ends_law basis history from good has all id = by (list_any is_events (whole basis history)) refl
  where
    by : (b : Bool) → list_any is_events (whole basis history) ≡ b
        → rows_standing basis.schema (whole basis history) id ≡ fold_changes (tables_before basis.schema basis.origin) (row_changes basis.part) id
    by true is = (good_stands basis history from good).at_mark is id
        ∙ all_applied basis.schema (tables_before basis.schema basis.origin) basis.part (mark_of basis.first (whole basis history)) all id
    by false is =
        rows_are_there basis history good (behind_without basis history is) has id
        ∙ ap (λ (part : List ChangeEvent). fold_changes (tables_before basis.schema basis.origin) (row_changes part) id)
        (sym (none_there basis.schema basis.part (mark_of basis.first (whole basis history)) (nothing_without basis history from good is) all))
