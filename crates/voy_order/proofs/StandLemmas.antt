-- What stands behind the beginning of a history, and so behind every first part of a good one.
use Rattle.std.specs.Prelude.{◌≡◌, ◌<◌, ◌||◌, ℕ, Bool, true, false, List, [], ◌∷◌, ◌++◌, Option, Some, None, refl, slice_get}
use Rattle.std.specs.List.{Contains, list_any}
use Rattle.std.proofs.Common.{ap, subst, sym, ◌∙◌}
use Rattle.std.proofs.lemmas.Bool.{both_ways, lt-leb}
use Rattle.std.proofs.lemmas.List.Elements.{All-contains, All-from_recursion}
use Rattle.std.proofs.lemmas.List.Folds.{list_any-append}
use Rattle.std.proofs.lemmas.List.Sums.{fold-append}
use Rattle.voy_schema.specs.Rows.{tuple_of}
use Rattle.voy_schema.specs.declared.table.Table.{Table}
use Rattle.voy_schema.specs.declared.table.UniqueKey.{UniqueKey}
use Rattle.voy_schema.specs.declared.value.Value.{Value}
use Rattle.voy_tables.specs.Changes.{RowChange}
use Rattle.voy_tables.specs.CleanLaws.{change_keeps_clean}
use Rattle.voy_tables.specs.Tables.{FitInTurn, IsClean, Tables, do_change, fold_changes, no_rows, tuple_in}
use Rattle.voy_txn.specs.History.{History, Mark, mark_of, vsns_of}
use Rattle.voy_txn.specs.declared.txn.Txn.{Txn}
use Rattle.voy_txn.specs.declared.txn.Txn.TheVariants.{Load}
use Rattle.voy_order.specs.ChangeEvents.{ChangeEvent, FromOne}
use Rattle.voy_order.specs.Histories.{Basis, IsBegun, IsGood, Origin, Stands, beginning, changes_by, is_events, rows_standing, tables_after_txn}
use Rattle.voy_order.specs.Histories.Origin.{Snapshot, Loaded}
use Rattle.voy_order.specs.HistoryLaws.{EveryPrefixStands, whole}
use Rattle.voy_order.specs.Marks.{IsClosed, channel_in, is_applied}
use Rattle.voy_order.proofs.TurnLemmas.{along, turns_front}

-- the tables of one transaction more
pub rows_grow : (schema : List Table) (history : History) (txn : Txn)
    → rows_standing schema (history ++ txn ∷ []) ≡ tables_after_txn schema (rows_standing schema history) txn
rows_grow schema history txn = fold-append (tables_after_txn schema) no_rows history (txn ∷ [])

or_nothing : (b : Bool) → (b || false) ≡ b
or_nothing true = refl
or_nothing false = refl

-- whether change events stand, with one transaction more
pub events_grow : (history : History) (txn : Txn) → list_any is_events (history ++ txn ∷ []) ≡ (list_any is_events history || is_events txn)
events_grow history txn = list_any-append is_events history (txn ∷ []) ∙ ap (λ b. list_any is_events history || b) (or_nothing (is_events txn))

-- tables stay clean under changes that fit in turn
pub turn_keeps_clean : (schema : List Table) (tables : Tables) (cs : List RowChange)
    → IsClean schema tables → FitInTurn schema tables cs → IsClean schema (fold_changes tables cs)
turn_keeps_clean schema tables [] clean fit = clean
turn_keeps_clean schema tables (c ∷ cs) clean fit = turn_keeps_clean schema (do_change c tables) cs (change_keeps_clean schema c tables clean fit.0) fit.1

no_tuple : (schema : List Table) (table unique : ℕ) → tuple_in schema table unique None ≡ None
unfolding tuple_in tuple_of
no_tuple schema table unique = by (slice_get schema table) refl where
  by : (found : Option Table) → slice_get schema table ≡ found → tuple_in schema table unique None ≡ None
  by None is = rw is refl
  by (Some t) is = rw is (at (slice_get t.unique_keys unique) refl) where
    at : (key : Option UniqueKey) → slice_get t.unique_keys unique ≡ key → tuple_of t unique None ≡ None
    at None e = rw e refl
    at (Some key) e = rw e refl

-- tables without rows are clean
pub no_rows_clean : (schema : List Table) → IsClean schema no_rows
no_rows_clean schema p q unique values same has_p has_q = absurd (none_some values (sym (no_tuple schema p.table unique) ∙ has_p))
  where
    none_some : (values : List Value) → None ≡ Some values → ⊥
    none_some values e = cc

-- no change event of the part is applied
abbrev pub NothingApplied : List Table → List ChangeEvent → Mark → Type 0
NothingApplied schema part mark = (e : ChangeEvent) → Contains part e → is_applied schema mark e ≡ false

-- such a mark is closed
pub nothing_is_closed : (schema : List Table) (part : List ChangeEvent) (mark : Mark) → NothingApplied schema part mark → IsClosed schema mark part
nothing_is_closed schema part mark nothing f g in_f in_g applied holds = absurd (both_ways (is_applied schema mark f) (nothing f in_f) applied)

-- nothing is applied where every channel is at 0, since vsns begin from 1
pub nothing_at_zero : (schema : List Table) (part : List ChangeEvent) (mark : Mark)
    → FromOne part → ((channel : ℕ) → mark.vsn_of channel ≡ 0) → NothingApplied schema part mark
nothing_at_zero schema part mark from zero_is e in_e = lt-leb e.vsn (mark.vsn_of (channel_in schema mark e))
    (subst (λ n. n < e.vsn) (sym (zero_is (channel_in schema mark e)))
    (All-contains (λ (x : ChangeEvent). 0 < x.vsn) part e (All-from_recursion (λ (x : ChangeEvent). 0 < x.vsn) part from) in_e))

-- no change events stand in the beginning, and every channel is at 0
pub begins_without : (origin : Origin) → list_any is_events (beginning origin) ≡ false
begins_without (Snapshot rows) = refl
begins_without (Loaded rows) = refl

pub begins_at_zero : (origin : Origin) (channel : ℕ) → vsns_of (beginning origin) channel ≡ 0
begins_at_zero (Snapshot rows) channel = refl
begins_at_zero (Loaded rows) channel = refl

begins_clean : (schema : List Table) (origin : Origin) → IsBegun schema origin → IsClean schema (rows_standing schema (beginning origin))
begins_clean schema (Snapshot rows) begun = no_rows_clean schema
begins_clean schema (Loaded rows) begun = turn_keeps_clean schema no_rows (changes_by schema (Load rows)) (no_rows_clean schema) begun

begin_stands : (basis : Basis) → FromOne basis.part → IsBegun basis.schema basis.origin → Stands basis (beginning basis.origin)
begin_stands basis from begun = record {
  clean = begins_clean basis.schema basis.origin begun;
  at_mark = λ has. absurd (both_ways (list_any is_events (beginning basis.origin)) (begins_without basis.origin) has);
  closed = λ valid. nothing_is_closed basis.schema basis.part (mark_of basis.first (beginning basis.origin))
      (nothing_at_zero basis.schema basis.part (mark_of basis.first (beginning basis.origin)) from (begins_at_zero basis.origin));
}

-- all stands behind a good history
pub good_stands : (basis : Basis) (history : History) → FromOne basis.part → IsGood basis history → Stands basis (whole basis history)
good_stands basis history from good =
    along basis (Stands basis) (λ before txn comes stands. comes.after) (beginning basis.origin) history good.in_turn (begin_stands basis from good.begun)

-- behind every first part of a good history all stands
pub prefix_law : EveryPrefixStands
prefix_law basis history more from good =
    good_stands basis history from (record { begun = good.begun; in_turn = turns_front basis (beginning basis.origin) history more good.in_turn })
