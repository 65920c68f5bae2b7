-- The next event of its channel, done on the tables at a closed mark of a valid part.
use Rattle.std.specs.Prelude.{◌≡◌, ◌≢◌, ◌⊎◌, ℕ, true, Bool, List, ◌∷◌, Option, Some, if◌then◌else◌, refl}
use Rattle.std.specs.List.{Contains, filter}
use Rattle.std.proofs.Common.{ap, inl, inr, subst, sym, ⊎_elim, ◌∙◌}
use Rattle.voy_schema.specs.declared.table.Table.{Table}
use Rattle.voy_schema.specs.declared.value.Value.{Value}
use Rattle.voy_tables.specs.Changes.{RowId}
use Rattle.voy_tables.specs.Tables.{FitInTurn, Fits, IsClean, Tables, do_change, same_row_id, tuple_in}
use Rattle.voy_txn.specs.History.{Mark}
use Rattle.voy_order.proofs.EventLemmas.{fit_back, fold_at, row_left-all, row_left-append, row_left-away}
use Rattle.voy_order.proofs.ListLemmas.{of_filter}
use Rattle.voy_order.proofs.MarkLemmas.{closed_is_clean, one_channel}
use Rattle.voy_order.proofs.MoveLemmas.{at_or_away, do_here, do_there, other_row, row_apart, same_row}
use Rattle.voy_order.proofs.RaiseLemmas.{Raised, applied_after, applied_before, next_is_there, raise, still_applied, was_applied}
use Rattle.voy_order.specs.ChangeEvents.{ChangeEvent, row_changes}
use Rattle.voy_order.specs.Conflicts.{HoldsBack}
use Rattle.voy_order.specs.Laws.{OneStep}
use Rattle.voy_order.specs.Marks.{IsClosed, is_applied, raised, row_left, tables_at}

module _ (schema : List Table) (tables : Tables) (part : List ChangeEvent) (mark : Mark) (f : ChangeEvent) (rest : List ChangeEvent)
    (r : Raised schema mark part f rest)
  where
    -- the applied events in front of f and behind it, and the tables that they are applied on
    abbrev early_applied : List ChangeEvent
    early_applied = filter (is_applied schema mark) r.early

    abbrev late_applied : List ChangeEvent
    late_applied = filter (is_applied schema mark) r.late

    abbrev now : Tables
    now = tables_at schema tables part mark

    -- the row that the applied events in front of f leave
    abbrev early_row : RowId → Option (List Value)
    early_row id = row_left id (tables id) early_applied

    -- the row there after f, or not
    abbrev row_at_f : RowId → Bool → Option (List Value)
    row_at_f id here = if here then f.change.after else early_row id

    old : (id : RowId) → tables_at schema tables part mark id ≡ row_left id (early_row id) late_applied
    old id = ap (row_left id (tables id)) (applied_before schema mark part f rest r) ∙ row_left-append id (tables id) early_applied late_applied

    new : (id : RowId) → tables_at schema tables part (raised schema mark f) id ≡ row_left id (row_at_f id (same_row_id id f.change.row)) late_applied
    new id = ap (row_left id (tables id)) (applied_after schema mark part f rest r) ∙ row_left-append id (tables id) early_applied (f ∷ late_applied)

    -- no applied event behind f changes its row
    none_behind : (e : ChangeEvent) → Contains late_applied e → e.change.row ≢ f.change.row
    none_behind e at same =
        let two = of_filter (is_applied schema mark) r.late e at in
        row_apart (is_applied schema mark e) (r.late_pending e two.0 (one_channel schema mark e f same)) two.1

    gives_by : (id : RowId) → (id ≡ f.change.row) ⊎ (id ≢ f.change.row)
        → do_change f.change now id ≡ tables_at schema tables part (raised schema mark f) id
    gives_by id (inl here) = subst (λ (q : RowId). do_change f.change now q ≡ tables_at schema tables part (raised schema mark f) q) (sym here)
        (do_here f.change now
        ∙ sym (new f.change.row
        ∙ ap (λ b. row_left f.change.row (row_at_f f.change.row b) late_applied) (same_row f.change.row f.change.row refl)
        ∙ row_left-away f.change.row f.change.after late_applied none_behind))
    gives_by id (inr away) = do_there f.change now id away ∙ old id
        ∙ sym (new id ∙ ap (λ b. row_left id (row_at_f id b) late_applied) (other_row id f.change.row away))

    -- to do f gives the tables with f applied
    pub gives : (id : RowId) → do_change f.change (tables_at schema tables part mark) id ≡ tables_at schema tables part (raised schema mark f) id
    gives id = gives_by id (at_or_away id f.change.row)

    -- the row of f stands as f says
    pub stands_there : FitInTurn schema tables (row_changes part) → tables_at schema tables part mark f.change.row ≡ f.change.before
    stands_there fit = old f.change.row
        ∙ row_left-away f.change.row (early_row f.change.row) late_applied none_behind
        ∙ row_left-all f.change.row (tables f.change.row) (is_applied schema mark) r.early
        (λ e at same. r.early_applied e at (one_channel schema mark e f same))
        ∙ sym (fold_at tables r.early f.change.row)
        ∙ (fit_back schema tables r.early (f ∷ r.late) (subst (λ (p : List ChangeEvent). FitInTurn schema tables (row_changes p)) r.whole fit)).0.here

    -- the mark with f applied is closed
    pub closed_raised : IsClosed schema mark part → Contains part f
        → ((g : ChangeEvent) → Contains part g → HoldsBack schema g f → is_applied schema mark g ≡ true)
        → IsClosed schema (raised schema mark f) part
    closed_raised closed f_in free e g e_in g_in is holds = still_applied schema mark part f rest r g g_in (⊎_elim
        (λ was. closed e g e_in g_in was holds)
        (λ here. free g g_in (subst (HoldsBack schema g) (sym here) holds))
        (was_applied schema mark part f rest r e e_in is))

    -- f fits where the tables with f applied are clean
    pub fits_there : FitInTurn schema tables (row_changes part) → IsClean schema (tables_at schema tables part (raised schema mark f))
        → Fits schema f.change (tables_at schema tables part mark)
    fits_there fit clean = record { here = stands_there fit; unique = alone }
      where
        alone : (q : RowId) (unique : ℕ) (values : List Value) → q.table ≡ f.change.row.table → q ≢ f.change.row
            → tuple_in schema f.change.row.table unique f.change.after ≡ Some values
            → tuple_in schema q.table unique (tables_at schema tables part mark q) ≢ Some values
        alone q unique values same_table away after_has q_has = away (clean q f.change.row unique values same_table
            (ap (tuple_in schema q.table unique) (sym (gives q) ∙ do_there f.change now q away) ∙ q_has)
            (ap (tuple_in schema f.change.row.table unique) (sym (gives f.change.row) ∙ do_here f.change now) ∙ after_has))

-- one step
pub one_step_applies : OneStep
one_step_applies schema tables part mark f up valid closed next free =
    let r = raise schema mark part f next.0 up next.1 in
    let closed_now = closed_raised schema tables part mark f next.0 r closed (next_is_there schema mark part f next.0 r) free in
    record {
      fits = fits_there schema tables part mark f next.0 r valid.fit (closed_is_clean schema tables part (raised schema mark f) up valid closed_now);
      gives = gives schema tables part mark f next.0 r;
      closed = closed_now;
    }
