-- What some changes of a valid stream leave is clean, where each change that one of them has to come after is among them.
use Rattle.std.specs.Prelude.{◌≡◌, ◌≢◌, ◌⊎◌, ℕ, Bool, true, false, cond, List, [], ◌∷◌, Some, refl}
use Rattle.std.specs.List.{Contains, filter}
use Rattle.std.proofs.Common.{ap, inl, inr, subst, sym, ⊎_elim, ◌∙◌}
use Rattle.voy_schema.specs.declared.table.Table.{Table}
use Rattle.voy_schema.specs.declared.value.Value.{Value}
use Rattle.voy_tables.specs.Changes.{RowId}
use Rattle.voy_tables.specs.CleanLaws.{change_keeps_clean}
use Rattle.voy_tables.specs.Tables.{FitInTurn, Fits, IsClean, Tables, do_change, tuple_in}
use Rattle.voy_order.proofs.ListLemmas.{contains_first, contains_later}
use Rattle.voy_order.proofs.MoveLemmas.{acquires, at_or_away, do_here, do_there, has_or_not, releases, row_apart}
use Rattle.voy_order.specs.ChangeEvents.{ChangeEvent, row_changes}
use Rattle.voy_order.specs.Conflicts.{HandsOver, acquired}
use Rattle.voy_order.specs.Marks.{row_left}

-- the first has to come before the second: both change one row, or the first hands a tuple over to the second
abbrev pub IsTied : List Table → ChangeEvent → ChangeEvent → Type 0
IsTied schema g f = (g.change.row ≡ f.change.row) ⊎ HandsOver schema g.change f.change

-- with each chosen event each earlier one is chosen that has to come before it
abbrev pub AllCarry : List Table → (ChangeEvent → Bool) → List ChangeEvent → Type 0
AllCarry schema on [] = Unit {0}
AllCarry schema on (g ∷ events) = ((f : ChangeEvent) → Contains events f → on f ≡ true → IsTied schema g f → on g ≡ true) × AllCarry schema on events

-- the tables with all events done, and those with the chosen ones, in front of the events that are left: a row stands the same in both,
-- or no chosen event is left that changes it; and a tuple that a row has in the second it has in the first, or no chosen event is left that acquires it
pub record Holds (schema : List Table) (on : ChangeEvent → Bool) (all taken : Tables) (events : List ChangeEvent) : Type 0 where
  pub clean : IsClean schema taken
  pub rows : (p : RowId) → (taken p ≡ all p) ⊎ ((e : ChangeEvent) → Contains events e → on e ≡ true → e.change.row ≢ p)
  pub lost : (p : RowId) (unique : ℕ) (values : List Value) → tuple_in schema p.table unique (taken p) ≡ Some values
      → (tuple_in schema p.table unique (all p) ≡ Some values)
      ⊎ ((e : ChangeEvent) → Contains events e → on e ≡ true → e.change.row.table ≡ p.table → acquired schema unique e.change ≢ Some values)

module _ (schema : List Table) (on : ChangeEvent → Bool) (all taken : Tables) (e : ChangeEvent) (events : List ChangeEvent) where
  -- where no event is left that changes a row, none is left behind the first
  no_row : (p : RowId) → ((f : ChangeEvent) → Contains (e ∷ events) f → on f ≡ true → f.change.row ≢ p)
      → (f : ChangeEvent) → Contains events f → on f ≡ true → f.change.row ≢ p
  no_row p none f at = none f (contains_later e f events at)

  module _ (h : Holds schema on all taken (e ∷ events)) (fits : Fits schema e.change all) where
    -- an event that is not chosen
    pub step_off : on e ≡ false → ((f : ChangeEvent) → Contains events f → on f ≡ true → IsTied schema e f → on e ≡ true)
        → Holds schema on (do_change e.change all) taken events
    step_off off carry = record {
      clean = h.clean;
      rows = λ p. rows_by p (at_or_away p e.change.row);
      lost = λ p unique values has. lost_by p unique values has (at_or_away p e.change.row);
    }
      where
        rows_by : (p : RowId) → (p ≡ e.change.row) ⊎ (p ≢ e.change.row)
            → (taken p ≡ do_change e.change all p) ⊎ ((f : ChangeEvent) → Contains events f → on f ≡ true → f.change.row ≢ p)
        rows_by p (inl here) = inr (λ f at on_f same. row_apart (on e) off (carry f at on_f (inl (sym here ∙ sym same))))
        rows_by p (inr away) = ⊎_elim (λ same. inl (same ∙ sym (do_there e.change all p away))) (λ none. inr (no_row p none)) (h.rows p)

        here_by : (unique : ℕ) (values : List Value) → tuple_in schema e.change.row.table unique e.change.before ≡ Some values
            → (tuple_in schema e.change.row.table unique e.change.after ≡ Some values)
            ⊎ (tuple_in schema e.change.row.table unique e.change.after ≢ Some values)
            → (tuple_in schema e.change.row.table unique (do_change e.change all e.change.row) ≡ Some values)
            ⊎ ((f : ChangeEvent) → Contains events f → on f ≡ true → f.change.row.table ≡ e.change.row.table → acquired schema unique f.change ≢ Some values)
        here_by unique values had (inl keeps) = inl (ap (tuple_in schema e.change.row.table unique) (do_here e.change all) ∙ keeps)
        here_by unique values had (inr loses) = inr (λ f at on_f same_table takes.
            row_apart (on e) off (carry f at on_f (inr (record {
              table = sym same_table;
              unique = unique;
              values = values;
              releases = releases schema unique e.change values had loses;
              acquires = takes;
            }))))

        lost_here : (unique : ℕ) (values : List Value) → tuple_in schema e.change.row.table unique (taken e.change.row) ≡ Some values
            → (tuple_in schema e.change.row.table unique (do_change e.change all e.change.row) ≡ Some values)
            ⊎ ((f : ChangeEvent) → Contains events f → on f ≡ true → f.change.row.table ≡ e.change.row.table → acquired schema unique f.change ≢ Some values)
        lost_here unique values has = ⊎_elim
            (λ had. here_by unique values (sym (ap (tuple_in schema e.change.row.table unique) fits.here) ∙ had)
            (has_or_not (tuple_in schema e.change.row.table unique e.change.after) values))
            (λ none. inr (λ f at. none f (contains_later e f events at)))
            (h.lost e.change.row unique values has)

        lost_by : (p : RowId) (unique : ℕ) (values : List Value) → tuple_in schema p.table unique (taken p) ≡ Some values
            → (p ≡ e.change.row) ⊎ (p ≢ e.change.row)
            → (tuple_in schema p.table unique (do_change e.change all p) ≡ Some values)
            ⊎ ((f : ChangeEvent) → Contains events f → on f ≡ true → f.change.row.table ≡ p.table → acquired schema unique f.change ≢ Some values)
        lost_by p unique values has (inl here) = subst (λ (r : RowId). tuple_in schema r.table unique (taken r) ≡ Some values
            → (tuple_in schema r.table unique (do_change e.change all r) ≡ Some values)
            ⊎ ((f : ChangeEvent) → Contains events f → on f ≡ true → f.change.row.table ≡ r.table → acquired schema unique f.change ≢ Some values))
            (sym here) (lost_here unique values) has
        lost_by p unique values has (inr away) = ⊎_elim
            (λ had. inl (ap (tuple_in schema p.table unique) (do_there e.change all p away) ∙ had))
            (λ none. inr (λ f at. none f (contains_later e f events at)))
            (h.lost p unique values has)

    -- an event that is chosen fits what the chosen ones leave
    pub step_fits : on e ≡ true → Fits schema e.change taken
    step_fits is = record {
      here = here;
      unique = λ q unique values same_table away after_has q_has.
          alone q unique values same_table away after_has q_has (has_or_not (tuple_in schema e.change.row.table unique e.change.before) values);
    }
      where
        here : taken e.change.row ≡ e.change.before
        here = ⊎_elim (λ same. same ∙ fits.here) (λ none. absurd (none e (contains_first e events) is refl)) (h.rows e.change.row)

        alone : (q : RowId) (unique : ℕ) (values : List Value) → q.table ≡ e.change.row.table → q ≢ e.change.row
            → tuple_in schema e.change.row.table unique e.change.after ≡ Some values → tuple_in schema q.table unique (taken q) ≡ Some values
            → (tuple_in schema e.change.row.table unique e.change.before ≡ Some values)
            ⊎ (tuple_in schema e.change.row.table unique e.change.before ≢ Some values) → ⊥
        alone q unique values same_table away after_has q_has (inl had) =
            away (h.clean q e.change.row unique values same_table q_has (ap (tuple_in schema e.change.row.table unique) here ∙ had))
        alone q unique values same_table away after_has q_has (inr new) = ⊎_elim
            (λ all_has. fits.unique q unique values same_table away after_has all_has)
            (λ none. none e (contains_first e events) is (sym same_table) (acquires schema unique e.change values after_has new))
            (h.lost q unique values q_has)

    -- an event that is chosen
    pub step_on : on e ≡ true → Holds schema on (do_change e.change all) (do_change e.change taken) events
    step_on is = record {
      clean = change_keeps_clean schema e.change taken h.clean (step_fits is);
      rows = λ p. rows_by p (at_or_away p e.change.row);
      lost = λ p unique values has. lost_by p unique values has (at_or_away p e.change.row);
    }
      where
        both : (p : RowId) → p ≡ e.change.row → do_change e.change taken p ≡ do_change e.change all p
        both p here = subst (λ (r : RowId). do_change e.change taken r ≡ do_change e.change all r) (sym here)
            (do_here e.change taken ∙ sym (do_here e.change all))

        rows_by : (p : RowId) → (p ≡ e.change.row) ⊎ (p ≢ e.change.row)
            → (do_change e.change taken p ≡ do_change e.change all p) ⊎ ((f : ChangeEvent) → Contains events f → on f ≡ true → f.change.row ≢ p)
        rows_by p (inl here) = inl (both p here)
        rows_by p (inr away) = ⊎_elim
            (λ same. inl (do_there e.change taken p away ∙ same ∙ sym (do_there e.change all p away)))
            (λ none. inr (no_row p none))
            (h.rows p)

        lost_by : (p : RowId) (unique : ℕ) (values : List Value) → tuple_in schema p.table unique (do_change e.change taken p) ≡ Some values
            → (p ≡ e.change.row) ⊎ (p ≢ e.change.row)
            → (tuple_in schema p.table unique (do_change e.change all p) ≡ Some values)
            ⊎ ((f : ChangeEvent) → Contains events f → on f ≡ true → f.change.row.table ≡ p.table → acquired schema unique f.change ≢ Some values)
        lost_by p unique values has (inl here) = inl (ap (tuple_in schema p.table unique) (sym (both p here)) ∙ has)
        lost_by p unique values has (inr away) = ⊎_elim
            (λ had. inl (ap (tuple_in schema p.table unique) (do_there e.change all p away) ∙ had))
            (λ none. inr (λ f at. none f (contains_later e f events at)))
            (h.lost p unique values (sym (ap (tuple_in schema p.table unique) (do_there e.change taken p away)) ∙ has))

-- the tables with the chosen events done are clean
clean_after : (schema : List Table) (on : ChangeEvent → Bool) (all taken : Tables) (events : List ChangeEvent)
    → FitInTurn schema all (row_changes events) → AllCarry schema on events → Holds schema on all taken events
    → IsClean schema (λ id. row_left id (taken id) (filter on events))
clean_after schema on all taken [] fit carry h = h.clean
clean_after schema on all taken (e ∷ events) fit carry h = by (on e) refl
    (λ held. clean_after schema on (do_change e.change all) (do_change e.change taken) events fit.1 carry.1 held)
    (λ held. clean_after schema on (do_change e.change all) taken events fit.1 carry.1 held)
  where
    by : (b : Bool) → on e ≡ b
        → (Holds schema on (do_change e.change all) (do_change e.change taken) events
        → IsClean schema (λ id. row_left id (do_change e.change taken id) (filter on events)))
        → (Holds schema on (do_change e.change all) taken events → IsClean schema (λ id. row_left id (taken id) (filter on events)))
        → IsClean schema (λ id. row_left id (taken id) (cond b (e ∷ filter on events) (filter on events)))
    by true is with_it without = with_it (step_on schema on all taken e events h fit.0 is)
    by false is with_it without = without (step_off schema on all taken e events h fit.0 is carry.0)

-- of changes that fit clean tables in turn, a choice that carries what has to come before leaves them clean
pub part_clean : (schema : List Table) (on : ChangeEvent → Bool) (tables : Tables) (events : List ChangeEvent)
    → IsClean schema tables → FitInTurn schema tables (row_changes events) → AllCarry schema on events
    → IsClean schema (λ id. row_left id (tables id) (filter on events))
part_clean schema on tables events clean fit carry = clean_after schema on tables tables events fit carry
    (record { clean = clean; rows = λ p. inl refl; lost = λ p unique values has. inl has })
