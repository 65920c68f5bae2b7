-- Change events one after the other: their vsns, the row that they leave, and what they do to tables.
use Rattle.std.specs.Prelude.{◌≡◌, ◌≢◌, ◌<◌, Bool, true, false, List, [], ◌∷◌, ◌++◌, Option, cond, if◌then◌else◌, refl}
use Rattle.std.specs.List.{AllByRecursion, Contains, filter}
use Rattle.std.proofs.Common.{ap, sym, ◌∙◌}
use Rattle.voy_schema.specs.declared.table.Table.{Table}
use Rattle.voy_schema.specs.declared.value.Value.{Value}
use Rattle.voy_tables.specs.Changes.{RowId}
use Rattle.voy_tables.specs.Tables.{FitInTurn, Tables, do_change, fold_changes, same_row_id}
use Rattle.voy_order.proofs.ListLemmas.{all_in_filter, contains_first, contains_later, of_member}
use Rattle.voy_order.proofs.MoveLemmas.{other_row, row_apart}
use Rattle.voy_order.specs.ChangeEvents.{ChangeEvent, VsnsAscend, row_changes}
use Rattle.voy_order.specs.Marks.{row_left}

-- ---- vsns that ascend

-- of a list that ascends, each front and each back ascends, and each of the front is below each of the back
pub ascend_front : (xs ys : List ChangeEvent) → VsnsAscend (xs ++ ys) → VsnsAscend xs
ascend_front [] ys up = tt
ascend_front (x ∷ xs) ys up = (front xs up.0, ascend_front xs ys up.1)
  where
    front : (zs : List ChangeEvent) → AllByRecursion (λ (later : ChangeEvent). x.vsn < later.vsn) (zs ++ ys)
        → AllByRecursion (λ (later : ChangeEvent). x.vsn < later.vsn) zs
    front [] all = tt
    front (z ∷ zs) all = (all.0, front zs all.1)

pub ascend_back : (xs ys : List ChangeEvent) → VsnsAscend (xs ++ ys) → VsnsAscend ys
ascend_back [] ys up = up
ascend_back (x ∷ xs) ys up = ascend_back xs ys up.1

pub ascend_apart : (xs ys : List ChangeEvent) → VsnsAscend (xs ++ ys) → (x y : ChangeEvent) → Contains xs x → Contains ys y → x.vsn < y.vsn
ascend_apart xs ys up x y x_in y_in = of_member (λ (e : ChangeEvent). e.vsn < y.vsn) xs (below xs up) x x_in
  where
    behind : (a : ChangeEvent) (zs : List ChangeEvent) → AllByRecursion (λ (later : ChangeEvent). a.vsn < later.vsn) (zs ++ ys) → a.vsn < y.vsn
    behind a [] all = of_member (λ (later : ChangeEvent). a.vsn < later.vsn) ys all y y_in
    behind a (z ∷ zs) all = behind a zs all.1

    below : (zs : List ChangeEvent) → VsnsAscend (zs ++ ys) → AllByRecursion (λ (e : ChangeEvent). e.vsn < y.vsn) zs
    below [] up = tt
    below (z ∷ zs) up = (behind z zs up.0, below zs up.1)

-- each event behind the first is above it
pub ascend_first : (e : ChangeEvent) (events : List ChangeEvent) → VsnsAscend (e ∷ events) → (f : ChangeEvent) → Contains events f → e.vsn < f.vsn
ascend_first e events up f at = of_member (λ (later : ChangeEvent). e.vsn < later.vsn) events up.0 f at

-- a filter of events that ascend ascends
pub ascend_filter : (test : ChangeEvent → Bool) (events : List ChangeEvent) → VsnsAscend events → VsnsAscend (filter test events)
ascend_filter test [] up = tt
ascend_filter test (e ∷ events) up = by (test e) (ascend_filter test events up.1)
  where
    by : (b : Bool) → VsnsAscend (filter test events) → VsnsAscend (cond b (e ∷ filter test events) (filter test events))
    by true more = (all_in_filter test (λ (later : ChangeEvent). e.vsn < later.vsn) events up.0, more)
    by false more = more

-- ---- the row that events leave

pub row_left-append : (id : RowId) (row : Option (List Value)) (xs ys : List ChangeEvent) → row_left id row (xs ++ ys) ≡ row_left id (row_left id row xs) ys
row_left-append id row [] ys = refl
row_left-append id row (e ∷ xs) ys = row_left-append id (if same_row_id id e.change.row then e.change.after else row) xs ys

-- events of other rows leave a row
pub row_left-away : (id : RowId) (row : Option (List Value)) (events : List ChangeEvent)
    → ((e : ChangeEvent) → Contains events e → e.change.row ≢ id) → row_left id row events ≡ row
row_left-away id row [] away = refl
row_left-away id row (e ∷ events) away =
    ap (λ b. row_left id (if b then e.change.after else row) events) (other_row id e.change.row (λ same. away e (contains_first e events) (sym same)))
    ∙ row_left-away id row events (λ f at. away f (contains_later e f events at))

-- where each event of a row passes, the filter leaves what all leave
pub row_left-all : (id : RowId) (row : Option (List Value)) (test : ChangeEvent → Bool) (events : List ChangeEvent)
    → ((e : ChangeEvent) → Contains events e → e.change.row ≡ id → test e ≡ true) → row_left id row (filter test events) ≡ row_left id row events
row_left-all id row test [] passes = refl
row_left-all id row test (e ∷ events) passes =
    by (test e) refl (λ old. row_left-all id old test events (λ f at. passes f (contains_later e f events at)))
  where
    next : Bool → Option (List Value)
    next b = if b then e.change.after else row

    by : (b : Bool) → test e ≡ b → ((old : Option (List Value)) → row_left id old (filter test events) ≡ row_left id old events)
        → row_left id row (cond b (e ∷ filter test events) (filter test events)) ≡ row_left id (next (same_row_id id e.change.row)) events
    by true is more = more (next (same_row_id id e.change.row))
    by false is more = more row ∙ sym (ap (λ b. row_left id (next b) events) (other_row id e.change.row
        (λ same. row_apart (test e) is (passes e (contains_first e events) (sym same)))))

-- ---- what events do to tables

-- the fold of changes leaves at each key what the last change there leaves
pub fold_at : (tables : Tables) (events : List ChangeEvent) (id : RowId) → fold_changes tables (row_changes events) id ≡ row_left id (tables id) events
fold_at tables [] id = refl
fold_at tables (e ∷ events) id = fold_at (do_change e.change tables) events id

pub fold-append : (tables : Tables) (xs ys : List ChangeEvent)
    → fold_changes tables (row_changes (xs ++ ys)) ≡ fold_changes (fold_changes tables (row_changes xs)) (row_changes ys)
fold-append tables [] ys = refl
fold-append tables (e ∷ xs) ys = fold-append (do_change e.change tables) xs ys

-- of changes that fit in turn, each back fits the fold of those in front of it
pub fit_back : (schema : List Table) (tables : Tables) (xs ys : List ChangeEvent) → FitInTurn schema tables (row_changes (xs ++ ys))
    → FitInTurn schema (fold_changes tables (row_changes xs)) (row_changes ys)
fit_back schema tables [] ys fit = fit
fit_back schema tables (e ∷ xs) ys fit = fit_back schema (do_change e.change tables) xs ys fit.1

pub fit_front : (schema : List Table) (tables : Tables) (xs ys : List ChangeEvent) → FitInTurn schema tables (row_changes (xs ++ ys))
    → FitInTurn schema tables (row_changes xs)
fit_front schema tables [] ys fit = tt
fit_front schema tables (e ∷ xs) ys fit = (fit.0, fit_front schema (do_change e.change tables) xs ys fit.1)

pub fit-append : (schema : List Table) (tables : Tables) (xs ys : List ChangeEvent) → FitInTurn schema tables (row_changes xs)
    → FitInTurn schema (fold_changes tables (row_changes xs)) (row_changes ys) → FitInTurn schema tables (row_changes (xs ++ ys))
fit-append schema tables [] ys fit more = more
fit-append schema tables (e ∷ xs) ys fit more = (fit.0, fit-append schema (do_change e.change tables) xs ys fit.1 more)
