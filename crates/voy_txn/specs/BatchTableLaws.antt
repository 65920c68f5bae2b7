-- The tables of a history of batches alone: in each table the rows of its batches, put in one after the other.
use Rattle.std.specs.Prelude.{◌≡◌, ◌<◌, ◌+◌, ◌==◌, ℕ, zero, suc, Bool, true, false, List, [], ◌∷◌, ◌++◌, Option, Some, None, length, map, option_map, refl, slice_get, slice_set, if◌then◌else◌}
use Rattle.std.specs.List.{fold, list_all}
use Rattle.std.proofs.Common.{append_assoc, append-nil, ap, arith, sym, ◌∙◌}
use lib.Dec.{eqb-suc-suc, eqb-suc-zero, eqb-zero-suc}
use Rattle.std.proofs.lemmas.Bool.{eqb-true}
use Rattle.std.proofs.lemmas.List.{map-append}
use Rattle.std.proofs.lemmas.List.Sums.{fold-append}
use Rattle.std.proofs.lemmas.Option.{slice_get_within}
use Rattle.voy_schema.specs.declared.table.Table.{Table}
use Rattle.voy_schema.specs.declared.value.Value.{Value}
use Rattle.voy_tables.specs.Changes.{RowId, is_well_formed, row_change}
use Rattle.voy_tables.specs.Laws.{EmptyListsHaveNoRows, FoldsAgree}
use Rattle.voy_tables.specs.Lists.{empty_lists, fold_lists, lists_after, look, rows_in, with_row}
use Rattle.voy_tables.specs.Tables.{Tables, fold_changes, no_rows}
use Rattle.voy_tables.specs.declared.change.Change.TheVariants.{Insert}
use Rattle.voy_txn.specs.BatchRows.{are_batches, rows_in_batches, with_rows}
use Rattle.voy_txn.specs.CleanLaws.{empty_are_clean}
use Rattle.voy_txn.specs.History.{History, tables_after, tables_of}
use Rattle.voy_txn.specs.Items.{inserts_from}
use Rattle.voy_txn.specs.LoadLaws.{fold_lists-append}
use Rattle.voy_txn.specs.declared.txn.Txn.TheVariants.{Load, Batch, Events, Epoch}

-- each table of the schema has these rows, put into it one after the other
abbrev HaveRows : List Table → List (List (List Value)) → (ℕ → List (List Value)) → Type 0
HaveRows schema lists rows = (n : ℕ) → slice_get lists n ≡ option_map (λ t. with_rows t [] (rows n)) (slice_get schema n)

-- the rows at one place with these behind them
abbrev added_at : ℕ → List (List Value) → (ℕ → List (List Value)) → ℕ → List (List Value)
added_at place rows before = λ n. before n ++ (if n == place then rows else [])

get_set : {A : Type 0} (xs : List A) (i n : ℕ) (x : A) → i < length xs → slice_get (slice_set xs i x) n ≡ (if n == i then Some x else slice_get xs n)
get_set [] i n x within = absurd (omega arith)
get_set (y ∷ xs) zero zero x within = refl
get_set (y ∷ xs) zero (suc n) x within = ap (λ b. if b then Some x else slice_get xs n) (sym (eqb-suc-zero n))
get_set (y ∷ xs) (suc i) zero x within = ap (λ b. if b then Some x else Some y) (sym (eqb-zero-suc i))
get_set (y ∷ xs) (suc i) (suc n) x within = get_set xs i n x (omega arith) ∙ ap (λ b. if b then Some x else slice_get xs n) (sym (eqb-suc-suc n i))

with_rows-more : (t : Table) (rows : List (List Value)) (row : List Value) → with_rows t [] (rows ++ row ∷ []) ≡ with_row t row (with_rows t [] rows)
with_rows-more t rows row = fold-append (λ all r. with_row t r all) [] rows (row ∷ [])

insert_adds : (schema : List Table) (lists : List (List (List Value))) (before : ℕ → List (List Value)) (place : ℕ) (row : List Value)
    → HaveRows schema lists before → HaveRows schema (lists_after schema (row_change schema (Insert place row)) lists) (added_at place (row ∷ []) before)
insert_adds schema lists before place row have = λ n. by n (slice_get schema place) refl where
  by : (n : ℕ) (found : Option Table) → slice_get schema place ≡ found
      → slice_get (lists_after schema (row_change schema (Insert place row)) lists) n
      ≡ option_map (λ t. with_rows t [] (added_at place (row ∷ []) before n)) (slice_get schema n)
  by n None none = rw none (at (n == place) refl) where
    at : (b : Bool) → (n == place) ≡ b → slice_get lists n ≡ option_map (λ t. with_rows t [] (before n ++ (if b then row ∷ [] else []))) (slice_get schema n)
    at true is =
        let here : slice_get schema n ≡ None = ap (slice_get schema) (eqb-true n place is) ∙ none in
        have n ∙ rw here refl
    at false is = rw (append-nil (before n)) (have n)
  by n (Some t) found = rw found (get_set lists place n (with_row t row (rows_in (slice_get lists place))) within ∙ at (n == place) refl) where
    stands : slice_get lists place ≡ Some (with_rows t [] (before place))
    stands = have place ∙ rw found refl

    within : place < length lists
    within = slice_get_within lists place (with_rows t [] (before place)) stands

    at : (b : Bool) → (n == place) ≡ b
        → (if b then Some (with_row t row (rows_in (slice_get lists place))) else slice_get lists n)
        ≡ option_map (λ t. with_rows t [] (before n ++ (if b then row ∷ [] else []))) (slice_get schema n)
    at true is =
        let same_place = eqb-true n place is in
        let here : slice_get schema n ≡ Some t = ap (slice_get schema) same_place ∙ found in
        rw (here, stands, same_place, with_rows-more t (before place) row) refl
    at false is = rw (append-nil (before n)) (have n)

-- the same rows, written otherwise
as_rows : (schema : List Table) (lists : List (List (List Value))) (rows same : ℕ → List (List Value)) → ((n : ℕ) → rows n ≡ same n)
    → HaveRows schema lists rows → HaveRows schema lists same
as_rows schema lists rows same is have = λ n. have n ∙ ap (λ (all : List (List Value)). option_map (λ t. with_rows t [] all) (slice_get schema n)) (is n)

inserts_add : (schema : List Table) (lists : List (List (List Value))) (before : ℕ → List (List Value)) (place : ℕ) (rows : List (List Value))
    → HaveRows schema lists before → HaveRows schema (fold_lists schema lists (map (row_change schema) (map (Insert place) rows))) (added_at place rows before)
inserts_add schema lists before place [] have = λ n. rw (nothing n) (have n) where
  nothing : (n : ℕ) → added_at place [] before n ≡ before n
  nothing n = by (n == place) where
    by : (b : Bool) → (before n ++ (if b then [] else [])) ≡ before n
    by true = append-nil (before n)
    by false = append-nil (before n)
inserts_add schema lists before place (row ∷ rows) have =
    let first : List (List (List Value)) = lists_after schema (row_change schema (Insert place row)) lists in
    let rest = inserts_add schema first (added_at place (row ∷ []) before) place rows (insert_adds schema lists before place row have) in
    as_rows schema (fold_lists schema first (map (row_change schema) (map (Insert place) rows))) _ _ one rest
  where
    one : (n : ℕ) → added_at place rows (added_at place (row ∷ []) before) n ≡ added_at place (row ∷ rows) before n
    one n = by (n == place) where
      by : (b : Bool) → ((before n ++ (if b then row ∷ [] else [])) ++ (if b then rows else [])) ≡ before n ++ (if b then row ∷ rows else [])
      by true = append_assoc (before n) (row ∷ []) rows
      by false = append-nil (before n ++ [])

empty_have_none : (schema : List Table) → HaveRows schema (empty_lists schema) (λ n. [])
empty_have_none schema = λ n. at schema n where
  at : (schema : List Table) (n : ℕ) → slice_get (empty_lists schema) n ≡ option_map (λ t. with_rows t [] []) (slice_get schema n)
  at [] n = refl
  at (t ∷ schema) zero = refl
  at (t ∷ schema) (suc n) = at schema n

-- ---- batches, one after the other

batches_add : (schema : List Table) (lists : List (List (List Value))) (before : ℕ → List (List Value)) (history : History)
    → are_batches history ≡ true → HaveRows schema lists before
    → HaveRows schema (fold (tables_after schema) lists history) (λ n. before n ++ rows_in_batches n history)
batches_add schema lists before [] all have = λ n. rw (append-nil (before n)) (have n)
batches_add schema lists before (Load tables ∷ history) all have = cc
batches_add schema lists before (Events channel items ∷ history) all have = cc
batches_add schema lists before (Epoch vsn channels ∷ history) all have = cc
batches_add schema lists before (Batch table batch rows ∷ history) all have =
    let first : List (List (List Value)) = tables_after schema lists (Batch table batch rows) in
    let rest = batches_add schema first (added_at table rows before) history all (inserts_add schema lists before table rows have) in
    as_rows schema (fold (tables_after schema) first history) _ _ one rest
  where
    one : (n : ℕ) → added_at table rows before n ++ rows_in_batches n history ≡ before n ++ rows_in_batches n (Batch table batch rows ∷ history)
    one n = by (n == table) refl where
      by : (b : Bool) → (n == table) ≡ b → (before n ++ (if b then rows else [])) ++ rows_in_batches n history ≡ before n ++ rows_in_batches n (Batch table batch rows ∷ history)
      by true is = rw is (append_assoc (before n) rows (rows_in_batches n history))
      by false is = rw (is, append-nil (before n)) refl

-- in each table of the schema stand the rows of its batches
pub tables_of_batches : (schema : List Table) (history : History) → are_batches history ≡ true
    → (n : ℕ) → slice_get (tables_of schema history) n ≡ option_map (λ t. with_rows t [] (rows_in_batches n history)) (slice_get schema n)
tables_of_batches schema history all = batches_add schema (empty_lists schema) (λ n. []) history all (empty_have_none schema)

-- ---- the same rows as inserts, table by table

-- the rows at a place of these tables, the first of which is at `place`
abbrev rows_from : ℕ → List (List (List Value)) → ℕ → List (List Value)
rows_from place [] n = []
rows_from place (rows ∷ tables) n = (if n == place then rows else []) ++ rows_from (suc place) tables n

none_below : (place : ℕ) (tables : List (List (List Value))) (n : ℕ) → n < place → rows_from place tables n ≡ []
none_below place [] n below = refl
none_below place (rows ∷ tables) n below = rw (other, none_below (suc place) tables n (omega (arith, below))) refl where
  other : (n == place) ≡ false
  other = grind (arith, below)

rows_from-at : (place : ℕ) (tables : List (List (List Value))) (k n : ℕ) → n ≡ place + k → rows_from place tables n ≡ rows_in (slice_get tables k)
rows_from-at place [] k n at = refl
rows_from-at place (rows ∷ tables) zero n at = rw (here, none_below (suc place) tables n (omega (arith, at))) (append-nil rows) where
  here : (n == place) ≡ true
  here = grind (arith, at)
rows_from-at place (rows ∷ tables) (suc k) n at = rw other (rows_from-at (suc place) tables k n (omega (arith, at))) where
  other : (n == place) ≡ false
  other = grind (arith, at)

inserts_from_add : (schema : List Table) (lists : List (List (List Value))) (before : ℕ → List (List Value)) (place : ℕ) (tables : List (List (List Value)))
    → HaveRows schema lists before
    → HaveRows schema (fold_lists schema lists (map (row_change schema) (inserts_from place tables))) (λ n. before n ++ rows_from place tables n)
inserts_from_add schema lists before place [] have = λ n. rw (append-nil (before n)) (have n)
inserts_from_add schema lists before place (rows ∷ tables) have =
    let first : List (List (List Value)) = fold_lists schema lists (map (row_change schema) (map (Insert place) rows)) in
    let rest = inserts_from_add schema first (added_at place rows before) (suc place) tables (inserts_add schema lists before place rows have) in
    let parts : fold_lists schema lists (map (row_change schema) (inserts_from place (rows ∷ tables))) ≡ fold_lists schema first (map (row_change schema) (inserts_from (suc place) tables)) =
    ap (fold_lists schema lists) (map-append (row_change schema) (map (Insert place) rows) (inserts_from (suc place) tables))
    ∙ fold_lists-append schema lists (map (row_change schema) (map (Insert place) rows)) (map (row_change schema) (inserts_from (suc place) tables)) in
    λ n. ap (λ (all : List (List (List Value))). slice_get all n) parts
    ∙ as_rows schema (fold_lists schema first (map (row_change schema) (inserts_from (suc place) tables))) _ _
    (λ m. append_assoc (before m) (if m == place then rows else []) (rows_from (suc place) tables m)) rest n

none_some : {A : Type 0} (x : A) → None ≡ Some x → ⊥
none_some x is = cc

some_same : {A : Type 0} {x y : A} → Some x ≡ Some y → x ≡ y
some_same is = cc

-- lists with the same item at each place are equal
same_gets : {A : Type 0} (xs ys : List A) → ((n : ℕ) → slice_get xs n ≡ slice_get ys n) → xs ≡ ys
same_gets [] [] same = refl
same_gets [] (y ∷ ys) same = absurd (none_some y (same 0))
same_gets (x ∷ xs) [] same = absurd (none_some x (sym (same 0)))
same_gets (x ∷ xs) (y ∷ ys) same = let first : x ≡ y = some_same (same 0) in let rest : xs ≡ ys = same_gets xs ys (λ n. same (suc n)) in rw (first, rest) refl

-- batches of just these rows leave what their inserts do, table by table, in whatever order the batches of different tables came
pub batches_are_inserts : (schema : List Table) (history : History) (tables : List (List (List Value))) → are_batches history ≡ true
    → ((n : ℕ) → n < length schema → rows_in_batches n history ≡ rows_in (slice_get tables n))
    → tables_of schema history ≡ fold_lists schema (empty_lists schema) (map (row_change schema) (inserts_from 0 tables))
batches_are_inserts schema history tables all same = same_gets _ _ (λ n. tables_of_batches schema history all n ∙ by n (slice_get schema n) refl ∙ sym (inserts n)) where
  inserts : HaveRows schema (fold_lists schema (empty_lists schema) (map (row_change schema) (inserts_from 0 tables))) (λ n. rows_from 0 tables n)
  inserts = inserts_from_add schema (empty_lists schema) (λ n. []) 0 tables (empty_have_none schema)

  by : (n : ℕ) (found : Option Table) → slice_get schema n ≡ found
      → option_map (λ t. with_rows t [] (rows_in_batches n history)) found ≡ option_map (λ t. with_rows t [] (rows_from 0 tables n)) found
  by n None is = refl
  by n (Some t) is = ap (λ (rows : List (List Value)). Some (with_rows t [] rows)) (same n (slice_get_within schema n t is) ∙ sym (rows_from-at 0 tables n n (omega arith)))

-- ---- the same as tables of rows by key

-- lawful rows in batches leave the tables that their inserts make of none
pub batches_fold : FoldsAgree → EmptyListsHaveNoRows
    → (schema : List Table) (history : History) (tables : List (List (List Value))) → are_batches history ≡ true
    → ((n : ℕ) → n < length schema → rows_in_batches n history ≡ rows_in (slice_get tables n))
    → list_all (is_well_formed schema) (inserts_from 0 tables) ≡ true
    → (id : RowId) → look schema (tables_of schema history) id ≡ fold_changes no_rows (map (row_change schema) (inserts_from 0 tables)) id
batches_fold folds_law no_rows_law schema history tables all same formed id =
    ap (λ (lists : List (List (List Value))). look schema lists id) (batches_are_inserts schema history tables all same)
    ∙ (folds_law schema (empty_lists schema) (inserts_from 0 tables) (empty_are_clean no_rows_law schema).stand formed).give id
    ∙ ap (λ (start : Tables). fold_changes start (map (row_change schema) (inserts_from 0 tables)) id) none
  where
    none : look schema (empty_lists schema) ≡ no_rows
    none = λ i at. no_rows_law schema at i
