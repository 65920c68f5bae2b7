-- A well-formed change has no misfit exactly where it fits the tables.
use Rattle.std.proofs.Common.{◌≡◌, ◌≢◌, ℕ, Bool, true, false, ◌&&◌, ◌↔◌, not, List, [], ◌∷◌, Option, Some, None, refl, sym, ap, ◌∙◌, subst, inl, inr}
use Rattle.std.specs.List.{list_all, list_any}
use Rattle.std.specs.Prelude.{if◌then◌else◌, is_some, slice_get}
use Rattle.std.proofs.lemmas.Bool.{and_from, and_parts, false≢true, false_from_ne_true, not-true, not_from_false, or_cases, or_parts}
use Rattle.std.proofs.lemmas.Option.{none-some, same_Some}
use Rattle.voy_schema.specs.Rows.{counting_tuple, key_of, tuple_of}
use Rattle.voy_schema.specs.declared.table.Table.{Table}
use Rattle.voy_schema.specs.declared.table.UniqueKey.{UniqueKey}
use Rattle.voy_schema.specs.declared.value.Value.{Value}
use Rattle.voy_tables.proofs.DoneLemmas.{change_names}
use Rattle.voy_tables.proofs.LookLemmas.{row_with_key-behind, row_with_key-first, same_key-apart}
use Rattle.voy_tables.specs.MisfitLaws.{misfit_by-fits, misfit_by-none, unique_misfit-free, unique_misfit-none}
use Rattle.voy_tables.specs.SameLaws.{same_key-decides, same_tuple-decides}
use Rattle.voy_tables.proofs.TableLemmas.{are_tables-at, is_table-ascends}
use Rattle.voy_tables.specs.Changes.{RowChange, RowId, is_well_formed, row_change}
use Rattle.voy_tables.specs.Keys.{same_key, same_tuple}
use Rattle.voy_tables.specs.Lists.{is_taken, look, misfit_by, misfit_of, row_standing, row_with_key, rows_in, stands_elsewhere, unique_misfit}
use Rattle.voy_tables.specs.Standing.{are_tables, ascends, is_below}
use Rattle.voy_tables.specs.Tables.{Fits, tuple_in}
use Rattle.voy_tables.specs.declared.change.Change.{Change}

-- a row that was found has its key, and is among the rows
pub record IsFound (t : Table) (key : List (List ℕ)) (rows : List (List Value)) (row : List Value) : Type 0 where
  pub key_is : key_of t row ≡ key
  pub all : (p : List Value → Bool) → list_all p rows ≡ true → p row ≡ true
  pub any : (p : List Value → Bool) → list_any p rows ≡ false → p row ≡ false

is_found : (t : Table) (key : List (List ℕ)) (rows : List (List Value)) (row : List Value) → row_with_key t key rows ≡ Some row → IsFound t key rows row
is_found t key [] row found = absurd (none-some row found)
is_found t key (r ∷ rows) row found = by (same_key (key_of t r) key) refl found (is_found t key rows row)
  where
    by : (same : Bool) → same_key (key_of t r) key ≡ same → (if same then Some r else row_with_key t key rows) ≡ Some row
        → (row_with_key t key rows ≡ Some row → IsFound t key rows row) → IsFound t key (r ∷ rows) row
    by true e found rest =
        let here : r ≡ row = same_Some r row found in
        record {
          key_is = ap (key_of t) (sym here) ∙ (same_key-decides (key_of t r) key).0 e;
          all = λ p h. ap p (sym here) ∙ (and_parts (p r) (list_all p rows) h).0;
          any = λ p h. ap p (sym here) ∙ (or_parts (p r) (list_any p rows) h).0;
        }
    by false e found rest =
        let more = rest found in
        record {
          key_is = more.key_is;
          all = λ p h. more.all p (and_parts (p r) (list_all p rows) h).1;
          any = λ p h. more.any p (or_parts (p r) (list_any p rows) h).1;
        }

-- a row that passes is one that is found at its key
pub record Passes (t : Table) (p : List Value → Bool) (rows : List (List Value)) : Type 0 where
  pub row : List Value
  pub passes : p row ≡ true
  pub there : row_with_key t (key_of t row) rows ≡ Some row

passing : (t : Table) (p : List Value → Bool) (rows : List (List Value)) → ascends t rows ≡ true → list_any p rows ≡ true → Passes t p rows
passing t p [] up some = cc
passing t p (r ∷ rows) up some = elim (or_cases (p r) (list_any p rows) some) [
  | inl here ↦ record { row = r; passes = here; there = row_with_key-first t r rows }
  | inr later ↦
      let rest = passing t p rows (and_parts _ _ up).1 later in
      let found = is_found t (key_of t rest.row) rows rest.row rest.there in
      record { row = rest.row; passes = rest.passes; there = row_with_key-behind t r rest.row rows (found.all (is_below t r) (and_parts (list_all (is_below t r) rows) (ascends t rows) up).0) ∙ rest.there }
]

-- tuples that count and are the same
pub record Shares (a b : Option (List Value)) : Type 0 where
  pub values : List Value
  pub first : a ≡ Some values
  pub second : b ≡ Some values

shares : (a b : Option (List Value)) → is_some a ≡ true → same_tuple a b ≡ true → Shares a b
shares None b counts same = cc
shares (Some u) b counts same = record { values = u; first = refl; second = sym ((same_tuple-decides (Some u) b).0 same) }

same_tuple-shared : (a b : Option (List Value)) (values : List Value) → a ≡ Some values → b ≡ Some values → same_tuple a b ≡ true
same_tuple-shared a b values first second = (same_tuple-decides a b).1 (first ∙ sym second)

-- a tuple for a unique key of the table at this place
tuple_in-found : (schema : List Table) (table : ℕ) (t : Table) (unique : ℕ) (row : Option (List Value)) → slice_get schema table ≡ Some t
    → tuple_in schema table unique row ≡ tuple_of t unique row
unfolding tuple_in
tuple_in-found schema table t unique row found = rw found

tuple_of-found : (t : Table) (unique : ℕ) (u : UniqueKey) (row : Option (List Value)) → slice_get t.unique_keys unique ≡ Some u
    → tuple_of t unique row ≡ counting_tuple u row
unfolding tuple_of
tuple_of-found t unique u row found = rw found

pub record Counts (t : Table) (unique : ℕ) (row : Option (List Value)) (values : List Value) : Type 0 where
  pub key : UniqueKey
  pub there : slice_get t.unique_keys unique ≡ Some key
  pub tuple : counting_tuple key row ≡ Some values

tuple_of-some : (t : Table) (unique : ℕ) (row : Option (List Value)) (values : List Value) → tuple_of t unique row ≡ Some values → Counts t unique row values
unfolding tuple_of
tuple_of-some t unique row values some = by (slice_get t.unique_keys unique) refl
  where
    by : (found : Option UniqueKey) → slice_get t.unique_keys unique ≡ found → Counts t unique row values
    by None e = absurd (none-some values (rw e at some))
    by (Some u) e = record { key = u; there = e; tuple = sym (tuple_of-found t unique u row e) ∙ some }

misfit_found : (schema : List Table) (lists : List (List (List Value))) (c : RowChange) (t : Table) → slice_get schema c.row.table ≡ Some t
    → misfit_of schema c lists
    ≡ misfit_by c.before (row_with_key t c.row.key (rows_in (slice_get lists c.row.table))) (unique_misfit t c.row.key c.after (rows_in (slice_get lists c.row.table)))
misfit_found schema lists c t found = rw found

standing_found : (schema : List Table) (table : ℕ) (key : List (List ℕ)) (rows : List (List Value)) (t : Table) → slice_get schema table ≡ Some t
    → row_standing (slice_get schema table) key rows ≡ row_with_key t key rows
standing_found schema table key rows t found = ap (λ o. row_standing o key rows) found

-- no row of another key has a tuple that is not taken
not_taken : (t : Table) (key other : List (List ℕ)) (u : UniqueKey) (after : Option (List Value)) (rows : List (List Value)) (values : List Value)
    → other ≢ key → is_taken t key after rows u ≡ false → counting_tuple u after ≡ Some values → counting_tuple u (row_with_key t other rows) ≡ Some values → ⊥
not_taken t key other u after rows values apart free first second = by (row_with_key t other rows) refl second
  where
    by : (found : Option (List Value)) → row_with_key t other rows ≡ found → counting_tuple u found ≡ Some values → ⊥
    by None e second = none-some values second
    by (Some row) e second =
        let found = is_found t other rows row e in
        let other_key = same_key-apart (key_of t row) key (λ same. apart (sym found.key_is ∙ same)) in
        let takes = and_from _ _ (not_from_false _ other_key) (same_tuple-shared (counting_tuple u after) (counting_tuple u (Some row)) values first second) in
        let none : stands_elsewhere t key (counting_tuple u after) rows u ≡ false =
        sym (ap (λ o. is_some o && stands_elsewhere t key (counting_tuple u after) rows u) first) ∙ free in
        let free_of = found.any (λ r. not (same_key (key_of t r) key) && same_tuple (counting_tuple u after) (counting_tuple u (Some r))) none in
        false≢true (sym free_of ∙ takes)

-- where no row of another key has a tuple, it is not taken
free_where : (t : Table) (key : List (List ℕ)) (u : UniqueKey) (after : Option (List Value)) (rows : List (List Value)) → ascends t rows ≡ true
    → ((other : List (List ℕ)) (values : List Value) → other ≢ key → counting_tuple u after ≡ Some values → counting_tuple u (row_with_key t other rows) ≢ Some values)
    → is_taken t key after rows u ≡ false
free_where t key u after rows up apart = false_from_ne_true (is_taken t key after rows u) taken
  where
    taken : is_taken t key after rows u ≡ true → ⊥
    taken some =
        let both = and_parts (is_some (counting_tuple u after)) (stands_elsewhere t key (counting_tuple u after) rows u) some in
        let p = passing t (λ r. not (same_key (key_of t r) key) && same_tuple (counting_tuple u after) (counting_tuple u (Some r))) rows up both.1 in
        let parts = and_parts (not (same_key (key_of t p.row) key)) (same_tuple (counting_tuple u after) (counting_tuple u (Some p.row))) p.passes in
        let shared = shares (counting_tuple u after) (counting_tuple u (Some p.row)) both.0 parts.1 in
        let other_key : key_of t p.row ≢ key = λ e. false≢true (sym (not-true (same_key (key_of t p.row) key) parts.0) ∙ (same_key-decides (key_of t p.row) key).1 e) in
        apart (key_of t p.row) shared.values other_key shared.first (ap (counting_tuple u) p.there ∙ shared.second)

fits_where_none : (schema : List Table) (lists : List (List (List Value))) (c : RowChange) (t : Table) → slice_get schema c.row.table ≡ Some t
    → misfit_of schema c lists ≡ None → Fits schema c (look schema lists)
fits_where_none schema lists c t found none =
    let rows = rows_in (slice_get lists c.row.table) in
    let two = misfit_by-none c.before (row_with_key t c.row.key rows) (unique_misfit t c.row.key c.after rows) (sym (misfit_found schema lists c t found) ∙ none) in
    record {
      here = standing_found schema c.row.table c.row.key rows t found ∙ two.0;
      unique = λ q unique values same_table other after_has q_has.
          let counted = tuple_of-some t unique c.after values (sym (tuple_in-found schema c.row.table t unique c.after found) ∙ after_has) in
          let free = unique_misfit-none t c.row.key c.after rows two.1 unique counted.key counted.there in
          let at_it = subst (λ n. tuple_in schema n unique (row_standing (slice_get schema n) q.key (rows_in (slice_get lists n))) ≡ Some values) same_table q_has in
          let second = sym (tuple_of-found t unique counted.key (row_with_key t q.key rows) counted.there)
          ∙ ap (tuple_of t unique) (sym (standing_found schema c.row.table q.key rows t found))
          ∙ sym (tuple_in-found schema c.row.table t unique _ found) ∙ at_it in
          not_taken t c.row.key q.key counted.key c.after rows values (λ e. other (λ i. record { table = same_table i; key = e i })) free counted.tuple second;
    }

none_where_fits : (schema : List Table) (lists : List (List (List Value))) (c : RowChange) (t : Table) → slice_get schema c.row.table ≡ Some t
    → ascends t (rows_in (slice_get lists c.row.table)) ≡ true → Fits schema c (look schema lists) → misfit_of schema c lists ≡ None
none_where_fits schema lists c t found up fits =
    let rows = rows_in (slice_get lists c.row.table) in
    let there = sym (standing_found schema c.row.table c.row.key rows t found) ∙ fits.here in
    let free = unique_misfit-free t c.row.key c.after rows (λ unique u at. free_where t c.row.key u c.after rows up (λ other values apart first second.
    fits.unique (record { table = c.row.table; key = other }) unique values refl (λ e. apart (ap (λ (id : RowId). id.key) e))
    (tuple_in-found schema c.row.table t unique c.after found ∙ tuple_of-found t unique u c.after at ∙ first)
    (tuple_in-found schema c.row.table t unique _ found ∙ ap (tuple_of t unique) (standing_found schema c.row.table other rows t found)
    ∙ tuple_of-found t unique u (row_with_key t other rows) at ∙ second))) in
    misfit_found schema lists c t found ∙ ap (misfit_by c.before (row_with_key t c.row.key rows)) free ∙ misfit_by-fits c.before (row_with_key t c.row.key rows) there

pub none_exactly_where_it_fits : (schema : List Table) (lists : List (List (List Value))) (c : Change) → are_tables schema lists ≡ true → is_well_formed schema c ≡ true
    → (misfit_of schema (row_change schema c) lists ≡ None) ↔ Fits schema (row_change schema c) (look schema lists)
none_exactly_where_it_fits schema lists c stand well =
    let named = change_names schema c well in
    let change = row_change schema c in (
      fits_where_none schema lists change named.0 named.1.found,
      none_where_fits schema lists change named.0 named.1.found (is_table-ascends named.0 _ (are_tables-at schema lists change.row.table named.0 stand named.1.found)),
    )
