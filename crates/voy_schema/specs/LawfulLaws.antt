-- What holds of the tables of a schema, drawn from the one test that they are lawful.
use Rattle.std.specs.Prelude.{◌≡◌, ℕ, zero, suc, ◌+◌, ◌<◌, ◌≤◌, Bool, true, false, ◌||◌, List, [], ◌∷◌, length, map, slice_get, nat_eq, nat_lt, Some, None}
use Rattle.std.specs.List.{All, list_all, list_any, position_from}
use Rattle.std.specs.Str.{bytes_eq}
use Rattle.std.proofs.Common.{refl, sym, ap, ◌∙◌, subst, cond, arith}
use Rattle.std.proofs.lemmas.Bool.{and_from, and_parts, cond-false, cond-true, leb-true, ltb-true, not-true, or_parts}
use Rattle.std.proofs.lemmas.Iterator.Adapters.{position_from-zero}
use Rattle.std.proofs.lemmas.List.Sums.{AllPass-from_list_all}
use Rattle.std.proofs.lemmas.Slice.Eq.{bytes_eq-Decides}
use Rattle.voy_schema.specs.Lawful.{has_same_names, is_distinct, is_lawful, is_lawful_key, is_lawful_table, is_name, is_named, place_of}
use Rattle.voy_schema.specs.declared.table.Column.{Column}
use Rattle.voy_schema.specs.declared.table.Table.{Table}
use Rattle.voy_schema.specs.declared.table.UniqueKey.{UniqueKey}

-- what a test of all items says of the item at a place
pub list_all-at : {A : Type 0} (p : A → Bool) (xs : List A) (at : ℕ) (x : A) → list_all p xs ≡ true → slice_get xs at ≡ Some x → p x ≡ true
list_all-at p [] at x all found = cc
list_all-at p (y ∷ xs) zero x all found = let same : y ≡ x = cc in subst (λ z. p z ≡ true) same (and_parts _ _ all).0
list_all-at p (y ∷ xs) (suc at) x all found = list_all-at p xs at x (and_parts _ _ all).1 found

-- a schema has 1 to 256 tables
pub table_count : (tables : List Table) → is_lawful tables ≡ true → (1 ≤ length tables) × (length tables ≤ 256)
table_count tables lawful =
    let counted = and_parts _ _ (and_parts _ _ (and_parts _ _ lawful).0).0 in
    (leb-true _ _ counted.0, leb-true _ _ counted.1)

-- each table of a schema is lawful
pub tables_are_lawful : (tables : List Table) → is_lawful tables ≡ true → list_all is_lawful_table tables ≡ true
tables_are_lawful tables lawful = (and_parts _ _ (and_parts _ _ lawful).0).1

pub table_is_lawful : (tables : List Table) (at : ℕ) (t : Table) → is_lawful tables ≡ true → slice_get tables at ≡ Some t → is_lawful_table t ≡ true
table_is_lawful tables at t lawful found = list_all-at is_lawful_table tables at t (tables_are_lawful tables lawful) found

-- no two tables of a schema have both names in common
pub tables_are_distinct : (tables : List Table) → is_lawful tables ≡ true → is_distinct has_same_names tables ≡ true
tables_are_distinct tables lawful = (and_parts _ _ lawful).1

-- what a lawful table keeps, part by part
pub record LawfulParts (t : Table) : Type 0 where
  pub schema_name : is_name t.schema_name ≡ true
  pub table_name : is_name t.table_name ≡ true
  pub has_columns : 1 ≤ length t.columns
  pub most_columns : length t.columns ≤ 64
  pub column_names : list_all (λ (c : Column). is_name c.name) t.columns ≡ true
  pub distinct_names : is_distinct bytes_eq (map (λ (c : Column). c.name) t.columns) ≡ true
  pub primary_key : is_lawful_key (length t.columns) t.primary_key ≡ true
  pub most_unique_keys : length t.unique_keys ≤ 8
  pub unique_keys : list_all (λ (k : UniqueKey). is_lawful_key (length t.columns) k.columns) t.unique_keys ≡ true

pub table_parts : (t : Table) → is_lawful_table t ≡ true → LawfulParts t
table_parts t lawful =
    let eight = and_parts _ _ lawful in
    let seven = and_parts _ _ eight.0 in
    let six = and_parts _ _ seven.0 in
    let five = and_parts _ _ six.0 in
    let four = and_parts _ _ five.0 in
    let three = and_parts _ _ four.0 in
    let two = and_parts _ _ three.0 in
    let one = and_parts _ _ two.0 in
    record {
      schema_name = one.0;
      table_name = one.1;
      has_columns = leb-true _ _ two.1;
      most_columns = leb-true _ _ three.1;
      column_names = four.1;
      distinct_names = five.1;
      primary_key = six.1;
      most_unique_keys = leb-true _ _ seven.1;
      unique_keys = eight.1;
    }

pub unique_key_is_lawful : (t : Table) (unique : ℕ) (key : UniqueKey) → is_lawful_table t ≡ true → slice_get t.unique_keys unique ≡ Some key → is_lawful_key (length t.columns) key.columns ≡ true
unique_key_is_lawful t unique key lawful found =
    list_all-at (λ (k : UniqueKey). is_lawful_key (length t.columns) k.columns) t.unique_keys unique key (table_parts t lawful).unique_keys found

-- what a lawful key keeps: at least one place, each of the table, none twice
pub key_has_places : (width : ℕ) (places : List ℕ) → is_lawful_key width places ≡ true → 1 ≤ length places
key_has_places width places lawful = leb-true _ _ (and_parts _ _ (and_parts _ _ lawful).0).0

pub key_places_are_within : (width : ℕ) (places : List ℕ) → is_lawful_key width places ≡ true → All (λ place. place < width) places
key_places_are_within width places lawful k d within =
    ltb-true _ _ (AllPass-from_list_all (λ place. nat_lt place width) places (and_parts _ _ (and_parts _ _ lawful).0).1 k d within)

pub key_places_are_distinct : (width : ℕ) (places : List ℕ) → is_lawful_key width places ≡ true → is_distinct nat_eq places ≡ true
key_places_are_distinct width places lawful = (and_parts _ _ lawful).1

-- ---- the place that names are found at

-- the test of a name holds of the name itself
same_text : (s : List ℕ) → bytes_eq s s ≡ true
same_text s = (bytes_eq-Decides s s).1 refl

-- no item has what the item at a place has not
none_at : {A : Type 0} (test : A → Bool) (xs : List A) (at : ℕ) (x : A) → list_any test xs ≡ false → slice_get xs at ≡ Some x → test x ≡ false
none_at test [] at x none found = cc
none_at test (y ∷ xs) zero x none found = let same : y ≡ x = cc in subst (λ z. test z ≡ false) same (or_parts _ _ none).0
none_at test (y ∷ xs) (suc at) x none found = none_at test xs at x (or_parts _ _ none).1 found

found_from : (schema_name table_name : List ℕ) (tables : List Table) (from place : ℕ) → position_from (is_named schema_name table_name) from tables ≡ Some place
    → (at : ℕ) × (t : Table) × (place ≡ from + at) × (slice_get tables at ≡ Some t) × (is_named schema_name table_name t ≡ true)
found_from schema_name table_name [] from place found = cc
found_from schema_name table_name (t ∷ tables) from place found = by_test (is_named schema_name table_name t) refl found (found_from schema_name table_name tables (from + 1) place) where
  by_test : (b : Bool) → is_named schema_name table_name t ≡ b → cond b (Some from) (position_from (is_named schema_name table_name) (from + 1) tables) ≡ Some place
      → (position_from (is_named schema_name table_name) (from + 1) tables ≡ Some place
      → (at : ℕ) × (u : Table) × (place ≡ from + 1 + at) × (slice_get tables at ≡ Some u) × (is_named schema_name table_name u ≡ true))
      → (at : ℕ) × (u : Table) × (place ≡ from + at) × (slice_get (t ∷ tables) at ≡ Some u) × (is_named schema_name table_name u ≡ true)
  by_test true named here behind = let same : from ≡ place = cc in (0, t, omega arith, refl, named)
  by_test false other there behind = let more = behind there in (suc more.0, more.1, omega arith, more.3, more.4)

-- a table stands at the place that its names are found at, and has them
pub place_of-some : (schema_name table_name : List ℕ) (tables : List Table) (place : ℕ) → place_of schema_name table_name tables ≡ Some place
    → (t : Table) × (slice_get tables place ≡ Some t) × (is_named schema_name table_name t ≡ true)
place_of-some schema_name table_name tables place found =
    let at_place = found_from schema_name table_name tables 0 place (sym (position_from-zero (is_named schema_name table_name) tables) ∙ found) in
    let same : at_place.0 ≡ place = omega arith in
    (at_place.1, subst (λ k. slice_get tables k ≡ Some at_place.1) same at_place.3, at_place.4)

none_from : (schema_name table_name : List ℕ) (tables : List Table) (from : ℕ) → position_from (is_named schema_name table_name) from tables ≡ None
    → list_any (is_named schema_name table_name) tables ≡ false
none_from schema_name table_name [] from none = refl
none_from schema_name table_name (t ∷ tables) from none = by_test (is_named schema_name table_name t) none (none_from schema_name table_name tables (from + 1)) where
  by_test : (b : Bool) → cond b (Some from) (position_from (is_named schema_name table_name) (from + 1) tables) ≡ None
      → (position_from (is_named schema_name table_name) (from + 1) tables ≡ None → list_any (is_named schema_name table_name) tables ≡ false)
      → (b || list_any (is_named schema_name table_name) tables) ≡ false
  by_test true found behind = cc
  by_test false rest behind = behind rest

-- names that are found nowhere are those of no table
pub place_of-none : (schema_name table_name : List ℕ) (tables : List Table) → place_of schema_name table_name tables ≡ None
    → list_any (is_named schema_name table_name) tables ≡ false
place_of-none schema_name table_name tables none =
    none_from schema_name table_name tables 0 (sym (position_from-zero (is_named schema_name table_name) tables) ∙ none)

at_from : (tables : List Table) (from at : ℕ) (t : Table) → is_distinct has_same_names tables ≡ true → slice_get tables at ≡ Some t
    → position_from (is_named t.schema_name t.table_name) from tables ≡ Some (from + at)
at_from [] from at t distinct found = cc
at_from (a ∷ tables) from zero t distinct found =
    let same : a ≡ t = cc in
    let named = and_from _ _ (same_text t.schema_name) (same_text t.table_name) in
    subst (λ u. position_from (is_named t.schema_name t.table_name) from (u ∷ tables) ≡ Some (from + 0)) (sym same)
    (cond-true (is_named t.schema_name t.table_name t) (Some from) _ named ∙ ap Some (omega arith))
at_from (a ∷ tables) from (suc at) t distinct found =
    let differ = and_parts _ _ distinct in
    let other = none_at (has_same_names a) tables at t (not-true _ differ.0) found in
    cond-false (is_named t.schema_name t.table_name a) (Some from) _ other ∙ at_from tables (from + 1) at t differ.1 found ∙ ap Some (omega arith)

-- each table of a schema is found by its names
pub place_of-at : (tables : List Table) (place : ℕ) (t : Table) → is_lawful tables ≡ true → slice_get tables place ≡ Some t
    → place_of t.schema_name t.table_name tables ≡ Some place
place_of-at tables place t lawful found =
    position_from-zero (is_named t.schema_name t.table_name) tables ∙ at_from tables 0 place t (tables_are_distinct tables lawful) found ∙ ap Some (omega arith)
