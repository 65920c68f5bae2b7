-- An object that is put together column by column has its columns by ascending name.
use Rattle.std.proofs.Common.{◌≡◌, ◌∙◌, ℕ, zero, suc, ◌+◌, ◌<◌, List, [], ◌∷◌, ◌++◌, drop, get_or, slice_set, take, true, Option, ap, arith, length, ltb-true, nat_lt, not, refl, slice_get, subst, sym}
use Rattle.std.proofs.lemmas.Bool.{and_parts}
use Rattle.std.proofs.lemmas.Map.Text.{is_eq-slice_cmp}
use Rattle.std.proofs.lemmas.Slice.Eq.{bytes_eq-Decides}
use Rattle.std.specs.Cmp.Lexicographic.{slice_cmp}
use Rattle.std.specs.List.{list_all}
use Rattle.std.specs.Option.{option_map_or}
use Rattle.std.specs.Ordering.{is_eq, match_ordering, nat_cmp}
use Rattle.std.specs.declared.cmp.Ordering.{Ordering}
use Rattle.std.specs.declared.cmp.Ordering.TheVariants.{Less, Equal, Greater}
use Rattle.serde_json.specs.Data.{Data, no_members, member, put, string}
use Rattle.voy_schema.specs.Lawful.{is_lawful_table}
use Rattle.voy_schema.specs.LawfulLaws.{table_parts}
use Rattle.voy_schema.specs.Rows.{has_lawful_values, is_lawful_row, is_null, text_of, value_at, value_or_null, values_at}
use Rattle.voy_schema.specs.Values.{is_lawful_value}
use Rattle.voy_schema.specs.declared.table.Column.{Column}
use Rattle.voy_schema.specs.declared.table.Table.{Table}
use Rattle.voy_schema.specs.declared.value.Value.{Value}
use Rattle.voy_schema.specs.declared.value.Value.TheVariants.{Null, Text}
use Rattle.voy_event.proofs.KeyLemmas.{column_there}
use Rattle.voy_event.specs.ByName.{key_order, members_at, name_at, row_order, value_in, with_all_from, with_place, with_places}
use Rattle.voy_event.specs.LineText.{value_data, with_columns, with_text, with_texts}

same_names : (a b : List ℕ) → slice_cmp nat_cmp a b ≡ Equal → a ≡ b
same_names a b is = (bytes_eq-Decides a b).0 (sym (is_eq-slice_cmp a b) ∙ ap is_eq is)

-- a place that goes in among places is a member that is put in
put_at : (cs : List Column) (f : ℕ → Data) (p : ℕ) (ps : List ℕ) → members_at cs f (with_place cs p ps) ≡ put (name_at cs p) (f p) (members_at cs f ps)
put_at cs f p [] = refl
put_at cs f p (q ∷ ps) = by_order (slice_cmp nat_cmp (name_at cs p) (name_at cs q)) refl (put_at cs f p ps) where
  by_order : (o : Ordering) → slice_cmp nat_cmp (name_at cs p) (name_at cs q) ≡ o → members_at cs f (with_place cs p ps) ≡ put (name_at cs p) (f p) (members_at cs f ps)
      → members_at cs f (match_ordering o (p ∷ q ∷ ps) (p ∷ ps) (q ∷ with_place cs p ps))
      ≡ match_ordering o (member (name_at cs p) (f p) (member (name_at cs q) (f q) (members_at cs f ps))) (member (name_at cs q) (f p) (members_at cs f ps))
      (member (name_at cs q) (f q) (put (name_at cs p) (f p) (members_at cs f ps)))
  by_order Less is later = refl
  by_order Equal is later = ap (λ (n : List ℕ). member n (f p) (members_at cs f ps)) (same_names (name_at cs p) (name_at cs q) is)
  by_order Greater is later = ap (member (name_at cs q) (f q)) later

-- ---- rows

first_at : {A : Type 0} (xs ys : List A) (k : ℕ) → ((j : ℕ) → slice_get xs (k + j) ≡ slice_get ys j) → slice_get xs k ≡ slice_get ys 0
first_at xs ys k same = let e : k + 0 ≡ k = omega arith in subst (λ (n : ℕ). slice_get xs n ≡ slice_get ys 0) e (same 0)

rest_at : {A : Type 0} (xs ys : List A) (y : A) (k : ℕ) → ((j : ℕ) → slice_get xs (k + j) ≡ slice_get (y ∷ ys) j) → (j : ℕ) → slice_get xs (suc k + j) ≡ slice_get ys j
rest_at xs ys y k same j = let e : k + suc j ≡ suc k + j = omega arith in subst (λ (n : ℕ). slice_get xs n ≡ slice_get ys j) e (same (suc j))

columns_by_name : (all : List Column) (row : List Value) (cs : List Column) (vs : List Value) (k : ℕ) (found : List ℕ) → has_lawful_values cs vs ≡ true
    → ((j : ℕ) → slice_get all (k + j) ≡ slice_get cs j) → ((j : ℕ) → slice_get row (k + j) ≡ slice_get vs j)
    → with_columns cs vs (members_at all (value_in row) found) ≡ members_at all (value_in row) (with_all_from all cs k found)
columns_by_name all row [] [] k found lawful there here = refl
columns_by_name all row [] (v ∷ vs) k found lawful there here = cc
columns_by_name all row (c ∷ cs) [] k found lawful there here = cc
columns_by_name all row (c ∷ cs) (v ∷ vs) k found lawful there here =
    let rest = (and_parts (is_lawful_value c.kind v) (has_lawful_values cs vs) lawful).1 in
    let name : name_at all k ≡ c.name = ap (λ (o : Option Column). option_map_or (λ (d : Column). d.name) o []) (first_at all (c ∷ cs) k there) in
    let value : value_in row k ≡ value_data v = ap (λ (o : Option Value). value_data (value_or_null o)) (first_at row (v ∷ vs) k here) in
    let ms = members_at all (value_in row) found in
    ap (λ (n : List ℕ). with_columns cs vs (put n (value_data v) ms)) (sym name)
    ∙ ap (λ (d : Data). with_columns cs vs (put (name_at all k) d ms)) (sym value)
    ∙ ap (with_columns cs vs) (sym (put_at all (value_in row) k found))
    ∙ columns_by_name all row cs vs (suc k) (with_place all k found) rest (rest_at all cs c k there) (rest_at row vs v k here)

from_front : {A : Type 0} (xs : List A) (j : ℕ) → slice_get xs (0 + j) ≡ slice_get xs j
from_front xs j = let e : j ≡ 0 + j = omega arith in subst (λ (n : ℕ). slice_get xs n ≡ slice_get xs j) e refl

pub row_by_name : (t : Table) (row : List Value) → is_lawful_row t row ≡ true
    → with_columns t.columns row no_members ≡ members_at t.columns (value_in row) (row_order t)
row_by_name t row lawful =
    columns_by_name t.columns row t.columns row 0 [] (and_parts _ _ lawful).0 (from_front t.columns) (from_front row)

-- ---- keys

text_there : (v : Value) → not (is_null v) ≡ true → string (text_of v) ≡ value_data v
text_there Null there = cc
text_there (Text t) there = refl

texts_by_name : (t : Table) (row : List Value) (places found : List ℕ) → list_all (λ place. nat_lt place (length t.columns)) places ≡ true
    → list_all (λ v. not (is_null v)) (values_at row places) ≡ true
    → with_texts t row places (members_at t.columns (value_in row) found) ≡ members_at t.columns (value_in row) (with_places t.columns places found)
texts_by_name t row [] found within whole = refl
texts_by_name t row (place ∷ places) found within whole =
    let inside = and_parts (nat_lt place (length t.columns)) (list_all (λ p. nat_lt p (length t.columns)) places) within in
    let values = and_parts (not (is_null (value_at row place))) (list_all (λ v. not (is_null v)) (values_at row places)) whole in
    let column = column_there t.columns place (ltb-true _ _ inside.0) in
    let text = text_of (value_at row place) in
    let ms = members_at t.columns (value_in row) found in
    let name : name_at t.columns place ≡ column.0.name = ap (λ (o : Option Column). option_map_or (λ (d : Column). d.name) o []) column.1 in
    ap (λ (o : Option Column). with_texts t row places (with_text o text ms)) column.1
    ∙ ap (λ (n : List ℕ). with_texts t row places (put n (string text) ms)) (sym name)
    ∙ ap (λ (d : Data). with_texts t row places (put (name_at t.columns place) d ms)) (text_there (value_at row place) values.0)
    ∙ ap (with_texts t row places) (sym (put_at t.columns (value_in row) place found))
    ∙ texts_by_name t row places (with_place t.columns place found) inside.1 values.1

pub key_by_name : (t : Table) (row : List Value) → is_lawful_table t ≡ true → is_lawful_row t row ≡ true
    → with_texts t row t.primary_key no_members ≡ members_at t.columns (value_in row) (key_order t)
key_by_name t row table lawful =
    let places = and_parts _ _ (table_parts t table).primary_key in
    let within = (and_parts _ _ places.0).1 in
    texts_by_name t row t.primary_key [] within (and_parts (has_lawful_values t.columns row) _ lawful).1

-- ---- the loops that put places in

-- a place that gives way to one of the same name
pub gives_way : (cs : List Column) (place there : ℕ) (order : List ℕ) (at : ℕ) → at < length order → get_or order at 0 ≡ there
    → slice_cmp nat_cmp (name_at cs place) (name_at cs there) ≡ Equal → take at order ++ with_place cs place (drop at order) ≡ slice_set order at place
gives_way cs place there [] at within is equal = absurd (omega arith)
gives_way cs place there (p ∷ order) zero within is equal =
    let here : slice_cmp nat_cmp (name_at cs place) (name_at cs p) ≡ Equal = subst (λ (q : ℕ). slice_cmp nat_cmp (name_at cs place) (name_at cs q) ≡ Equal) (sym is) equal in
    rw here refl
gives_way cs place there (p ∷ order) (suc at) within is equal = ap (λ (ps : List ℕ). p ∷ ps) (gives_way cs place there order at (omega arith) is equal)

-- the next column goes in
pub goes_in : (all cs : List Column) (k i : ℕ) (found : List ℕ) → i < length cs
    → with_all_from all (drop i cs) k found ≡ with_all_from all (drop (i + 1) cs) (k + 1) (with_place all k found)
goes_in all [] k i found within = absurd (omega arith)
goes_in all (c ∷ cs) k zero found within = let next : suc k ≡ k + 1 = omega arith in ap (λ (n : ℕ). with_all_from all cs n (with_place all k found)) next
goes_in all (c ∷ cs) k (suc i) found within =
    let next : suc (i + 1) ≡ suc i + 1 = omega arith in
    subst (λ (n : ℕ). with_all_from all (drop i cs) k found ≡ with_all_from all (drop n (c ∷ cs)) (k + 1) (with_place all k found)) next
    (goes_in all cs k i found (omega arith))
