-- What is found in an object of column values, and which names it has.
use Rattle.std.proofs.Common.{◌≡◌, ◌∙◌, ℕ, zero, suc, List, [], ◌∷◌, Bool, true, false, Option, Some, ap, map, not, option_and_then, refl, slice_get, subst}
use Rattle.std.proofs.lemmas.Bool.{and_from, and_parts, not-true, or_parts}
use Rattle.std.proofs.lemmas.Bool.Decides.{not_from_Decides}
use Rattle.std.proofs.lemmas.Slice.Eq.{bytes_eq-Decides}
use Rattle.std.specs.Cmp.Lexicographic.{slice_cmp}
use Rattle.std.specs.List.{list_all, list_any}
use Rattle.std.specs.Ordering.{match_ordering, nat_cmp}
use Rattle.std.specs.Prelude.{◌||◌}
use Rattle.std.specs.Str.{bytes_eq}
use Rattle.std.specs.declared.cmp.Ordering.{Ordering}
use Rattle.std.specs.declared.cmp.Ordering.TheVariants.{Less, Equal, Greater}
use Rattle.serde_json.proofs.Views.{get_member-put, get_member-put_other}
use Rattle.serde_json.specs.Data.{Data, object, Members, no_members, member, put}
use Rattle.serde_json.specs.Find.{get_member}
use Rattle.voy_json.specs.Document.{names_of_members}
use Rattle.voy_schema.specs.Lawful.{is_distinct}
use Rattle.voy_schema.specs.Rows.{has_lawful_values}
use Rattle.voy_schema.specs.Values.{is_lawful_value}
use Rattle.voy_schema.specs.declared.table.Column.{Column}
use Rattle.voy_schema.specs.declared.table.Table.{Table}
use Rattle.voy_schema.specs.declared.value.Value.{Value}
use Rattle.voy_schema.specs.declared.value.Value.TheVariants.{Null, Text}
use Rattle.voy_event.specs.Fields.{is_column, row_of, value_of}
use Rattle.voy_schema.specs.Parts.{in_front}
use Rattle.voy_event.specs.LineText.{value_data, with_columns}

pub same_text : (s : List ℕ) → bytes_eq s s ≡ true
same_text s = (bytes_eq-Decides s s).1 refl

pub differ : (s t : List ℕ) → bytes_eq s t ≡ false → s ≡ t → ⊥
differ s t other = not_from_Decides (bytes_eq s t) (bytes_eq-Decides s t) other

-- ---- a row of column values

abbrev pub name_of : Column → List ℕ
name_of c = c.name

-- a name that no column has is found as it was
kept : (name : List ℕ) (cs : List Column) (row : List Value) (ms : Members) → list_any (bytes_eq name) (map name_of cs) ≡ false
    → get_member name (with_columns cs row ms) ≡ get_member name ms
kept name [] row ms other = refl
kept name (c ∷ cs) [] ms other = refl
kept name (c ∷ cs) (v ∷ vs) ms other =
    let parts = or_parts (bytes_eq name c.name) (list_any (bytes_eq name) (map name_of cs)) other in
    kept name cs vs (put c.name (value_data v) ms) parts.1 ∙ get_member-put_other name c.name (value_data v) ms (differ name c.name parts.0)

value_of-value_data : (v : Value) → value_of (value_data v) ≡ Some v
value_of-value_data Null = refl
value_of-value_data (Text t) = refl

value_found : (v : Value) (o : Option Data) → o ≡ Some (value_data v) → option_and_then value_of o ≡ Some v
value_found v o found = ap (option_and_then value_of) found ∙ value_of-value_data v

-- the row is read from its object
pub row_of-with_columns : (cs : List Column) (row : List Value) (ms : Members) → is_distinct bytes_eq (map name_of cs) ≡ true
    → has_lawful_values cs row ≡ true → row_of cs (object (with_columns cs row ms)) ≡ Some row
row_of-with_columns [] [] ms distinct lawful = refl
row_of-with_columns [] (v ∷ vs) ms distinct lawful = cc
row_of-with_columns (c ∷ cs) [] ms distinct lawful = cc
row_of-with_columns (c ∷ cs) (v ∷ vs) ms distinct lawful =
    let parts = and_parts (not (list_any (bytes_eq c.name) (map name_of cs))) (is_distinct bytes_eq (map name_of cs)) distinct in
    let rest = (and_parts (is_lawful_value c.kind v) (has_lawful_values cs vs) lawful).1 in
    let members = put c.name (value_data v) ms in
    let here = kept c.name cs vs members (not-true _ parts.0) ∙ get_member-put c.name (value_data v) ms in
    ap (λ o. in_front o (row_of cs (object (with_columns cs vs members)))) (value_found v (get_member c.name (with_columns cs vs members)) here)
    ∙ ap (in_front (Some v)) (row_of-with_columns cs vs members parts.1 rest)

-- ---- names

pub names_of-put : (p : List ℕ → Bool) (k : List ℕ) (d : Data) (ms : Members) → p k ≡ true → list_all p (names_of_members ms) ≡ true
    → list_all p (names_of_members (put k d ms)) ≡ true
names_of-put p k d no_members named all = and_from (p k) true named refl
names_of-put p k d (member l e ms) named all =
    let parts = and_parts (p l) (list_all p (names_of_members ms)) all in
    by_order (slice_cmp nat_cmp k l) (names_of-put p k d ms named parts.1) where
      by_order : (o : Ordering) → list_all p (names_of_members (put k d ms)) ≡ true
          → list_all p (names_of_members (match_ordering o (member k d (member l e ms)) (member l d ms) (member l e (put k d ms)))) ≡ true
      by_order Less later = and_from (p k) (list_all p (names_of_members (member l e ms))) named all
      by_order Equal later = all
      by_order Greater later = and_from (p l) (list_all p (names_of_members (put k d ms))) (and_parts (p l) (list_all p (names_of_members ms)) all).0 later

pub names_of-with_columns : (p : List ℕ → Bool) (cs : List Column) (row : List Value) (ms : Members) → list_all (λ (c : Column). p c.name) cs ≡ true
    → list_all p (names_of_members ms) ≡ true → list_all p (names_of_members (with_columns cs row ms)) ≡ true
names_of-with_columns p [] row ms named all = all
names_of-with_columns p (c ∷ cs) [] ms named all = all
names_of-with_columns p (c ∷ cs) (v ∷ vs) ms named all =
    let parts = and_parts (p c.name) (list_all (λ (d : Column). p d.name) cs) named in
    names_of-with_columns p cs vs (put c.name (value_data v) ms) parts.1 (names_of-put p c.name (value_data v) ms parts.0 all)

pub all_weaker : {A : Type 0} (p q : A → Bool) (xs : List A) → ((x : A) → p x ≡ true → q x ≡ true) → list_all p xs ≡ true → list_all q xs ≡ true
all_weaker p q [] weaker all = refl
all_weaker p q (x ∷ xs) weaker all =
    let parts = and_parts (p x) (list_all p xs) all in
    and_from (q x) (list_all q xs) (weaker x parts.0) (all_weaker p q xs weaker parts.1)

pub or_second : (a b : Bool) → b ≡ true → (a || b) ≡ true
or_second true b second = refl
or_second false b second = second

pub or_first : (a b : Bool) → a ≡ true → (a || b) ≡ true
or_first true b first = refl
or_first false b first = cc

each_among : (cs : List Column) → list_all (λ (c : Column). list_any (λ (d : Column). bytes_eq c.name d.name) cs) cs ≡ true
each_among [] = refl
each_among (c ∷ cs) =
    and_from (bytes_eq c.name c.name || list_any (λ (d : Column). bytes_eq c.name d.name) cs) _ (or_first _ _ (same_text c.name))
    (all_weaker (λ (x : Column). list_any (λ (d : Column). bytes_eq x.name d.name) cs)
    (λ (x : Column). bytes_eq x.name c.name || list_any (λ (d : Column). bytes_eq x.name d.name) cs) cs
    (λ x among. or_second (bytes_eq x.name c.name) _ among) (each_among cs))

-- each column of a table is one
pub columns_are_known : (t : Table) → list_all (λ (c : Column). is_column t c.name) t.columns ≡ true
columns_are_known t = each_among t.columns

any_at : {A : Type 0} (p : A → Bool) (xs : List A) (at : ℕ) (x : A) → slice_get xs at ≡ Some x → p x ≡ true → list_any p xs ≡ true
any_at p [] at x found passes = cc
any_at p (y ∷ xs) zero x found passes = let same : x ≡ y = cc in or_first (p y) (list_any p xs) (subst (λ z. p z ≡ true) same passes)
any_at p (y ∷ xs) (suc at) x found passes = or_second (p y) (list_any p xs) (any_at p xs at x found passes)

-- a column at a place is one of the table
pub is_column-at : (t : Table) (place : ℕ) (c : Column) → slice_get t.columns place ≡ Some c → is_column t c.name ≡ true
is_column-at t place c found = any_at (λ (d : Column). bytes_eq c.name d.name) t.columns place c found (same_text c.name)
