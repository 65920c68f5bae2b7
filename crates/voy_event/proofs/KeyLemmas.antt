-- The key of a row, as an object, agrees with that row and with each row of the same key.
use Rattle.std.proofs.Common.{◌≡◌, ◌∙◌, ℕ, zero, suc, ◌<◌, List, [], ◌∷◌, Bool, true, false, Option, Some, None, ap, arith, length, ltb-true, map, nat_lt, not, option_and_then, refl, slice_get, sym}
use Rattle.std.proofs.lemmas.Bool.{and_from, and_parts, eqb-false, not-true, or_parts}
use Rattle.std.proofs.lemmas.Slice.Eq.{bytes_eq-Decides}
use Rattle.std.specs.List.{list_all, list_any}
use Rattle.std.specs.Option.{option_map_or}
use Rattle.std.specs.Prelude.{nat_eq}
use Rattle.std.specs.Str.{bytes_eq}
use Rattle.serde_json.proofs.Views.{get_member-put, get_member-put_other}
use Rattle.serde_json.specs.Data.{Data, object, string, Members, no_members, put}
use Rattle.serde_json.specs.Find.{as_str, get_member}
use Rattle.voy_json.specs.Document.{names_of_members}
use Rattle.voy_schema.specs.Lawful.{is_distinct}
use Rattle.voy_schema.specs.Rows.{text_of, value_at, values_at}
use Rattle.voy_schema.specs.declared.table.Column.{Column}
use Rattle.voy_schema.specs.declared.table.Table.{Table}
use Rattle.voy_schema.specs.declared.value.Value.{Value}
use Rattle.voy_event.proofs.MemberLemmas.{all_weaker, differ, is_column-at, name_of, names_of-put, or_first, or_second, same_text}
use Rattle.voy_event.specs.Fields.{agrees_at, is_column, is_key_column, is_name_at}
use Rattle.voy_event.specs.LineText.{with_text, with_texts}
use Rattle.voy_json.specs.Document.{text_at}

-- ---- columns at two places have two names

none_named : (name : List ℕ) (cs : List Column) (place : ℕ) (c : Column) → list_any (bytes_eq name) (map name_of cs) ≡ false → slice_get cs place ≡ Some c → name ≡ c.name → ⊥
none_named name [] place c none found same = cc
none_named name (x ∷ cs) zero c none found same =
    let here : x ≡ c = cc in
    differ name x.name (or_parts (bytes_eq name x.name) (list_any (bytes_eq name) (map name_of cs)) none).0 (same ∙ ap name_of (sym here))
none_named name (x ∷ cs) (suc place) c none found same =
    none_named name cs place c (or_parts (bytes_eq name x.name) (list_any (bytes_eq name) (map name_of cs)) none).1 found same

one_place : (cs : List Column) (p q : ℕ) (c d : Column) → is_distinct bytes_eq (map name_of cs) ≡ true → slice_get cs p ≡ Some c → slice_get cs q ≡ Some d → c.name ≡ d.name → p ≡ q
one_place [] p q c d distinct first second same = cc
one_place (x ∷ cs) zero zero c d distinct first second same = refl
one_place (x ∷ cs) zero (suc q) c d distinct first second same =
    let none = not-true _ (and_parts (not (list_any (bytes_eq x.name) (map name_of cs))) (is_distinct bytes_eq (map name_of cs)) distinct).0 in
    let here : x ≡ c = cc in
    absurd (none_named x.name cs q d none second (ap name_of here ∙ same))
one_place (x ∷ cs) (suc p) zero c d distinct first second same =
    let none = not-true _ (and_parts (not (list_any (bytes_eq x.name) (map name_of cs))) (is_distinct bytes_eq (map name_of cs)) distinct).0 in
    let here : x ≡ d = cc in
    absurd (none_named x.name cs p c none first (ap name_of here ∙ sym same))
one_place (x ∷ cs) (suc p) (suc q) c d distinct first second same =
    ap suc (one_place cs p q c d (and_parts (not (list_any (bytes_eq x.name) (map name_of cs))) (is_distinct bytes_eq (map name_of cs)) distinct).1 first second same)

named_here : (name : List ℕ) (o : Option Column) → option_map_or (λ (c : Column). bytes_eq name c.name) o false ≡ true → (c : Column) × (o ≡ Some c) × (name ≡ c.name)
named_here name None named = cc
named_here name (Some c) named = (c, refl, (bytes_eq-Decides name c.name).0 named)

is_other : (b : Bool) → (b ≡ true → ⊥) → b ≡ false
is_other true never = absurd (never refl)
is_other false never = refl

-- no other place has the name of the column at this one
others_differ : (t : Table) (place : ℕ) (c : Column) (places : List ℕ) → is_distinct bytes_eq (map name_of t.columns) ≡ true
    → slice_get t.columns place ≡ Some c → list_any (nat_eq place) places ≡ false → list_any (is_name_at t c.name) places ≡ false
others_differ t place c [] distinct found other = refl
others_differ t place c (p ∷ places) distinct found other =
    let parts = or_parts (nat_eq place p) (list_any (nat_eq place) places) other in
    let here = is_other (is_name_at t c.name p) (λ named.
    let there = named_here c.name (slice_get t.columns p) named in
    eqb-false place p parts.0 (one_place t.columns place p c there.0 distinct found there.1 there.2)) in
    rw here (others_differ t place c places distinct found parts.1)

-- ---- the text of a key column

text_kept : (name : List ℕ) (o : Option Column) (text : List ℕ) (ms : Members) → option_map_or (λ (c : Column). bytes_eq name c.name) o false ≡ false
    → get_member name (with_text o text ms) ≡ get_member name ms
text_kept name None text ms other = refl
text_kept name (Some c) text ms other = get_member-put_other name c.name (string text) ms (differ name c.name other)

texts_kept : (t : Table) (row : List Value) (name : List ℕ) (places : List ℕ) (ms : Members) → list_any (is_name_at t name) places ≡ false
    → get_member name (with_texts t row places ms) ≡ get_member name ms
texts_kept t row name [] ms other = refl
texts_kept t row name (place ∷ places) ms other =
    let parts = or_parts (is_name_at t name place) (list_any (is_name_at t name) places) other in
    texts_kept t row name places (with_text (slice_get t.columns place) (text_of (value_at row place)) ms) parts.1
    ∙ text_kept name (slice_get t.columns place) (text_of (value_at row place)) ms parts.0

pub column_there : (cs : List Column) (place : ℕ) → place < length cs → (c : Column) × (slice_get cs place ≡ Some c)
column_there [] place within = absurd (omega arith)
column_there (c ∷ cs) zero within = (c, refl)
column_there (c ∷ cs) (suc place) within = column_there cs place (omega arith)

text_agrees : (text : List ℕ) (o : Option Data) → o ≡ Some (string text) → option_map_or (bytes_eq text) (option_and_then as_str o) false ≡ true
text_agrees text o found = rw found (same_text text)

-- the key made of a row has its text in each key column
pub agrees-with_texts : (t : Table) (row : List Value) (places : List ℕ) (ms : Members) → is_distinct bytes_eq (map name_of t.columns) ≡ true
    → is_distinct nat_eq places ≡ true → list_all (λ place. nat_lt place (length t.columns)) places ≡ true
    → list_all (agrees_at t (object (with_texts t row places ms)) row) places ≡ true
agrees-with_texts t row [] ms distinct once within = refl
agrees-with_texts t row (place ∷ places) ms distinct once within =
    let apart = and_parts (not (list_any (nat_eq place) places)) (is_distinct nat_eq places) once in
    let inside = and_parts (nat_lt place (length t.columns)) (list_all (λ p. nat_lt p (length t.columns)) places) within in
    let column = column_there t.columns place (ltb-true _ _ inside.0) in
    let c = column.0 in
    let text = text_of (value_at row place) in
    let members = with_text (slice_get t.columns place) text ms in
    let put_in : members ≡ put c.name (string text) ms = ap (λ o. with_text o text ms) column.1 in
    let found : get_member c.name (with_texts t row places members) ≡ Some (string text) =
    texts_kept t row c.name places members (others_differ t place c places distinct column.1 (not-true _ apart.0))
    ∙ ap (get_member c.name) put_in ∙ get_member-put c.name (string text) ms in
    let here : agrees_at t (object (with_texts t row places members)) row place ≡ true =
    ap (λ o. option_map_or (λ (x : Column). option_map_or (bytes_eq text) (text_at x.name (object (with_texts t row places members))) false) o false) column.1
    ∙ text_agrees text (get_member c.name (with_texts t row places members)) found in
    and_from _ _ here (agrees-with_texts t row places members distinct apart.1 inside.1)

agrees_alike : (t : Table) (key : Data) (before after : List Value) (place : ℕ) → text_of (value_at before place) ≡ text_of (value_at after place)
    → agrees_at t key before place ≡ agrees_at t key after place
agrees_alike t key before after place same =
    ap (λ (text : List ℕ). option_map_or (λ (c : Column). option_map_or (bytes_eq text) (text_at c.name key) false) (slice_get t.columns place) false) same

-- a key that agrees with a row agrees with each row of the same key
pub agrees-same_key : (t : Table) (key : Data) (before after : List Value) (places : List ℕ)
    → map text_of (values_at before places) ≡ map text_of (values_at after places)
    → list_all (agrees_at t key before) places ≡ true → list_all (agrees_at t key after) places ≡ true
agrees-same_key t key before after [] same agrees = refl
agrees-same_key t key before after (place ∷ places) same agrees =
    let parts = and_parts (agrees_at t key before place) (list_all (agrees_at t key before) places) agrees in
    let here : text_of (value_at before place) ≡ text_of (value_at after place) = cc in
    let rest : map text_of (values_at before places) ≡ map text_of (values_at after places) = cc in
    and_from _ _ (sym (agrees_alike t key before after place here) ∙ parts.0) (agrees-same_key t key before after places rest parts.1)

-- ---- the names of a key

-- the column at this place, if there is one, has a name that passes
abbrev name_passes : (List ℕ → Bool) → Table → ℕ → Bool
name_passes p t place = option_map_or (λ (c : Column). p c.name) (slice_get t.columns place) true

name_put : (p : List ℕ → Bool) (o : Option Column) (text : List ℕ) (ms : Members) → option_map_or (λ (c : Column). p c.name) o true ≡ true
    → list_all p (names_of_members ms) ≡ true → list_all p (names_of_members (with_text o text ms)) ≡ true
name_put p None text ms passes all = all
name_put p (Some c) text ms passes all = names_of-put p c.name (string text) ms passes all

names_of-with_texts : (p : List ℕ → Bool) (t : Table) (row : List Value) (places : List ℕ) (ms : Members) → list_all (name_passes p t) places ≡ true
    → list_all p (names_of_members ms) ≡ true → list_all p (names_of_members (with_texts t row places ms)) ≡ true
names_of-with_texts p t row [] ms passes all = all
names_of-with_texts p t row (place ∷ places) ms passes all =
    let parts = and_parts (name_passes p t place) (list_all (name_passes p t) places) passes in
    names_of-with_texts p t row places (with_text (slice_get t.columns place) (text_of (value_at row place)) ms) parts.1
    (name_put p (slice_get t.columns place) (text_of (value_at row place)) ms parts.0 all)

known_at : (t : Table) (place : ℕ) (o : Option Column) → slice_get t.columns place ≡ o → option_map_or (λ (c : Column). is_column t c.name) o true ≡ true
known_at t place None is = refl
known_at t place (Some c) is = is_column-at t place c is

places_are_known : (t : Table) (places : List ℕ) → list_all (name_passes (is_column t) t) places ≡ true
places_are_known t [] = refl
places_are_known t (place ∷ places) = and_from _ _ (known_at t place (slice_get t.columns place) refl) (places_are_known t places)

-- the columns of a key are columns of the table
pub key_names_are_known : (t : Table) (row : List Value) → list_all (is_column t) (names_of_members (with_texts t row t.primary_key no_members)) ≡ true
key_names_are_known t row = names_of-with_texts (is_column t) t row t.primary_key no_members (places_are_known t t.primary_key) refl

named_itself : (t : Table) (place : ℕ) (places : List ℕ) (o : Option Column) → slice_get t.columns place ≡ o
    → option_map_or (λ (c : Column). list_any (is_name_at t c.name) (place ∷ places)) o true ≡ true
named_itself t place places None is = refl
named_itself t place places (Some c) is =
    or_first (is_name_at t c.name place) (list_any (is_name_at t c.name) places)
    (ap (λ o. option_map_or (λ (d : Column). bytes_eq c.name d.name) o false) is ∙ same_text c.name)

named_more : (t : Table) (place : ℕ) (places : List ℕ) (o : Option Column) → option_map_or (λ (c : Column). list_any (is_name_at t c.name) places) o true ≡ true
    → option_map_or (λ (c : Column). list_any (is_name_at t c.name) (place ∷ places)) o true ≡ true
named_more t place places None passes = refl
named_more t place places (Some c) passes = or_second (is_name_at t c.name place) (list_any (is_name_at t c.name) places) passes

each_named : (t : Table) (places : List ℕ) → list_all (name_passes (λ name. list_any (is_name_at t name) places) t) places ≡ true
each_named t [] = refl
each_named t (place ∷ places) =
    and_from _ _ (named_itself t place places (slice_get t.columns place) refl)
    (all_weaker (name_passes (λ name. list_any (is_name_at t name) places) t) (name_passes (λ name. list_any (is_name_at t name) (place ∷ places)) t) places
    (λ p passes. named_more t place places (slice_get t.columns p) passes) (each_named t places))

-- a key has no name but those of the primary key's columns
pub key_names_are_of_key : (t : Table) (row : List Value) → list_all (is_key_column t) (names_of_members (with_texts t row t.primary_key no_members)) ≡ true
key_names_are_of_key t row = names_of-with_texts (is_key_column t) t row t.primary_key no_members (each_named t t.primary_key) refl
