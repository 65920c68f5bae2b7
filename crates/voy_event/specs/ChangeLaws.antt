-- What a reading of a line's change gives: rows that are lawful for the table that the line names.
use Rattle.std.specs.Prelude.{◌≡◌, ℕ, Bool, true, false, List, [], ◌∷◌, ◌&&◌, Option, Some, None, Result, Ok, Err, codes, map, not, option_and_then, option_map, slice_get, if◌then◌else◌, refl}
use Rattle.std.specs.List.{list_all}
use Rattle.std.specs.Option.{option_map_or}
use Rattle.std.specs.Str.{bytes_eq}
use Rattle.std.proofs.Common.{ap, sym, subst, ◌∙◌}
use Rattle.std.proofs.lemmas.Bool.{and_from, and_parts}
use Rattle.std.proofs.lemmas.Cmp.{nat_list_eq_equiv, lists_equiv}
use Rattle.std.proofs.lemmas.Slice.Eq.{bytes_eq-Decides}
use Rattle.serde_json.specs.Data.{Data}
use Rattle.serde_json.specs.Find.{get}
use Rattle.voy_json.specs.Document.{has_names, has_only_names}
use Rattle.voy_schema.specs.Lawful.{place_of}
use Rattle.voy_schema.specs.Rows.{is_lawful_row, key_of, text_of, value_at, values_at}
use Rattle.voy_schema.specs.declared.table.Column.{Column}
use Rattle.voy_schema.specs.declared.table.Table.{Table}
use Rattle.voy_schema.specs.declared.value.Value.{Value}
use Rattle.voy_tables.specs.Changes.{is_row_of, is_well_formed}
use Rattle.voy_tables.specs.Keys.{same_key}
use Rattle.voy_tables.specs.declared.change.Change.{Change}
use Rattle.voy_tables.specs.declared.change.Change.TheVariants as change
use Rattle.voy_event.specs.ChangeLine.{PlacedTable, change_of, has_long_row, placed, table_named}
use Rattle.voy_event.specs.InTurn.{known_in_turn, named_in_turn, table_in_turn, within_limit}
use Rattle.voy_event.specs.Fields.{agrees_at, is_key_of_row, only_if, row_at, row_of, row_with_key}
use Rattle.voy_event.specs.LawfulEvent.{IsLawfulChange}
use Rattle.voy_json.specs.Document.{text_at}
use Rattle.voy_event.specs.declared.line_error.LineWhy.{LineWhy}
use Rattle.voy_event.specs.declared.line_error.LineWhy.TheVariants as why
use Rattle.voy_event.specs.declared.words.Op.{Op}
use Rattle.voy_event.specs.declared.words.Op.TheVariants.{Insert, Update, Delete}

-- ---- tests in front of a reading

-- a reading that is behind a refusal's test is what was read
pub past_test : {A : Type 0} (b : Bool) (cause : LineWhy) (r : Result A LineWhy) (a : A) → (if b then Err cause else r) ≡ Ok a → r ≡ Ok a
past_test true cause r a read = cc
past_test false cause r a read = read

-- the same where the refusal stands last
pub before_refusal : {A : Type 0} (b : Bool) (cause : LineWhy) (r : Result A LineWhy) (a : A) → (if b then r else Err cause) ≡ Ok a → (b ≡ true) × (r ≡ Ok a)
before_refusal true cause r a read = (refl, read)
before_refusal false cause r a read = cc

-- ---- rows whose key is the line's

only_if-some : (p : List Value → Bool) (o : Option (List Value)) (row : List Value) → only_if p o ≡ Some row → (o ≡ Some row) × (p row ≡ true)
only_if-some p None row found = cc
only_if-some p (Some r) row found = by_test (p r) refl found where
  by_test : (b : Bool) → p r ≡ b → (if b then Some r else None) ≡ Some row → (Some r ≡ Some row) × (p row ≡ true)
  by_test true passes same = let here : r ≡ row = cc in (same, subst (λ (x : List Value). p x ≡ true) here passes)
  by_test false fails same = cc

-- a row that was read is lawful, and the line's key is its own
pub record IsRowAt (t : Table) (key fields : Option Data) (row : List Value) : Type 0 where
  pub object : Data
  pub key_object : Data
  pub fields_there : fields ≡ Some object
  pub key_there : key ≡ Some key_object
  pub values : row_of t.columns object ≡ Some row
  pub lawful : is_lawful_row t row ≡ true
  pub agrees : is_key_of_row t key_object row ≡ true

row_is_at : (t : Table) (key fields : Option Data) (row : List Value) → row_with_key t key fields ≡ Some row → IsRowAt t key fields row
row_is_at t None fields row found = cc
row_is_at t (Some key) None row found = cc
row_is_at t (Some key) (Some d) row found =
    let tested = only_if-some (λ r. is_lawful_row t r && is_key_of_row t key r) (row_of t.columns d) row found in
    let parts = and_parts (is_lawful_row t row) (is_key_of_row t key row) tested.1 in
    record { object = d; key_object = key; fields_there = refl; key_there = refl; values = tested.0; lawful = parts.0; agrees = parts.1 }

-- ---- two rows with the line's key have the same key

same_text_in : (o : Option (List ℕ)) (a b : List ℕ) → option_map_or (bytes_eq a) o false ≡ true → option_map_or (bytes_eq b) o false ≡ true → a ≡ b
same_text_in None a b ha hb = cc
same_text_in (Some text) a b ha hb = (bytes_eq-Decides a text).0 ha ∙ sym ((bytes_eq-Decides b text).0 hb)

same_text_at : (key : Data) (column : Option Column) (a b : List ℕ)
    → option_map_or (λ (c : Column). option_map_or (bytes_eq a) (text_at c.name key) false) column false ≡ true
    → option_map_or (λ (c : Column). option_map_or (bytes_eq b) (text_at c.name key) false) column false ≡ true
    → a ≡ b
same_text_at key None a b ha hb = cc
same_text_at key (Some c) a b ha hb = same_text_in (text_at c.name key) a b ha hb

same_texts : (t : Table) (key : Data) (before after : List Value) (places : List ℕ)
    → list_all (agrees_at t key before) places ≡ true → list_all (agrees_at t key after) places ≡ true
    → map text_of (values_at before places) ≡ map text_of (values_at after places)
same_texts t key before after [] hb ha = refl
same_texts t key before after (place ∷ places) hb ha =
    let first = and_parts (agrees_at t key before place) (list_all (agrees_at t key before) places) hb in
    let second = and_parts (agrees_at t key after place) (list_all (agrees_at t key after) places) ha in
    let here = same_text_at key (slice_get t.columns place) (text_of (value_at before place)) (text_of (value_at after place)) first.0 second.0 in
    ap (λ x. x ∷ map text_of (values_at before places)) here
    ∙ ap (λ xs. text_of (value_at after place) ∷ xs) (same_texts t key before after places first.1 second.1)

same_key-refl : (key : List (List ℕ)) → same_key key key ≡ true
unfolding same_key
same_key-refl key = (lists_equiv nat_list_eq_equiv).refl key

-- ---- the table of a line stands at its place

placed_stands : (tables : List Table) (at : Option ℕ) (t : PlacedTable) → option_and_then (placed tables) at ≡ Some t → slice_get tables t.place ≡ Some t.table
placed_stands tables None t found = cc
placed_stands tables (Some place) t found = by_table (slice_get tables place) refl found where
  by_table : (o : Option Table) → slice_get tables place ≡ o
      → option_map (λ (u : Table). let p : PlacedTable = record { place = place; table = u } in p) o ≡ Some t → slice_get tables t.place ≡ Some t.table
  by_table None is same = cc
  by_table (Some u) is same =
      let here : PlacedTable = record { place = place; table = u } in
      let equal : here ≡ t = cc in
      subst (λ (p : PlacedTable). slice_get tables p.place ≡ Some p.table) equal is

known_stands : (tables : List Table) (d : Data) (o : Option PlacedTable) (t : PlacedTable)
    → ((u : PlacedTable) → o ≡ Some u → slice_get tables u.place ≡ Some u.table)
    → known_in_turn d o ≡ Ok t → slice_get tables t.place ≡ Some t.table
known_stands tables d None t stands read = cc
known_stands tables d (Some u) t stands read =
    let same : u ≡ t = let ok = (before_refusal _ _ (Ok u) t read).1 in cc in
    subst (λ (p : PlacedTable). slice_get tables p.place ≡ Some p.table) same (stands u refl)

named_stands : (tables : List Table) (d : Data) (schema_name table_name : Option (List ℕ)) (t : PlacedTable)
    → named_in_turn tables d schema_name table_name ≡ Ok t → slice_get tables t.place ≡ Some t.table
named_stands tables d None table_name t read = cc
named_stands tables d (Some s) None t read = cc
named_stands tables d (Some s) (Some n) t read =
    known_stands tables d (table_named tables s n) t (λ u found. placed_stands tables (place_of s n tables) u found) read

pub table_stands : (tables : List Table) (names : List (List ℕ)) (d : Data) (t : PlacedTable)
    → table_in_turn tables names d ≡ Ok t → slice_get tables t.place ≡ Some t.table
table_stands tables names d t read =
    let named = named_in_turn tables d (text_at (codes "schema_name") d) (text_at (codes "table_name") d) in
    let known = past_test (not (has_names names d)) why.Missing (if not (has_only_names names d) then Err why.Unknown else named) t read in
    named_stands tables d (text_at (codes "schema_name") d) (text_at (codes "table_name") d) t
    (past_test (not (has_only_names names d)) why.Unknown named t known)

-- ---- a change that was read is well formed

mapped_some : {A B : Type 0} (f : A → B) (o : Option A) (b : B) → option_map f o ≡ Some b → (a : A) × (o ≡ Some a) × (f a ≡ b)
mapped_some f None b found = cc
mapped_some f (Some a) b found = (a, refl, cc)

past_none : {A : Type 0} (b : Bool) (o : Option A) (a : A) → (if b then o else None) ≡ Some a → o ≡ Some a
past_none true o a found = found
past_none false o a found = cc

chained_some : {A B : Type 0} (f : A → Option B) (o : Option A) (b : B) → option_and_then f o ≡ Some b → (a : A) × (o ≡ Some a) × (f a ≡ Some b)
chained_some f None b found = cc
chained_some f (Some a) b found = (a, refl, found)

-- a row that was read is one of the table at that place
row_is_lawful : (tables : List Table) (t : PlacedTable) (name : List ℕ) (d : Data) (row : List Value)
    → slice_get tables t.place ≡ Some t.table → row_at t.table name d ≡ Some row → is_row_of (slice_get tables t.place) row ≡ true
row_is_lawful tables t name d row stands found = rw stands (row_is_at t.table (get (codes "key") d) (get name d) row found).lawful

rows_agree : (t : Table) (name other : List ℕ) (d : Data) (before after : List Value)
    → row_at t name d ≡ Some before → row_at t other d ≡ Some after → same_key (key_of t before) (key_of t after) ≡ true
rows_agree t name other d before after first second =
    let b = row_is_at t (get (codes "key") d) (get name d) before first in
    let a = row_is_at t (get (codes "key") d) (get other d) after second in
    let one_key : b.key_object ≡ a.key_object = let named = sym b.key_there ∙ a.key_there in cc in
    let before_texts = (and_parts _ _ (subst (λ (k : Data). is_key_of_row t k before ≡ true) one_key b.agrees)).1 in
    let after_texts = (and_parts _ _ a.agrees).1 in
    let same = same_texts t a.key_object before after t.primary_key before_texts after_texts in
    subst (λ (key : List (List ℕ)). same_key (key_of t before) key ≡ true) same (same_key-refl (key_of t before))

change_is_well_formed : (tables : List Table) (op : Op) (t : PlacedTable) (d : Data) (c : Change)
    → slice_get tables t.place ≡ Some t.table → change_of op t d ≡ Some c → is_well_formed tables c ≡ true
change_is_well_formed tables Insert t d c stands found =
    let made = mapped_some (change.Insert t.place) (row_at t.table (codes "fields") d) c (past_none _ _ c found) in
    subst (λ (x : Change). is_well_formed tables x ≡ true) made.2 (row_is_lawful tables t (codes "fields") d made.0 stands made.1)
change_is_well_formed tables Update t d c stands found =
    let first = chained_some (λ before. option_map (change.Update t.place before) (row_at t.table (codes "fields") d)) (row_at t.table (codes "before_fields") d) c found in
    let second = mapped_some (change.Update t.place first.0) (row_at t.table (codes "fields") d) c first.2 in
    let keys = rows_agree t.table (codes "before_fields") (codes "fields") d first.0 second.0 first.1 second.1 in
    let before = row_is_lawful tables t (codes "before_fields") d first.0 stands first.1 in
    let after = row_is_lawful tables t (codes "fields") d second.0 stands second.1 in
    subst (λ (x : Change). is_well_formed tables x ≡ true) second.2 (and_from _ _ (and_from _ _ before after) (rw stands keys))
change_is_well_formed tables Delete t d c stands found =
    let made = mapped_some (change.Delete t.place) (row_at t.table (codes "before_fields") d) c (past_none _ _ c found) in
    subst (λ (x : Change). is_well_formed tables x ≡ true) made.2 (row_is_lawful tables t (codes "before_fields") d made.0 stands made.1)

limited : (o : Option Change) (c : Change) → within_limit o ≡ Ok c → (o ≡ Some c) × (has_long_row c ≡ false)
limited None c read = cc
limited (Some x) c read = by_test (has_long_row x) refl read where
  by_test : (b : Bool) → has_long_row x ≡ b → (if b then Err why.TooLong else Ok x) ≡ Ok c → (Some x ≡ Some c) × (has_long_row c ≡ false)
  by_test true long same = cc
  by_test false short same = let here : x ≡ c = cc in (ap Some here, subst (λ (y : Change). has_long_row y ≡ false) here short)

-- a change that was read by the rules that both kinds of line share
pub change_is_lawful : (tables : List Table) (names : List (List ℕ)) (op : Op) (d : Data) (t : PlacedTable) (c : Change)
    → table_in_turn tables names d ≡ Ok t → within_limit (change_of op t d) ≡ Ok c → IsLawfulChange tables c
change_is_lawful tables names op d t c placed read =
    let parts = limited (change_of op t d) c read in
    record { well_formed = change_is_well_formed tables op t d c (table_stands tables names d t placed) parts.0; short = parts.1 }

-- ---- an event that was read is lawful
