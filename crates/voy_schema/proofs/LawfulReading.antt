-- The tables that are read are lawful.
use Rattle.std.proofs.Common.{◌≡◌, ◌∙◌, refl, sym, ap, subst, ℕ, ◌+◌, ◌<◌, Bool, true, false, List, [], ◌∷◌, ◌++◌, cond, not, length, map, get_or, nat_eq, nat_le, nat_lt, Option, Some, None, Ok, Err, arith}
use Rattle.std.specs.Bool.{if◌then◌else◌}
use Rattle.std.specs.List.{list_all, list_any}
use Rattle.std.specs.Str.{bytes_eq}
use Rattle.std.proofs.lemmas.Bool.{and_parts, and_from, or_from, or_parts, not-true, not_from_false, false_from_ne_true, ltb-true, eqb-true, le-leb, leb-true, true≢false}
use Rattle.std.proofs.lemmas.List.{length-append, length-map}
use Rattle.std.proofs.lemmas.List.Folds.{list_all-append, list_all-map, list_any-append}
use Rattle.std.proofs.lemmas.List.Sums.{passes_at_first}
use Rattle.std.proofs.lemmas.Slice.Eq.{bytes_eq-Decides}
use Rattle.serde_json.specs.Data.{Data, Items, no_items, item}
use Rattle.serde_json.specs.Events.{items_len}
use Rattle.voy_schema.specs.Lawful.{has_same_names, is_distinct, is_lawful, is_lawful_key, is_lawful_table, is_name, is_named}
use Rattle.voy_schema.specs.Reading.{broken_rule, column_of, tables_of_document, has_known_columns, has_lawful_count, has_lawful_counts, has_lawful_names, has_no_repeat, has_whole_keys, is_column, items_reading, names_of, place_in, places_of, schema_reading, stated_items, table_stated, table_or_why, tables_reading, unique_key_of, unless, with_table}
use Rattle.voy_schema.specs.Stated.{stated_table}
use Rattle.voy_schema.specs.declared.stated.StatedColumn.{StatedColumn}
use Rattle.voy_schema.specs.declared.stated.StatedKey.{StatedKey}
use Rattle.voy_schema.specs.declared.stated.StatedTable.{StatedTable}
use Rattle.voy_schema.specs.declared.table.Column.{Column}
use Rattle.voy_schema.specs.declared.table.Table.{Table}
use Rattle.voy_schema.specs.declared.table.UniqueKey.{UniqueKey}
use Rattle.voy_schema.specs.declared.why.SchemaWhy.{SchemaWhy}
use Rattle.voy_schema.specs.declared.why.SchemaWhy.TheVariants as why
use Rattle.voy_json.specs.Document.{data_of_bytes}
use Rattle.voy_schema.proofs.ReadingLemmas.{list_any-position_or_len}

-- ---- what is known of a table that breaks no rule

record Unbroken (earlier : List Table) (s : StatedTable) : Type 0 where
  counts : has_lawful_counts s ≡ true
  names : has_lawful_names s ≡ true
  no_repeat : has_no_repeat earlier s ≡ true
  columns : has_known_columns s ≡ true
  keys : has_whole_keys s ≡ true

-- a rule that is not the one that is broken holds, and so on with those behind it
next_rule : (holds : Bool) (w : SchemaWhy) (rest : Option SchemaWhy) → cond (not holds) (Some w) rest ≡ None → (holds ≡ true) × (rest ≡ None)
next_rule true w rest none = (refl, none)
next_rule false w rest none = cc

unbroken : (earlier : List Table) (s : StatedTable) → broken_rule earlier s ≡ None → Unbroken earlier s
unbroken earlier s none =
    let first = next_rule _ _ _ none in
    let second = next_rule _ _ _ first.1 in
    let third = next_rule _ _ _ second.1 in
    let fourth = next_rule _ _ _ third.1 in
    let fifth = next_rule _ _ _ fourth.1 in
    let sixth = next_rule _ _ _ fifth.1 in
    record { counts = first.0; names = second.0; no_repeat = fourth.0; columns = fifth.0; keys = sixth.0 }

-- ---- columns

names_of-columns : (columns : List StatedColumn) → map (λ (c : Column). c.name) (map column_of columns) ≡ names_of columns
names_of-columns [] = refl
names_of-columns (c ∷ cs) = ap (λ rest. c.name ∷ rest) (names_of-columns cs)

-- ---- keys

is_column-place : (columns : List StatedColumn) (name : List ℕ) → is_column columns name ≡ true → place_in columns name < length columns
is_column-place columns name known =
    let within = ltb-true _ _ (sym (list_any-position_or_len (bytes_eq name) (names_of columns)) ∙ known) in
    subst (λ n. place_in columns name < n) (length-map columns (λ (c : StatedColumn). c.name)) within

-- two names at one place are one name
same_place : (columns : List StatedColumn) (a b : List ℕ) → is_column columns a ≡ true → is_column columns b ≡ true
    → place_in columns a ≡ place_in columns b → bytes_eq a b ≡ true
same_place columns a b known_a known_b same =
    let names = names_of columns in
    let within_a = ltb-true _ _ (sym (list_any-position_or_len (bytes_eq a) names) ∙ known_a) in
    let within_b = ltb-true _ _ (sym (list_any-position_or_len (bytes_eq b) names) ∙ known_b) in
    let at_a = (bytes_eq-Decides a _).0 (passes_at_first (bytes_eq a) names [] within_a) in
    let at_b = (bytes_eq-Decides b _).0 (passes_at_first (bytes_eq b) names [] within_b) in
    (bytes_eq-Decides a b).1 (at_a ∙ ap (λ k. get_or names k []) same ∙ sym at_b)

other_place : (columns : List StatedColumn) (a b : List ℕ) → is_column columns a ≡ true → is_column columns b ≡ true
    → bytes_eq a b ≡ false → nat_eq (place_in columns a) (place_in columns b) ≡ false
other_place columns a b known_a known_b differ =
    false_from_ne_true _ (λ same. true≢false (sym (same_place columns a b known_a known_b (eqb-true _ _ same)) ∙ differ))

other_places : (columns : List StatedColumn) (a : List ℕ) (key : List (List ℕ)) → is_column columns a ≡ true → list_all (is_column columns) key ≡ true
    → list_any (bytes_eq a) key ≡ false → list_any (nat_eq (place_in columns a)) (places_of columns key) ≡ false
other_places columns a [] known_a known none = refl
other_places columns a (b ∷ key) known_a known none =
    let parts = and_parts _ _ known in
    let differ = or_parts _ _ none in
    or_from _ _ (other_place columns a b known_a parts.0 differ.0) (other_places columns a key known_a parts.1 differ.1)

distinct_places : (columns : List StatedColumn) (key : List (List ℕ)) → list_all (is_column columns) key ≡ true → is_distinct bytes_eq key ≡ true
    → is_distinct nat_eq (places_of columns key) ≡ true
distinct_places columns [] known distinct = refl
distinct_places columns (a ∷ key) known distinct =
    let parts = and_parts _ _ known in
    let differ = and_parts _ _ distinct in
    and_from _ _ (not_from_false _ (other_places columns a key parts.0 parts.1 (not-true _ differ.0))) (distinct_places columns key parts.1 differ.1)

places_within : (columns : List StatedColumn) (key : List (List ℕ)) → list_all (is_column columns) key ≡ true
    → list_all (λ place. nat_lt place (length columns)) (places_of columns key) ≡ true
places_within columns [] known = refl
places_within columns (a ∷ key) known =
    let parts = and_parts _ _ known in
    and_from _ _ (le-leb _ _ (is_column-place columns a parts.0)) (places_within columns key parts.1)

lawful_key : (columns : List StatedColumn) (key : List (List ℕ)) → nat_le 1 (length key) ≡ true → list_all (is_column columns) key ≡ true → is_distinct bytes_eq key ≡ true
    → is_lawful_key (length columns) (places_of columns key) ≡ true
lawful_key columns key whole known distinct =
    and_from _ _ (and_from _ _ (ap (nat_le 1) (length-map key (place_in columns)) ∙ whole) (places_within columns key known)) (distinct_places columns key known distinct)

lawful_keys : (columns : List StatedColumn) (keys : List StatedKey) → list_all (λ key. nat_le 1 (length key)) (map (λ (k : StatedKey). k.columns) keys) ≡ true
    → list_all (list_all (is_column columns)) (map (λ (k : StatedKey). k.columns) keys) ≡ true
    → list_all (is_distinct bytes_eq) (map (λ (k : StatedKey). k.columns) keys) ≡ true
    → list_all (λ (k : UniqueKey). is_lawful_key (length columns) k.columns) (map (unique_key_of columns) keys) ≡ true
lawful_keys columns [] whole known distinct = refl
lawful_keys columns (k ∷ keys) whole known distinct =
    let wholes = and_parts _ _ whole in
    let knowns = and_parts _ _ known in
    let distincts = and_parts _ _ distinct in
    and_from _ _ (lawful_key columns k.columns wholes.0 knowns.0 distincts.0) (lawful_keys columns keys wholes.1 knowns.1 distincts.1)

-- ---- tables

lawful_table : (earlier : List Table) (s : StatedTable) → Unbroken earlier s → is_lawful_table (table_stated s) ≡ true
lawful_table earlier s held =
    let counts = and_parts _ _ held.counts in
    let columns = and_parts _ _ counts.0 in
    let names = and_parts _ _ held.names in
    let table_names = and_parts (is_name s.schema_name) (is_name s.table_name) names.0 in
    let distinct = and_parts _ _ (and_parts _ _ held.no_repeat).0 in
    let distinct_keys = and_parts _ _ distinct.1 in
    let known = and_parts _ _ held.columns in
    let whole = and_parts _ _ held.keys in
    let width = length-map s.columns column_of in
    let named = list_all-map (λ (c : Column). is_name c.name) column_of s.columns ∙ sym (list_all-map is_name (λ (c : StatedColumn). c.name) s.columns) ∙ names.1 in
    let one = and_from _ _ table_names.0 table_names.1 in
    let two = and_from _ _ one (ap (nat_le 1) width ∙ columns.0) in
    let three = and_from _ _ two (ap (λ n. nat_le n 64) width ∙ columns.1) in
    let four = and_from _ _ three named in
    let five = and_from _ _ four (ap (is_distinct bytes_eq) (names_of-columns s.columns) ∙ distinct.0) in
    let primary = lawful_key s.columns s.primary_key whole.0 known.0 distinct_keys.0 in
    let six = and_from _ _ five (ap (λ w. is_lawful_key w (places_of s.columns s.primary_key)) width ∙ primary) in
    let seven = and_from _ _ six (ap (λ n. nat_le n 8) (length-map s.unique_keys (unique_key_of s.columns)) ∙ counts.1) in
    let unique = lawful_keys s.columns s.unique_keys whole.1 known.1 distinct_keys.1 in
    and_from _ _ seven (ap (λ w. list_all (λ (k : UniqueKey). is_lawful_key w k.columns) (map (unique_key_of s.columns) s.unique_keys)) width ∙ unique)

-- a table that breaks no rule has names of its own
new_names : (earlier : List Table) (s : StatedTable) → Unbroken earlier s → list_any (is_named s.schema_name s.table_name) earlier ≡ false
new_names earlier s held = not-true _ (and_parts _ _ held.no_repeat).1

is_distinct-push : (earlier : List Table) (t : Table) → is_distinct has_same_names earlier ≡ true → list_any (is_named t.schema_name t.table_name) earlier ≡ false
    → is_distinct has_same_names (earlier ++ t ∷ []) ≡ true
is_distinct-push [] t distinct new = refl
is_distinct-push (a ∷ earlier) t distinct new =
    let differ = and_parts _ _ distinct in
    let news = or_parts _ _ new in
    let none = list_any-append (has_same_names a) earlier (t ∷ []) ∙ or_from _ _ (not-true _ differ.0) (or_from _ _ news.0 refl) in
    and_from _ _ (not_from_false _ none) (is_distinct-push earlier t differ.1 news.1)

-- lawful tables, of this number, each under names of its own
record AreLawful (n : ℕ) (tables : List Table) : Type 0 where
  lawful : list_all is_lawful_table tables ≡ true
  distinct : is_distinct has_same_names tables ≡ true
  counted : length tables ≡ n

one_more : (n : ℕ) (earlier : List Table) (s : StatedTable) → AreLawful n earlier → broken_rule earlier s ≡ None → AreLawful (n + 1) (earlier ++ table_stated s ∷ [])
one_more n earlier s held none =
    let kept = unbroken earlier s none in
    record {
      lawful = list_all-append is_lawful_table earlier (table_stated s ∷ []) ∙ and_from _ _ held.lawful (and_from _ _ (lawful_table earlier s kept) refl);
      distinct = is_distinct-push earlier (table_stated s) held.distinct (new_names earlier s kept);
      counted = simp length-append (omega arith);
    }

-- the tables behind those so far, where those behind one more are known
next_lawful : (n : ℕ) (earlier tables : List Table) (o : Option StatedTable) (ds : Items) → AreLawful n earlier
    → ((more : List Table) → AreLawful (n + 1) more → tables_reading (Ok more) ds ≡ Ok tables → AreLawful (n + 1 + items_len ds) tables)
    → tables_reading (with_table earlier (table_or_why earlier o)) ds ≡ Ok tables → AreLawful (n + 1 + items_len ds) tables
next_lawful n earlier tables None ds held behind reads = cc
next_lawful n earlier tables (Some s) ds held behind reads = by_rule (broken_rule earlier s) refl reads where
  by_rule : (o : Option SchemaWhy) → broken_rule earlier s ≡ o → tables_reading (with_table earlier (unless o (table_stated s))) ds ≡ Ok tables
      → AreLawful (n + 1 + items_len ds) tables
  by_rule (Some w) is refused = cc
  by_rule None is found = behind (earlier ++ table_stated s ∷ []) (one_more n earlier s held is) found

all_lawful : (n : ℕ) (earlier tables : List Table) (items : Items) → AreLawful n earlier → tables_reading (Ok earlier) items ≡ Ok tables → AreLawful (n + items_len items) tables
all_lawful n earlier tables no_items held reads =
    let same : earlier ≡ tables = cc in
    subst (λ ts. AreLawful (n + 0) ts) same record { lawful = held.lawful; distinct = held.distinct; counted = omega arith }
all_lawful n earlier tables (item d ds) held reads =
    let behind = next_lawful n earlier tables (stated_table d) ds held (λ more kept found. all_lawful (n + 1) more tables ds kept found) reads in
    record { lawful = behind.lawful; distinct = behind.distinct; counted = omega arith }

of_items : (items : Option Items) (tables : List Table) → items_reading items ≡ Ok tables → is_lawful tables ≡ true
of_items None tables reads = cc
of_items (Some items) tables reads = by_count (has_lawful_count items) refl reads where
  by_count : (b : Bool) → has_lawful_count items ≡ b → (if not b then Err (0, why.TooMany) else tables_reading (Ok []) items) ≡ Ok tables → is_lawful tables ≡ true
  by_count false is refused = cc
  by_count true is found =
      let held = all_lawful 0 [] tables items record { lawful = refl; distinct = refl; counted = refl } found in
      let counts = and_parts (nat_le 1 (items_len items)) (nat_le (items_len items) 256) is in
      let least = le-leb 1 (length tables) (omega (arith, leb-true _ _ counts.0)) in
      let most = le-leb (length tables) 256 (omega (arith, leb-true _ _ counts.1)) in
      and_from _ _ (and_from _ _ (and_from _ _ least most) held.lawful) held.distinct

of_document : (d : Option Data) (tables : List Table) → tables_of_document d ≡ Ok tables → is_lawful tables ≡ true
of_document None tables reads = cc
of_document (Some d) tables reads = of_items (stated_items d) tables reads

-- the tables that a schema's bytes state are lawful
pub schema_reading-lawful : (bytes : List ℕ) (tables : List Table) → schema_reading bytes ≡ Ok tables → is_lawful tables ≡ true
unfolding schema_reading
schema_reading-lawful bytes tables reads = of_document (data_of_bytes bytes) tables reads
