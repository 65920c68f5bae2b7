-- The last entry that a cache keeps of a tuple is of the last event that releases it.
use Rattle.std.specs.Prelude.{◌≡◌, ◌==◌, ◌&&◌, ◌||◌, ◌<◌, ◌+◌, ◌%◌, ℕ, zero, suc, Bool, true, false, List, [], ◌∷◌, ◌++◌, Option, Some, None, is_some, length, map, nat_lt, refl, slice_get, if◌then◌else◌}
use Rattle.std.specs.List.{AllByRecursion, cons_option, filter, list_any, range_with_len}
use Rattle.std.specs.Option.{option_and_then, option_map, option_map_or}
use Rattle.std.proofs.Common.{ap, arith, sym, ◌∙◌}
use Rattle.std.proofs.lemmas.Bool.{eq-eqb, eqb-true}
use Rattle.std.proofs.lemmas.Option.{none-some, same_Some}
use Rattle.voy_schema.specs.Rows.{values_at}
use Rattle.voy_schema.specs.declared.table.Table.{Table}
use Rattle.voy_schema.specs.declared.table.UniqueKey.{UniqueKey}
use Rattle.voy_schema.specs.declared.value.Value.{Value}
use Rattle.voy_tables.specs.Changes.{RowChange}
use Rattle.voy_tables.specs.Keys.{same_tuple}
use Rattle.voy_tables.specs.declared.change.Change.{Change}
use Rattle.voy_tables.specs.Tables.{tuple_in}
use Rattle.voy_event.specs.declared.event.Event.{Event}
use Rattle.voy_link.specs.Arena.{Contents, Node, in_bucket}
use Rattle.voy_order.specs.ChangeEvents.{ChangeEvent}
use Rattle.voy_order.specs.Conflicts.{does_release, is_handed, last_releaser, released, unique_keys_in}
use Rattle.voy_order.specs.RowsLost.{unique_key_at}
use Rattle.voy_conflict.specs.Cache.{Caches, change_at, entries_at, entries_by, entries_of, events_at, released_keys}
use Rattle.voy_conflict.specs.Filing.{IsFiled, as_row_change, change_there, columns_of, does_answer, last_passing, tuple_hash, vsn_and_change}
use Rattle.voy_conflict.specs.declared.entry.Entry.{Entry}
use Rattle.voy_conflict.proofs.ApartLemmas.{false_true}
use Rattle.voy_conflict.proofs.TupleLemmas.{handed_is_same, handed_tuple, tuple_values, tuple_without}
use Rattle.voy_conflict.proofs.EventLemmas.{same_pair}

-- ---- nodes of other buckets do not pass

last_inside : (test : Node Entry → Bool) (bucket : ℕ) (ns : List (Node Entry)) (last : Option (Node Entry))
    → AllByRecursion (λ (n : Node Entry). test n ≡ true → n.bucket ≡ bucket) ns
    → last_passing test last (in_bucket ns bucket) ≡ last_passing test last ns
last_inside test bucket [] last all = refl
last_inside test bucket (n ∷ ns) last all = by (n.bucket == bucket) refl (λ l. last_inside test bucket ns l all.1)
  where
    fails : (n.bucket == bucket) ≡ false → (t : Bool) → test n ≡ t → t ≡ false
    fails outside false is = refl
    fails outside true is = absurd (false_true (n.bucket == bucket) outside (eq-eqb n.bucket bucket (all.0 is)))

    by : (b : Bool) → (n.bucket == bucket) ≡ b → ((l : Option (Node Entry)) → last_passing test l (in_bucket ns bucket) ≡ last_passing test l ns)
        → last_passing test last (if b then n ∷ in_bucket ns bucket else in_bucket ns bucket) ≡ last_passing test (if test n then Some n else last) ns
    by true inside rest = rest (if test n then Some n else last)
    by false outside rest = rest last ∙ sym (ap (λ t. last_passing test (if t then Some n else last) ns) (fails outside (test n) refl))

-- the last entry that passes a test
abbrev pub last_entry : (Entry → Bool) → Option Entry → List Entry → Option Entry
last_entry test last [] = last
last_entry test last (e ∷ es) = last_entry test (if test e then Some e else last) es

last_items : (test : Entry → Bool) (ns : List (Node Entry)) (last : Option (Node Entry))
    → option_map (λ (n : Node Entry). n.item) (last_passing (λ (n : Node Entry). test n.item) last ns)
    ≡ last_entry test (option_map (λ (n : Node Entry). n.item) last) (map (λ (n : Node Entry). n.item) ns)
last_items test [] last = refl
last_items test (n ∷ ns) last =
    last_items test ns (if test n.item then Some n else last)
    ∙ ap (λ l. last_entry test l (map (λ (m : Node Entry). m.item) ns)) (by (test n.item))
  where
    by : (b : Bool) → option_map (λ (m : Node Entry). m.item) (if b then Some n else last)
        ≡ (if b then Some n.item else option_map (λ (m : Node Entry). m.item) last)
    by true = refl
    by false = refl

last_entry-append : (test : Entry → Bool) (last : Option Entry) (xs ys : List Entry)
    → last_entry test last (xs ++ ys) ≡ last_entry test (last_entry test last xs) ys
last_entry-append test last [] ys = refl
last_entry-append test last (x ∷ xs) ys = last_entry-append test (if test x then Some x else last) xs ys

-- ---- the entries of one event

-- a place that is read stands in the list
pub within_from : {X : Type 0} (xs : List X) (n : ℕ) (x : X) → slice_get xs n ≡ Some x → n < length xs
within_from [] n x is = absurd (none-some x is)
within_from (y ∷ xs) zero x is = omega arith
within_from (y ∷ xs) (suc n) x is = let rest = within_from xs n x is in omega arith

key_within : (o : Option Table) (unique : ℕ) (key : UniqueKey) → unique_key_at o unique ≡ Some key → unique < unique_keys_in o
key_within None unique key is = absurd (none-some key is)
key_within (Some t) unique key is = within_from t.unique_keys unique key is

some_of : (b : Bool) (o : Option (List Value)) (values : List Value) → (if b then None else o) ≡ Some values → o ≡ Some values
some_of true o values is = absurd (none-some values is)
some_of false o values is = is

-- a key of which a tuple is released is one of the table
pub released_within : (schema : List Table) (unique : ℕ) (c : RowChange) (values : List Value) → released schema unique c ≡ Some values
    → unique < unique_keys_in (slice_get schema c.row.table)
released_within schema unique c values is = by (unique_key_at (slice_get schema c.row.table) unique) refl
  where
    tuple : tuple_in schema c.row.table unique c.before ≡ Some values
    tuple = some_of (same_tuple (tuple_in schema c.row.table unique c.before) (tuple_in schema c.row.table unique c.after))
        (tuple_in schema c.row.table unique c.before) values is

    by : (o : Option UniqueKey) → unique_key_at (slice_get schema c.row.table) unique ≡ o → unique < unique_keys_in (slice_get schema c.row.table)
    by None e = absurd (none-some values (sym (tuple_without schema c.row.table unique c.before e) ∙ tuple))
    by (Some key) e = key_within (slice_get schema c.row.table) unique key e

or_true : (b : Bool) → (b || true) ≡ true
or_true true = refl
or_true false = refl

in_keys : (p : ℕ → Bool) (unique a n : ℕ) → p unique ≡ true → a < suc unique → unique < a + n
    → list_any (λ u. u == unique) (filter p (range_with_len a n)) ≡ true
in_keys p unique a zero passes above below = absurd (omega arith)
in_keys p unique a (suc n) passes above below = by (a == unique) refl
    (λ apart. in_keys p unique (a + 1) n passes (omega (arith, apart, above)) (omega (arith, below)))
  where
    here : a ≡ unique → list_any (λ u. u == unique) (if p a then a ∷ filter p (range_with_len (a + 1) n) else filter p (range_with_len (a + 1) n)) ≡ true
    here same =
        ap (λ b. list_any (λ u. u == unique) (if b then a ∷ filter p (range_with_len (a + 1) n) else filter p (range_with_len (a + 1) n))) (ap p same ∙ passes)
        ∙ ap (λ b. b || list_any (λ u. u == unique) (filter p (range_with_len (a + 1) n))) (eq-eqb a unique same)

    keep : (b : Bool) → list_any (λ u. u == unique) (filter p (range_with_len (a + 1) n)) ≡ true
        → list_any (λ u. u == unique) (if b then a ∷ filter p (range_with_len (a + 1) n) else filter p (range_with_len (a + 1) n)) ≡ true
    keep true rest = ap (λ b. (a == unique) || b) rest ∙ or_true (a == unique)
    keep false rest = rest

    by : (b : Bool) → (a == unique) ≡ b → ((a ≡ unique → ⊥) → list_any (λ u. u == unique) (filter p (range_with_len (a + 1) n)) ≡ true)
        → list_any (λ u. u == unique) (filter p (range_with_len a (suc n))) ≡ true
    by true e rest = here (eqb-true a unique e)
    by false e rest = keep (p a) (rest (λ same. false_true (a == unique) e (eq-eqb a unique same)))

three : (a b c : Bool) → (a && b && c) ≡ true → (a ≡ true) × (b ≡ true) × (c ≡ true)
three true true true is = (refl, refl, refl)
three true true false is = cc
three true false c is = cc
three false b c is = cc

module _ (schema : List Table) (events : List Event) (table unique : ℕ) (values : List Value) (vsn : ℕ) where
  abbrev answers : Entry → Bool
  answers e = does_answer schema events table unique (Some values) vsn e

  abbrev at_place : Entry → Option ChangeEvent
  at_place e = change_at schema events e.at

  abbrev passes : Option ChangeEvent → Bool
  passes o = option_map_or (λ (g : ChangeEvent). (g.change.row.table == table) && is_handed (released schema unique g.change)
      (Some values) && nat_lt g.vsn vsn) o false

  abbrev entry_at : ℕ → ℕ → Entry
  entry_at at u = record { at = at; unique = u }

  none_of_keys : (at : ℕ) (us : List ℕ) (last : Option Entry) → passes (change_at schema events at) ≡ false
      → last_entry answers last (map (entry_at at) us) ≡ last
  none_of_keys at [] last fails = refl
  none_of_keys at (u ∷ us) last fails =
      ap (λ b. last_entry answers (if b then Some (entry_at at u) else last) (map (entry_at at) us)) (ap (λ b. (u == unique) && b) fails
      ∙ and_false (u == unique))
      ∙ none_of_keys at us last fails
    where
      and_false : (b : Bool) → (b && false) ≡ false
      and_false true = refl
      and_false false = refl

  its_answer : (at u : ℕ) → passes (change_at schema events at) ≡ true → answers (entry_at at u) ≡ (u == unique)
  its_answer at u is = ap (λ b. (u == unique) && b) is ∙ and_true (u == unique)
    where
      and_true : (b : Bool) → (b && true) ≡ b
      and_true true = refl
      and_true false = refl

  stays_found : (at : ℕ) (us : List ℕ) → passes (change_at schema events at) ≡ true
      → last_entry answers (Some (entry_at at unique)) (map (entry_at at) us) ≡ Some (entry_at at unique)
  stays_found at [] is = refl
  stays_found at (u ∷ us) is =
      ap (λ b. last_entry answers (if b then Some (entry_at at u) else Some (entry_at at unique)) (map (entry_at at) us)) (its_answer at u is)
      ∙ ap (λ e. last_entry answers e (map (entry_at at) us)) (by (u == unique) refl)
      ∙ stays_found at us is
    where
      by : (b : Bool) → (u == unique) ≡ b → (if b then Some (entry_at at u) else Some (entry_at at unique)) ≡ Some (entry_at at unique)
      by true e = ap (λ k. Some (entry_at at k)) (eqb-true u unique e)
      by false e = refl

  one_of_keys : (at : ℕ) (us : List ℕ) (last : Option Entry) → passes (change_at schema events at) ≡ true → list_any (λ u. u == unique) us ≡ true
      → last_entry answers last (map (entry_at at) us) ≡ Some (entry_at at unique)
  one_of_keys at [] last is some = absurd (false_true false refl some)
  one_of_keys at (u ∷ us) last is some =
      ap (λ b. last_entry answers (if b then Some (entry_at at u) else last) (map (entry_at at) us)) (its_answer at u is)
      ∙ by (u == unique) refl some (one_of_keys at us last is)
    where
      by : (b : Bool) → (u == unique) ≡ b → (b || list_any (λ k. k == unique) us) ≡ true
          → (list_any (λ k. k == unique) us ≡ true → last_entry answers last (map (entry_at at) us) ≡ Some (entry_at at unique))
          → last_entry answers (if b then Some (entry_at at u) else last) (map (entry_at at) us) ≡ Some (entry_at at unique)
      by true e some rest = ap (λ k. last_entry answers (Some (entry_at at k)) (map (entry_at at) us)) (eqb-true u unique e) ∙ stays_found at us is
      by false e some rest = rest some

  -- of the entries of one event the last that passes is that of the unique key, where the event passes
  last_by : (at : ℕ) (o : Option ChangeEvent) (last : Option Entry) → change_at schema events at ≡ o
      → last_entry answers last (entries_by schema at o) ≡ (if passes o then Some (entry_at at unique) else last)
  last_by at None last is = refl
  last_by at (Some g) last is = by (passes (Some g)) refl
    where
      keys : passes (Some g) ≡ true → list_any (λ u. u == unique) (released_keys schema g) ≡ true
      keys all =
          let parts = three (g.change.row.table == table) (is_handed (released schema unique g.change) (Some values)) (nat_lt g.vsn vsn) all in
          let tuple = handed_tuple (released schema unique g.change) values parts.1 in
          let low = released_within schema unique g.change values tuple in
          in_keys (λ u. is_some (released schema u g.change)) unique 0 (unique_keys_in (slice_get schema g.change.row.table)) (ap is_some tuple)
          (omega arith) (omega (arith, low))

      by : (b : Bool) → passes (Some g) ≡ b → last_entry answers last (map (entry_at at) (released_keys schema g))
          ≡ (if b then Some (entry_at at unique) else last)
      by true all = one_of_keys at (released_keys schema g) last (ap passes is ∙ all) (keys all)
      by false all = none_of_keys at (released_keys schema g) last (ap passes is ∙ all)

  abbrev in_front : List ChangeEvent → List ChangeEvent
  in_front es = filter (λ (g : ChangeEvent). nat_lt g.vsn vsn) es

  -- ---- all of them

  last_over : (places : List ℕ) (last : Option Entry) (found : Option ChangeEvent) → option_and_then at_place last ≡ found
      → option_and_then at_place (last_entry answers last (entries_of schema events places))
      ≡ last_releaser schema table unique values found (in_front (events_at schema events places))
  last_over [] last found same = same
  last_over (at ∷ places) last found same =
      ap (option_and_then at_place) (last_entry-append answers last (entries_at schema events at) (entries_of schema events places)
      ∙ ap (λ l. last_entry answers l (entries_of schema events places)) (last_by at (change_at schema events at) last refl))
      ∙ by (change_at schema events at) refl (last_over places)
    where
      Rest : Type 0
      Rest = (last : Option Entry) (found : Option ChangeEvent) → option_and_then at_place last ≡ found
          → option_and_then at_place (last_entry answers last (entries_of schema events places))
          ≡ last_releaser schema table unique values found (in_front (events_at schema events places))

      joined : (g : ChangeEvent) → change_at schema events at ≡ Some g → (d : Bool)
          → option_and_then at_place (if d then Some (entry_at at unique) else last) ≡ (if d then Some g else found)
      joined g there true = there
      joined g there false = same

      two_of_three : (a b d c : Bool) → b ≡ d → c ≡ true → (a && b && c) ≡ (a && d)
      two_of_three a b d true is refl_true = and_true (a && b) ∙ ap (λ x. a && x) is
        where
          and_true : (x : Bool) → (x && true) ≡ x
          and_true true = refl
          and_true false = refl
      two_of_three a b d false is e = cc

      last_false : (x c : Bool) → c ≡ false → (x && c) ≡ false
      last_false true c is = is
      last_false false c is = refl

      of_event : (g : ChangeEvent) → change_at schema events at ≡ Some g → Rest → (c : Bool) → nat_lt g.vsn vsn ≡ c
          → option_and_then at_place (last_entry answers (if passes (Some g) then Some (entry_at at unique) else last) (entries_of schema events places))
          ≡ last_releaser schema table unique values found
          (if c then g ∷ in_front (events_at schema events places) else in_front (events_at schema events places))
      of_event g there rest true low =
          ap (λ b. option_and_then at_place (last_entry answers (if b then Some (entry_at at unique) else last) (entries_of schema events places)))
          (two_of_three (g.change.row.table == table) (is_handed (released schema unique g.change) (Some values))
          (same_tuple (released schema unique g.change) (Some values)) (nat_lt g.vsn vsn)
          (handed_is_same (released schema unique g.change) values) low)
          ∙ rest (if does_release schema table unique values g then Some (entry_at at unique) else last)
          (if does_release schema table unique values g then Some g else found)
          (joined g there (does_release schema table unique values g))
      of_event g there rest false low =
          ap (λ b. option_and_then at_place (last_entry answers (if b then Some (entry_at at unique) else last) (entries_of schema events places)))
          (last_false ((g.change.row.table == table) && is_handed (released schema unique g.change) (Some values)) (nat_lt g.vsn vsn) low)
          ∙ rest last found same

      by : (o : Option ChangeEvent) → change_at schema events at ≡ o → Rest
          → option_and_then at_place (last_entry answers (if passes o then Some (entry_at at unique) else last) (entries_of schema events places))
          ≡ last_releaser schema table unique values found (in_front (cons_option o (events_at schema events places)))
      by None there rest = rest last found same
      by (Some g) there rest = of_event g there rest (nat_lt g.vsn vsn) refl

  -- a node that answers stands in the bucket of the tuple
  answers_inside : (buckets lanes : ℕ) (n : Node Entry) → IsFiled schema events buckets lanes n → answers n.item ≡ true
      → n.bucket ≡ tuple_hash table unique values % buckets
  answers_inside buckets lanes n filed is =
      let both = two (n.item.unique == unique) (passes (change_at schema events n.item.at)) is in
      let parts = three (filed.event.change.row.table == table) (is_handed (released schema unique filed.event.change) (Some values))
      (nat_lt filed.event.vsn vsn)
      (sym (ap passes filed.there) ∙ both.1) in
      let key : n.item.unique ≡ unique = eqb-true n.item.unique unique both.0 in
      let same : filed.values ≡ values = same_Some filed.values values
      (sym filed.releases ∙ ap (λ u. released schema u filed.event.change) key ∙ handed_tuple (released schema unique filed.event.change) values parts.1) in
      filed.bucket
      ∙ ap (λ t. tuple_hash t n.item.unique filed.values % buckets) (eqb-true filed.event.change.row.table table parts.0)
      ∙ ap (λ u. tuple_hash table u filed.values % buckets) key
      ∙ ap (λ vs. tuple_hash table unique vs % buckets) same
    where
      two : (a b : Bool) → (a && b) ≡ true → (a ≡ true) × (b ≡ true)
      two true b h = (refl, h)
      two false b h = cc

  all_inside : (buckets lanes : ℕ) (ns : List (Node Entry)) → AllByRecursion (IsFiled schema events buckets lanes) ns
      → AllByRecursion (λ (n : Node Entry). answers n.item ≡ true → n.bucket ≡ tuple_hash table unique values % buckets) ns
  all_inside buckets lanes [] filed = tt
  all_inside buckets lanes (n ∷ ns) filed = (answers_inside buckets lanes n filed.0, all_inside buckets lanes ns filed.1)

  item_place : (o : Option (Node Entry)) → option_and_then (change_at schema events) (option_map (λ (n : Node Entry). n.item.at) o)
      ≡ option_and_then at_place (option_map (λ (n : Node Entry). n.item) o)
  item_place None = refl
  item_place (Some n) = refl

  -- the last node of the bucket that answers is of the last event in front that releases the tuple
  pub last_is_releaser : (cache : Contents Entry) (places : List ℕ) → Caches cache schema events places
      → option_and_then (change_at schema events) (option_map (λ (n : Node Entry). n.item.at)
      (last_passing (λ (n : Node Entry). answers n.item) None (in_bucket cache.nodes (tuple_hash table unique values % cache.buckets))))
      ≡ last_releaser schema table unique values None (in_front (events_at schema events places))
  last_is_releaser cache places caches =
      ap (λ o. option_and_then (change_at schema events) (option_map (λ (n : Node Entry). n.item.at) o))
      (last_inside (λ (n : Node Entry). answers n.item) (tuple_hash table unique values % cache.buckets) cache.nodes None
      (all_inside cache.buckets cache.lanes cache.nodes caches.filed))
      ∙ item_place (last_passing (λ (n : Node Entry). answers n.item) None cache.nodes)
      ∙ ap (option_and_then at_place) (last_items answers cache.nodes None ∙ ap (last_entry answers None) caches.entries)
      ∙ last_over places None None refl

  seen_at : (place : Option ℕ) → option_map (as_row_change schema) (option_and_then (change_there events) place)
      ≡ option_map vsn_and_change (option_and_then (change_at schema events) place)
  seen_at None = refl
  seen_at (Some at) = same_pair schema events at

  -- the place of the last node that answers tells the last event in front that releases the tuple of a row
  pub releaser_at : (cache : Contents Entry) (places : List ℕ) (row : List Value) (place : Option ℕ) (pair : Option (ℕ × Change))
      → Caches cache schema events places → tuple_in schema table unique (Some row) ≡ Some values
      → place ≡ option_map (λ (n : Node Entry). n.item.at)
      (last_passing (λ (n : Node Entry). does_answer schema events table unique (tuple_in schema table unique (Some row)) vsn n.item) None
      (in_bucket cache.nodes (tuple_hash table unique (values_at row (columns_of (unique_key_at (slice_get schema table) unique))) % cache.buckets)))
      → pair ≡ option_and_then (change_there events) place
      → option_map (as_row_change schema) pair ≡ option_map vsn_and_change
      (last_releaser schema table unique values None (in_front (events_at schema events places)))
  releaser_at cache places row place pair caches tuple is told =
      ap (option_map (as_row_change schema)) told
      ∙ seen_at place
      ∙ ap (λ p. option_map vsn_and_change (option_and_then (change_at schema events) p))
      (is
      ∙ ap (λ t. option_map (λ (n : Node Entry). n.item.at) (last_passing (λ (n : Node Entry). does_answer schema events table unique t vsn n.item) None
      (in_bucket cache.nodes (tuple_hash table unique (values_at row (columns_of (unique_key_at (slice_get schema table) unique))) % cache.buckets)))) tuple
      ∙ ap (λ vs. option_map (λ (n : Node Entry). n.item.at) (last_passing (λ (n : Node Entry). answers n.item) None
      (in_bucket cache.nodes (tuple_hash table unique vs % cache.buckets)))) (tuple_values schema table unique row values tuple))
      ∙ ap (option_map vsn_and_change) (last_is_releaser cache places caches)
