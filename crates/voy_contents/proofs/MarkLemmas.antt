-- Marks: what they say at first, and once a transaction is noted.
use Rattle.std.proofs.Common.{◌≡◌, ◌+◌, ◌-◌, ◌<◌, ◌≤◌, ℕ, zero, suc, Bool, true, false, List, [], ◌∷◌, ◌++◌, Option, Some, None, length, drop, refl, sym, ap, ◌∙◌, subst, arith, zero-add}
use Rattle.std.proofs.lemmas.Bool.{and_from, and_parts, eqb-false, eqb-true, eq-eqb, false_from_ne_true, ltb-true}
use Rattle.std.proofs.lemmas.List.{drop_all}
use Rattle.std.proofs.lemmas.List.Sums.{sum_by-append}
use Rattle.std.proofs.lemmas.Option.{none-some, same_Some}
use Rattle.std.specs.List.{cons_option, filter_map}
use Rattle.std.specs.Prelude.{◌&&◌, ◌||◌, ◌==◌, ◌^◌, cond, count_by, nat_eq, nat_lt, slice_get, slice_set, if◌then◌else◌}
use Rattle.voy_event.specs.declared.event.Event.{Event}
use Rattle.voy_schema.specs.declared.table.Table.{Table}
use Rattle.voy_schema.specs.declared.value.Value.{Value}
use Rattle.voy_contents.proofs.ListLemmas.{drop_at, get_push, get_set, length_push, length_set}
use Rattle.voy_contents.specs.Known.{with_marks}
use Rattle.voy_contents.specs.Marks.{AddsChanges, batches_in, batch_rows_in, changes_in, says}
use Rattle.voy_txn.specs.TableNames.{are_below}
use Rattle.voy_contents.specs.Vsns.{vsns_in}
use Rattle.voy_contents.specs.Numbers.{has_number}
use Rattle.voy_contents.specs.declared.marks.Marks.{Marks}
use Rattle.voy_contents.specs.declared.table_marks.TableMarks.{TableMarks}
use Rattle.voy_tables.specs.Changes.{table_of}
use Rattle.voy_tables.specs.Lists.{empty_lists}
use Rattle.voy_tables.specs.declared.change.Change.{Change}
use Rattle.voy_txn.specs.Contents.{contents_of}
use Rattle.voy_txn.specs.History.{counted, last_vsn, vsns_after}
use Rattle.voy_event.specs.Events.{change_in}
use Rattle.voy_txn.specs.declared.txn.Txn.TheVariants.{Batch, Events, Epoch}

or_nothing : (b : Bool) → (b || false) ≡ b
or_nothing true = refl
or_nothing false = refl

-- so many tables with no batches and no changes
pub record AreUnmarked (count : ℕ) (tables : List TableMarks) : Type 0 where
  pub as_many : length tables ≡ count
  pub batches : (n : ℕ) → batches_in (slice_get tables n) ≡ []
  pub batch_rows : (n : ℕ) → batch_rows_in (slice_get tables n) ≡ 0
  pub changes : (n : ℕ) → changes_in (slice_get tables n) ≡ 0

pub none_unmarked : AreUnmarked 0 []
none_unmarked = record { as_many = refl; batches = λ n. refl; batch_rows = λ n. refl; changes = λ n. refl }

-- what holds of an item and of all items of a list holds of all items of the list with it at its end
push_all : {A X : Type 0} (f : Option A → X) (x : X) (xs : List A) (y : A) → ((n : ℕ) → f (slice_get xs n) ≡ x) → f (Some y) ≡ x → (n : ℕ) → f (slice_get (xs ++ y ∷ []) n) ≡ x
push_all f x xs y all one n = ap f (get_push xs y n) ∙ by (nat_eq n (length xs)) where
  by : (b : Bool) → f (if b then Some y else slice_get xs n) ≡ x
  by true = one
  by false = all n

pub one_unmarked : (count : ℕ) (tables : List TableMarks) (made : TableMarks) → AreUnmarked count tables → made.batches.items ≡ [] → made.batch_rows ≡ 0 → made.changes ≡ 0
    → AreUnmarked (count + 1) (tables ++ made ∷ [])
one_unmarked count tables made are batches batch_rows changes = record {
  as_many = length_push tables made ∙ ap (λ n. n + 1) are.as_many;
  batches = push_all batches_in [] tables made are.batches batches;
  batch_rows = push_all batch_rows_in 0 tables made are.batch_rows batch_rows;
  changes = push_all changes_in 0 tables made are.changes changes;
}

-- such marks say what a store with no transactions knows
pub unmarked_says : (schema : List Table) (count : ℕ) (marks : Marks) → AreUnmarked count marks.tables → ((c : ℕ) → vsns_in marks.vsns c ≡ 0) → marks.channels ≡ None → marks.loaded ≡ false
    → says (empty_lists schema) marks ≡ contents_of schema []
unmarked_says schema count marks are vsns channels loaded = λ i. record {
  tables = empty_lists schema;
  vsns = λ c. vsns c i;
  channels = channels i;
  has_batch = λ table batch. has_number batch (are.batches table i);
  loaded = loaded i;
  batch_rows = λ table. are.batch_rows table i;
  changes = λ table. are.changes table i;
}

-- a batch is noted
pub noted : (number q : ℕ) (batches : List ℕ) → has_number q (batches ++ number ∷ []) ≡ (has_number q batches || (number == q))
noted number q [] = or_nothing (number == q)
noted number q (n ∷ batches) = ap (λ b. (n == q) || b) (noted number q batches) ∙ grouped (n == q) (has_number q batches) (number == q) where
  grouped : (a b c : Bool) → (a || (b || c)) ≡ ((a || b) || c)
  grouped true b c = refl
  grouped false b c = refl

-- the last vsn is that of the last item
last_is : (vsn : ℕ) (items : List Event) (n : ℕ) (item : Event) → length items ≡ suc n → slice_get items n ≡ Some item → last_vsn vsn items ≡ item.vsn
last_is vsn [] n item long at = absurd (none-some item at)
last_is vsn (x ∷ []) zero item long at = ap (λ (i : Event). i.vsn) (same_Some x item at)
last_is vsn (x ∷ []) (suc n) item long at = absurd (none-some item at)
last_is vsn (x ∷ y ∷ items) zero item long at = absurd (omega (arith, long))
last_is vsn (x ∷ y ∷ items) (suc n) item long at = last_is x.vsn (y ∷ items) n item (omega (arith, long)) at

-- the vsn of the channel is raised
pub raised : (channel : ℕ) (items : List Event) (item : Event) (old new : ℕ → ℕ) → slice_get items (length items - 1) ≡ Some item → ((c : ℕ) → new c ≡ (if c == channel then item.vsn else old c))
    → (c : ℕ) → new c ≡ vsns_after old (Events channel items) c
raised channel items item old new at set c = set c ∙ by (c == channel) where
  some : (xs : List Event) → slice_get xs (length xs - 1) ≡ Some item → length xs ≡ suc (length xs - 1)
  some [] found = absurd (none-some item found)
  some (x ∷ xs) found = omega arith

  by : (same : Bool) → (if same then item.vsn else old c) ≡ (if same then last_vsn (old c) items else old c)
  by true = sym (last_is (old c) items (length items - 1) item (some items at) at)
  by false = refl

-- counts add up, also where they stay at their end
counted_on : (a b c : ℕ) → counted (counted (a + b) + c) ≡ counted (a + (b + c))
counted_on a b c = omega arith

pub nothing_added : (tables : List TableMarks) → AddsChanges [] tables tables
nothing_added tables = record { as_many = refl; batches = λ n. refl; batch_rows = λ n. refl; changes = λ n. by (slice_get tables n) } where
  by : (marks : Option TableMarks) → changes_in marks ≡ counted (changes_in marks + 0)
  by None = refl
  by (Some marks) =
      let small : marks.changes < 2 ^ 64 = marks.small in
      omega (arith, small)

count_cons : (c : Change) (cs : List Change) (n : ℕ) → count_by (λ x. table_of x == n) (c ∷ cs) ≡ (if table_of c == n then 1 else 0) + count_by (λ x. table_of x == n) cs
count_cons c cs n = sum_by-append (λ x. cond (table_of x == n) 1 0) (c ∷ []) cs ∙ ap (λ k. k + count_by (λ x. table_of x == n) cs) (by (table_of c == n)) where
  by : (b : Bool) → 0 + cond b 1 0 ≡ (if b then 1 else 0)
  by true = refl
  by false = refl

-- one change is counted
pub one_added : (c : Change) (tables : List TableMarks) (before after : TableMarks) → table_of c < length tables → slice_get tables (table_of c) ≡ Some before
    → after.batches.items ≡ before.batches.items → after.batch_rows ≡ before.batch_rows → after.changes ≡ counted (before.changes + 1)
    → AddsChanges (c ∷ []) tables (slice_set tables (table_of c) after)
one_added c tables before after within was batches batch_rows changes = record {
  as_many = length_set tables (table_of c) after;
  batches = same batches_in batches;
  batch_rows = same batch_rows_in batch_rows;
  changes = λ n. ap changes_in (get_set tables (table_of c) n after within) ∙ by n (nat_eq n (table_of c)) refl;
}
  where
    same : {X : Type 0} (f : Option TableMarks → X) → f (Some after) ≡ f (Some before) → (n : ℕ) → f (slice_get (slice_set tables (table_of c) after) n) ≡ f (slice_get tables n)
    same f is n = ap f (get_set tables (table_of c) n after within) ∙ at (nat_eq n (table_of c)) refl where
      at : (b : Bool) → nat_eq n (table_of c) ≡ b → f (if b then Some after else slice_get tables n) ≡ f (slice_get tables n)
      at true here = is ∙ ap f (sym was ∙ ap (slice_get tables) (sym (eqb-true n (table_of c) here)))
      at false other = refl

    by : (n : ℕ) (b : Bool) → nat_eq n (table_of c) ≡ b → changes_in (if b then Some after else slice_get tables n) ≡ counted (changes_in (slice_get tables n) + count_by (λ x. table_of x == n) (c ∷ []))
    by n true here =
        let is : n ≡ table_of c = eqb-true n (table_of c) here in
        let one : count_by (λ x. table_of x == n) (c ∷ []) ≡ 1 = count_cons c [] n ∙ ap (λ b. (if b then 1 else 0) + 0) (eq-eqb (table_of c) n (sym is)) in
        changes ∙ (λ i. counted (changes_in (sym (ap (slice_get tables) is ∙ was) i) + sym one i))
    by n false other =
        let none : count_by (λ x. table_of x == n) (c ∷ []) ≡ 0 = count_cons c [] n ∙ ap (λ b. (if b then 1 else 0) + 0) (false_from_ne_true (table_of c == n) (λ here. eqb-false n (table_of c) other (sym (eqb-true (table_of c) n here)))) in
        (nothing_added tables).changes n ∙ ap (λ k. counted (changes_in (slice_get tables n) + k)) (sym none)

-- changes are counted in front of others
pub added_then : (first : Option Change) (rest : List Change) (a b c : List TableMarks) → AddsChanges (cons_option first []) a b → AddsChanges rest b c → AddsChanges (cons_option first rest) a c
added_then first rest a b c one more = record {
  as_many = more.as_many ∙ one.as_many;
  batches = λ n. more.batches n ∙ one.batches n;
  batch_rows = λ n. more.batch_rows n ∙ one.batch_rows n;
  changes = λ n. more.changes n ∙ ap (λ k. counted (k + count_by (λ x. table_of x == n) rest)) (one.changes n)
      ∙ counted_on (changes_in (slice_get a n)) (count_by (λ x. table_of x == n) (cons_option first [])) (count_by (λ x. table_of x == n) rest)
      ∙ ap (λ k. counted (changes_in (slice_get a n) + k)) (sym (by n first));
}
  where
    by : (n : ℕ) (o : Option Change) → count_by (λ x. table_of x == n) (cons_option o rest) ≡ count_by (λ x. table_of x == n) (cons_option o []) + count_by (λ x. table_of x == n) rest
    by n None = sym (zero-add _)
    by n (Some c) = sum_by-append (λ x. cond (table_of x == n) 1 0) (c ∷ []) rest

-- the changes of the events so far were counted: once the others are, all are
pub record AreCountedTo (items : List Event) (old : List TableMarks) (at : ℕ) (tables : List TableMarks) : Type 0 where
  pub below : are_below (length tables) (filter_map (λ (item : Event). change_in item.what) (drop at items)) ≡ true
  pub then_all : (last : List TableMarks) → AddsChanges (filter_map (λ (item : Event). change_in item.what) (drop at items)) tables last
      → AddsChanges (filter_map (λ (item : Event). change_in item.what) items) old last

-- what holds of changes holds of the first and of the others
below_parts : (count : ℕ) (first : Option Change) (rest : List Change) → are_below count (cons_option first rest) ≡ true → (are_below count (cons_option first []) ≡ true) × (are_below count rest ≡ true)
below_parts count None rest below = (refl, below)
below_parts count (Some c) rest below =
    let parts = and_parts (nat_lt (table_of c) count) (are_below count rest) below in
    (and_from (nat_lt (table_of c) count) true parts.0 refl, parts.1)

pub change_below : (items : List Event) (old : List TableMarks) (at : ℕ) (tables : List TableMarks) (item : Event) → AreCountedTo items old at tables → slice_get items at ≡ Some item
    → are_below (length tables) (cons_option (change_in item.what) []) ≡ true
change_below items old at tables item counted found =
    (below_parts (length tables) (change_in item.what) _ (ap (λ left. are_below (length tables) (filter_map (λ (x : Event). change_in x.what) left)) (sym (drop_at items at item found)) ∙ counted.below)).0

pub one_counted : (items : List Event) (old : List TableMarks) (at : ℕ) (tables after : List TableMarks) (item : Event) → AreCountedTo items old at tables → slice_get items at ≡ Some item
    → AddsChanges (cons_option (change_in item.what) []) tables after → AreCountedTo items old (at + 1) after
one_counted items old at tables after item counted found one = record {
  below = ap (λ n. are_below n (filter_map (λ (x : Event). change_in x.what) (drop (at + 1) items))) one.as_many
      ∙ (below_parts (length tables) (change_in item.what) _ (ap (λ left. are_below (length tables) (filter_map (λ (x : Event). change_in x.what) left)) (sym (drop_at items at item found)) ∙ counted.below)).1;
  then_all = λ last more. counted.then_all last (subst (λ left. AddsChanges (filter_map (λ (x : Event). change_in x.what) left) tables last) (sym (drop_at items at item found))
      (added_then (change_in item.what) (filter_map (λ (x : Event). change_in x.what) (drop (at + 1) items)) tables after last one more));
}

pub all_counted : (items : List Event) (old : List TableMarks) (at : ℕ) (tables : List TableMarks) → AreCountedTo items old at tables → length items ≤ at
    → AddsChanges (filter_map (λ (item : Event). change_in item.what) items) old tables
all_counted items old at tables counted past =
    counted.then_all tables (subst (λ left. AddsChanges (filter_map (λ (x : Event). change_in x.what) left) tables tables) (sym (drop_all at items past)) (nothing_added tables))

-- the marks of one table were exchanged for others
at_table : {X : Type 0} (f : Option TableMarks → X) (tables : List TableMarks) (table : ℕ) (after : TableMarks) → table < length tables
    → (t : ℕ) → f (slice_get (slice_set tables table after) t) ≡ (if t == table then f (Some after) else f (slice_get tables t))
at_table f tables table after within t = ap f (get_set tables table t after within) ∙ by (nat_eq t table) where
  by : (b : Bool) → f (if b then Some after else slice_get tables t) ≡ (if b then f (Some after) else f (slice_get tables t))
  by true = refl
  by false = refl

-- a place for a batch changes nothing that is said
pub same_batches : (lists : List (List (List Value))) (marks : Marks) (table : ℕ) (before after : TableMarks) → nat_lt table (length marks.tables) ≡ true → slice_get marks.tables table ≡ Some before
    → after.batches.items ≡ before.batches.items → after.batch_rows ≡ before.batch_rows → after.changes ≡ before.changes
    → says lists (record marks { tables = slice_set marks.tables table after }) ≡ says lists marks
same_batches lists marks table before after within was batches batch_rows changes = λ i. record {
  tables = lists;
  vsns = vsns_in marks.vsns;
  channels = marks.channels;
  has_batch = λ t n. same (λ m. has_number n (batches_in m)) (ap (has_number n) batches) t i;
  loaded = marks.loaded;
  batch_rows = λ t. same batch_rows_in batch_rows t i;
  changes = λ t. same changes_in changes t i;
}
  where
    same : {X : Type 0} (f : Option TableMarks → X) → f (Some after) ≡ f (Some before) → (t : ℕ) → f (slice_get (slice_set marks.tables table after) t) ≡ f (slice_get marks.tables t)
    same f is t = at_table f marks.tables table after (ltb-true table (length marks.tables) within) t ∙ by (nat_eq t table) refl where
      by : (b : Bool) → nat_eq t table ≡ b → (if b then f (Some after) else f (slice_get marks.tables t)) ≡ f (slice_get marks.tables t)
      by true here = is ∙ ap f (sym was ∙ ap (slice_get marks.tables) (sym (eqb-true t table here)))
      by false other = refl

-- the batch of a table is noted
pub batch_noted : (lists : List (List (List Value))) (marks : Marks) (table number : ℕ) (rows : List (List Value)) (before after : TableMarks) → nat_lt table (length marks.tables) ≡ true
    → slice_get marks.tables table ≡ Some before → after.batches.items ≡ before.batches.items ++ number ∷ []
    → after.batch_rows ≡ counted (before.batch_rows + length rows) → after.changes ≡ before.changes
    → says lists (record marks { tables = slice_set marks.tables table after }) ≡ with_marks (says lists marks) (Batch table number rows)
batch_noted lists marks table number rows before after within was batches batch_rows changes = λ i. record {
  tables = lists;
  vsns = vsns_in marks.vsns;
  channels = marks.channels;
  has_batch = λ t n. (at_table (λ m. has_number n (batches_in m)) marks.tables table after below t ∙ has t n (nat_eq t table) refl) i;
  loaded = sym (or_nothing marks.loaded) i;
  batch_rows = λ t. (at_table batch_rows_in marks.tables table after below t ∙ counts t (nat_eq t table) refl) i;
  changes = λ t. (at_table changes_in marks.tables table after below t ∙ same t (nat_eq t table) refl) i;
}
  where
    below : table < length marks.tables
    below = ltb-true table (length marks.tables) within

    here : (t : ℕ) → nat_eq t table ≡ true → Some before ≡ slice_get marks.tables t
    here t is = sym was ∙ ap (slice_get marks.tables) (sym (eqb-true t table is))

    has : (t n : ℕ) (b : Bool) → nat_eq t table ≡ b
        → (if b then has_number n after.batches.items else has_number n (batches_in (slice_get marks.tables t))) ≡ (has_number n (batches_in (slice_get marks.tables t)) || ((table == t) && (number == n)))
    has t n true is =
        let turned : (table == t) ≡ true = eq-eqb table t (sym (eqb-true t table is)) in
        ap (has_number n) batches ∙ noted number n before.batches.items ∙ (λ i. has_number n (batches_in (here t is i)) || (sym turned i && (number == n)))
    has t n false is =
        let turned : (table == t) ≡ false = false_from_ne_true (table == t) (λ same. eqb-false t table is (sym (eqb-true table t same))) in
        sym (or_nothing _) ∙ (λ i. has_number n (batches_in (slice_get marks.tables t)) || (sym turned i && (number == n)))

    counts : (t : ℕ) (b : Bool) → nat_eq t table ≡ b → (if b then after.batch_rows else batch_rows_in (slice_get marks.tables t))
        ≡ (if b then counted (batch_rows_in (slice_get marks.tables t) + length rows) else batch_rows_in (slice_get marks.tables t))
    counts t true is = batch_rows ∙ ap (λ m. counted (batch_rows_in m + length rows)) (here t is)
    counts t false is = refl

    same : (t : ℕ) (b : Bool) → nat_eq t table ≡ b → (if b then after.changes else changes_in (slice_get marks.tables t)) ≡ changes_in (slice_get marks.tables t)
    same t true is = changes ∙ ap changes_in (here t is)
    same t false is = refl

-- events are noted
pub events_noted : (lists : List (List (List Value))) (marks after : Marks) (channel : ℕ) (items : List Event) → after.loaded ≡ marks.loaded → after.channels ≡ marks.channels
    → ((c : ℕ) → vsns_in after.vsns c ≡ vsns_after (vsns_in marks.vsns) (Events channel items) c)
    → AddsChanges (filter_map (λ (item : Event). change_in item.what) items) marks.tables after.tables
    → says lists after ≡ with_marks (says lists marks) (Events channel items)
events_noted lists marks after channel items loaded channels vsns adds = λ i. record {
  tables = lists;
  vsns = λ c. vsns c i;
  channels = channels i;
  has_batch = λ t n. (ap (has_number n) (adds.batches t) ∙ sym (or_nothing (has_number n (batches_in (slice_get marks.tables t))))) i;
  loaded = (loaded ∙ sym (or_nothing marks.loaded)) i;
  batch_rows = λ t. adds.batch_rows t i;
  changes = λ t. adds.changes t i;
}

-- an epoch is noted
pub epoch_noted : (lists : List (List (List Value))) (marks after : Marks) (vsn channels : ℕ) → after.loaded ≡ marks.loaded → after.channels ≡ Some channels → after.tables ≡ marks.tables
    → ((c : ℕ) → vsns_in after.vsns c ≡ vsn) → says lists after ≡ with_marks (says lists marks) (Epoch vsn channels)
epoch_noted lists marks after vsn channels loaded count tables vsns = λ i. record {
  tables = lists;
  vsns = λ c. vsns c i;
  channels = count i;
  has_batch = λ t n. (ap (λ ms. has_number n (batches_in (slice_get ms t))) tables ∙ sym (or_nothing (has_number n (batches_in (slice_get marks.tables t))))) i;
  loaded = (loaded ∙ sym (or_nothing marks.loaded)) i;
  batch_rows = λ t. batch_rows_in (slice_get (tables i) t);
  changes = λ t. changes_in (slice_get (tables i) t);
}
