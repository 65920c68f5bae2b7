-- What a change gives up and takes of a unique key of its table, key by key.
use Rattle.std.specs.Prelude.{◌≡◌, ◌+◌, ◌==◌, ℕ, zero, suc, Bool, true, false, List, [], ◌∷◌, ◌||◌, ◌&&◌, Option, Some, None, is_some, length, not, refl, slice_get, if◌then◌else◌}
use Rattle.std.specs.List.{list_any, range_with_len}
use Rattle.std.proofs.Common.{ap, arith, sym, ◌∙◌}
use Rattle.std.proofs.lemmas.Bool.{eq-eqb, ne_eqb}
use Rattle.std.proofs.lemmas.Bool.Decides.{same_from_decides}
use Rattle.std.proofs.lemmas.Option.{none-some, same_Some}
use Rattle.voy_schema.specs.Rows.{counting_tuple, counts, tuple_of, values_at}
use Rattle.voy_schema.specs.declared.table.Table.{Table}
use Rattle.voy_schema.specs.declared.table.UniqueKey.{UniqueKey}
use Rattle.voy_schema.specs.declared.value.Value.{Value}
use Rattle.voy_tables.specs.Changes.{RowChange, after_of, before_of, row_change, table_of}
use Rattle.voy_tables.specs.Keys.{same_tuple}
use Rattle.voy_tables.specs.declared.change.Change.{Change}
use Rattle.voy_tables.specs.SameLaws.{same_tuple-decides}
use Rattle.voy_tables.specs.Tables.{tuple_in}
use Rattle.voy_order.specs.Conflicts.{acquired, acquiring_row, hands_over, is_handed, released, releasing_row, unique_keys_in, unique_keys_of}
use Rattle.voy_order.specs.RowsLost.{is_handed_for, row_lost, tuple_lost, unique_key_at}

-- the counting tuple for a unique key that may be there
abbrev tuple_by : Option UniqueKey → Option (List Value) → Option (List Value)
tuple_by None row = None
tuple_by (Some key) row = counting_tuple key row

-- a row without an end at the other side keeps its tuple where it has none
pub kept_by_none : (key : UniqueKey) (row : List Value)
    → not (counts key (values_at row key.columns)) ≡ same_tuple (counting_tuple key (Some row)) None
unfolding same_tuple
kept_by_none key row = go (counts key (values_at row key.columns))
  where
    go : (b : Bool) → not b ≡ same_tuple (if b then Some (values_at row key.columns) else None) None
    go true = refl
    go false = refl

tuple_is : (schema : List Table) (table unique : ℕ) (row : Option (List Value))
    → tuple_in schema table unique row ≡ tuple_by (unique_key_at (slice_get schema table) unique) row
unfolding tuple_in tuple_of
tuple_is schema table unique row = by (slice_get schema table) refl where
  by : (found : Option Table) → slice_get schema table ≡ found → tuple_in schema table unique row ≡ tuple_by (unique_key_at (slice_get schema table) unique) row
  by None is = rw is refl
  by (Some t) is = rw is (at (slice_get t.unique_keys unique) refl) where
    at : (key : Option UniqueKey) → slice_get t.unique_keys unique ≡ key → tuple_of t unique row ≡ tuple_by (slice_get t.unique_keys unique) row
    at None e = rw e refl
    at (Some key) e = rw e refl

-- the tuple and the row that are lost of a unique key that may be there
abbrev lost_by : Option UniqueKey → Option (List Value) → Option (List Value) → Option (List Value)
lost_by None row other = None
lost_by (Some key) row other = tuple_lost key row other

abbrev pub row_lost_by : Option UniqueKey → Option (List Value) → Option (List Value) → Option (List Value)
row_lost_by None row other = None
row_lost_by (Some key) row other = row_lost key row other

abbrev unlike : (Option (List Value) → Option (List Value)) → Option (List Value) → Option (List Value) → Option (List Value)
unlike tuple row other = if same_tuple (tuple row) (tuple other) then None else tuple row

abbrev unlike_other : (Option (List Value) → Option (List Value)) → Option (List Value) → Option (List Value) → Option (List Value)
unlike_other tuple row other = if same_tuple (tuple other) (tuple row) then None else tuple row

abbrev row_if : (Option (List Value) → Option (List Value) → Option (List Value)) → Option (List Value) → Option (List Value) → Option (List Value)
row_if lost row other = if is_some (lost row other) then row else None

tuples_are : (schema : List Table) (table unique : ℕ) → tuple_in schema table unique ≡ tuple_by (unique_key_at (slice_get schema table) unique)
tuples_are schema table unique = λ i row. tuple_is schema table unique row i

unlike_none : (row other : Option (List Value)) → unlike (tuple_by None) row other ≡ None
unfolding same_tuple
unlike_none row other = refl

-- what is released, key by key
pub released_is : (schema : List Table) (unique : ℕ) (c : RowChange)
    → released schema unique c ≡ lost_by (unique_key_at (slice_get schema c.row.table) unique) c.before c.after
released_is schema unique c =
    ap (λ tuple. unlike tuple c.before c.after) (tuples_are schema c.row.table unique) ∙ at (unique_key_at (slice_get schema c.row.table) unique)
  where
    at : (key : Option UniqueKey) → unlike (tuple_by key) c.before c.after ≡ lost_by key c.before c.after
    at None = unlike_none c.before c.after
    at (Some key) = refl

same_tuple-sym : (a b : Option (List Value)) → same_tuple a b ≡ same_tuple b a
same_tuple-sym a b = same_from_decides (same_tuple a b) (same_tuple b a) (same_tuple-decides a b) (λ h. sym ((same_tuple-decides b a).0 h), λ e. (same_tuple-decides b a).1 (sym e))

pub acquired_is : (schema : List Table) (unique : ℕ) (c : RowChange)
    → acquired schema unique c ≡ lost_by (unique_key_at (slice_get schema c.row.table) unique) c.after c.before
acquired_is schema unique c =
    ap (λ tuple. unlike_other tuple c.after c.before) (tuples_are schema c.row.table unique) ∙ at (unique_key_at (slice_get schema c.row.table) unique)
  where
    at : (key : Option UniqueKey) → unlike_other (tuple_by key) c.after c.before ≡ lost_by key c.after c.before
    at None = ap (λ b. if b then None else None) (same_tuple-sym (tuple_by None c.before) (tuple_by None c.after)) ∙ unlike_none c.after c.before
    at (Some key) = ap (λ b. if b then None else counting_tuple key c.after) (same_tuple-sym (counting_tuple key c.before) (counting_tuple key c.after))

row_by : (key : Option UniqueKey) (row other : Option (List Value)) → row_if (lost_by key) row other ≡ row_lost_by key row other
row_by None row other = refl
row_by (Some key) row other = refl

-- the rows that are told of a change
pub releasing_row_is : (schema : List Table) (unique : ℕ) (c : RowChange)
    → releasing_row schema unique c ≡ row_lost_by (unique_key_at (slice_get schema c.row.table) unique) c.before c.after
releasing_row_is schema unique c =
    ap (λ tuple. if is_some tuple then c.before else None) (released_is schema unique c) ∙ row_by (unique_key_at (slice_get schema c.row.table) unique) c.before c.after

pub acquiring_row_is : (schema : List Table) (unique : ℕ) (c : RowChange)
    → acquiring_row schema unique c ≡ row_lost_by (unique_key_at (slice_get schema c.row.table) unique) c.after c.before
acquiring_row_is schema unique c =
    ap (λ tuple. if is_some tuple then c.after else None) (acquired_is schema unique c) ∙ row_by (unique_key_at (slice_get schema c.row.table) unique) c.after c.before

if_none : (b : Bool) → Path (Option (List Value)) (if b then None else None) None
if_none true = refl
if_none false = refl

no_tuple_lost : (key : UniqueKey) (other : Option (List Value)) → tuple_lost key None other ≡ None
no_tuple_lost key other = if_none (same_tuple None (counting_tuple key other))

-- a row that is lost has the tuple that is
pub row_lost-none : (key : UniqueKey) (row other : Option (List Value)) → row_lost key row other ≡ None → tuple_lost key row other ≡ None
row_lost-none key None other is = no_tuple_lost key other
row_lost-none key (Some row) other is = by (tuple_lost key (Some row) other) refl
  where
    by : (tuple : Option (List Value)) → tuple_lost key (Some row) other ≡ tuple → tuple_lost key (Some row) other ≡ None
    by None e = e
    by (Some values) e = absurd (none-some row (sym is ∙ ap (λ t. if is_some t then Some row else None) e))

row_from : (row lost : List Value) (tuple : Option (List Value)) → (if is_some tuple then Some row else None) ≡ Some lost → row ≡ lost
row_from row lost None is = absurd (none-some lost is)
row_from row lost (Some values) is = same_Some row lost is

is_there : (b : Bool) (row : Option (List Value)) (lost : List Value) → (if b then row else None) ≡ Some lost → b ≡ true
is_there true row lost is = refl
is_there false row lost is = absurd (none-some lost is)

pub row_lost-some : (key : UniqueKey) (row other : Option (List Value)) (lost : List Value) → row_lost key row other ≡ Some lost
    → tuple_lost key row other ≡ counting_tuple key (Some lost)
row_lost-some key None other lost is = absurd (none-some lost (sym (ap (λ (t : Option (List Value)). if is_some t then None else None) (no_tuple_lost key other)) ∙ is))
row_lost-some key (Some row) other lost is = by (same_tuple (counting_tuple key (Some row)) (counting_tuple key other)) refl
  where
    by : (b : Bool) → same_tuple (counting_tuple key (Some row)) (counting_tuple key other) ≡ b → tuple_lost key (Some row) other ≡ counting_tuple key (Some lost)
    by true e = absurd (none-some lost (sym (ap (λ b. if is_some (if b then None else counting_tuple key (Some row)) then Some row else None) e) ∙ is))
    by false e = rw e (ap (λ r. counting_tuple key (Some r))
        (row_from row lost (counting_tuple key (Some row)) (sym (ap (λ b. if is_some (if b then None else counting_tuple key (Some row)) then Some row else None) e) ∙ is)))

same_is_handed : (a b : Option (List Value)) → is_some a ≡ true → same_tuple a b ≡ is_handed a b
unfolding same_tuple
same_is_handed None b is = cc
same_is_handed (Some a) None is = refl
same_is_handed (Some a) (Some b) is = refl

-- what one change gives up and another takes, by the rows
pub handed_by_rows : (key : UniqueKey) (before after other_after other_before : Option (List Value)) (first second : List Value)
    → row_lost key before after ≡ Some first → row_lost key other_after other_before ≡ Some second
    → same_tuple (counting_tuple key (Some first)) (counting_tuple key (Some second))
    ≡ is_handed (tuple_lost key before after) (tuple_lost key other_after other_before)
handed_by_rows key before after other_after other_before first second lost taken =
    ap (λ a. same_tuple a (counting_tuple key (Some second))) (sym (row_lost-some key before after first lost))
    ∙ ap (λ b. same_tuple (tuple_lost key before after) b) (sym (row_lost-some key other_after other_before second taken))
    ∙ same_is_handed (tuple_lost key before after) (tuple_lost key other_after other_before) (is_there (is_some (tuple_lost key before after)) before first lost)

one_more : (i : ℕ) → i + 1 ≡ suc i
one_more i = omega arith

any_shift : (p : ℕ → Bool) (a n : ℕ) → list_any p (range_with_len (a + 1) n) ≡ list_any (λ i. p (i + 1)) (range_with_len a n)
any_shift p a zero = refl
any_shift p a (suc n) = ap (λ b. p (a + 1) || b) (any_shift p (a + 1) n)

-- some place of a list passes where some item does
pub any_places : (f : Option UniqueKey → Bool) (keys : List UniqueKey)
    → list_any (λ n. f (slice_get keys n)) (range_with_len 0 (length keys)) ≡ list_any (λ k. f (Some k)) keys
any_places f [] = refl
any_places f (k ∷ keys) =
    ap (λ b. f (Some k) || b)
    (any_shift (λ n. f (slice_get (k ∷ keys) n)) 0 (length keys)
    ∙ ap (λ (next : ℕ → ℕ). list_any (λ i. f (slice_get (k ∷ keys) (next i))) (range_with_len 0 (length keys))) (λ j i. one_more i j)
    ∙ any_places f keys)

abbrev handed_of : RowChange → RowChange → Option UniqueKey → Bool
handed_of first second key = is_handed (lost_by key first.before first.after) (lost_by key second.after second.before)

handed_at : (schema : List Table) (first second : RowChange) → first.row.table ≡ second.row.table → (unique : ℕ)
    → is_handed (released schema unique first) (acquired schema unique second)
    ≡ handed_of first second (unique_key_at (slice_get schema first.row.table) unique)
handed_at schema first second same unique =
    ap (λ a. is_handed a (acquired schema unique second)) (released_is schema unique first)
    ∙ ap (is_handed (lost_by (unique_key_at (slice_get schema first.row.table) unique) first.before first.after))
    (acquired_is schema unique second ∙ ap (λ table. lost_by (unique_key_at (slice_get schema table) unique) second.after second.before) (sym same))

abbrev some_handed : RowChange → RowChange → Option Table → Bool
some_handed first second t = list_any (λ unique. handed_of first second (unique_key_at t unique)) (range_with_len 0 (unique_keys_in t))

-- of two changes of one table: whether a tuple passes for some place of its unique keys
hands_over_by : (schema : List Table) (first second : RowChange) → first.row.table ≡ second.row.table
    → hands_over schema first second ≡ some_handed first second (slice_get schema first.row.table)
unfolding hands_over
hands_over_by schema first second same =
    ap (λ b. b && list_any (λ unique. is_handed (released schema unique first) (acquired schema unique second)) (unique_keys_of schema first.row.table))
    (eq-eqb first.row.table second.row.table same)
    ∙ ap (λ (test : ℕ → Bool). list_any test (unique_keys_of schema first.row.table)) (λ i unique. handed_at schema first second same unique i)

-- whether a tuple passes, key by key of the table
pub hands_over_is : (schema : List Table) (t : Table) (first second : RowChange) → slice_get schema first.row.table ≡ Some t
    → first.row.table ≡ second.row.table
    → hands_over schema first second
    ≡ list_any (λ key. is_handed (tuple_lost key first.before first.after) (tuple_lost key second.after second.before)) t.unique_keys
hands_over_is schema t first second found same =
    hands_over_by schema first second same ∙ ap (some_handed first second) found ∙ any_places (handed_of first second) t.unique_keys

-- nothing passes between tables, or in one that is not there
pub hands_over-apart : (schema : List Table) (first second : RowChange) → (first.row.table == second.row.table) ≡ false → hands_over schema first second ≡ false
unfolding hands_over
hands_over-apart schema first second apart = ap (λ b. b && list_any (λ unique. is_handed (released schema unique first) (acquired schema unique second)) (unique_keys_of schema first.row.table)) apart

pub hands_over-none : (schema : List Table) (first second : RowChange) → slice_get schema first.row.table ≡ None
    → first.row.table ≡ second.row.table → hands_over schema first second ≡ false
hands_over-none schema first second none same = hands_over_by schema first second same ∙ ap (some_handed first second) none

-- the same rows, by the unique key that was found
pub releasing_row_by : (schema : List Table) (unique table : ℕ) (change : Change) (key : Option UniqueKey)
    → table ≡ table_of change → key ≡ unique_key_at (slice_get schema table) unique
    → row_lost_by key (before_of change) (after_of change) ≡ releasing_row schema unique (row_change schema change)
releasing_row_by schema unique table change key at is =
    ap (λ k. row_lost_by k (before_of change) (after_of change)) (is ∙ ap (λ t. unique_key_at (slice_get schema t) unique) at)
    ∙ sym (releasing_row_is schema unique (row_change schema change))

pub acquiring_row_by : (schema : List Table) (unique table : ℕ) (change : Change) (key : Option UniqueKey)
    → table ≡ table_of change → key ≡ unique_key_at (slice_get schema table) unique
    → row_lost_by key (after_of change) (before_of change) ≡ acquiring_row schema unique (row_change schema change)
acquiring_row_by schema unique table change key at is =
    ap (λ k. row_lost_by k (after_of change) (before_of change)) (is ∙ ap (λ t. unique_key_at (slice_get schema t) unique) at)
    ∙ sym (acquiring_row_is schema unique (row_change schema change))

pub row_found : (key : UniqueKey) (row other row_now other_now result : Option (List Value)) (lost : List Value)
    → result ≡ row_lost key row_now other_now → row_now ≡ row → other_now ≡ other → result ≡ Some lost
    → row_lost key row other ≡ Some lost
row_found key row other row_now other_now result lost is one two some =
    sym (is ∙ ap (λ r. row_lost key r other_now) one ∙ ap (row_lost key row) two) ∙ some

-- the same of changes as the code has them
pub hands_over_found : (schema : List Table) (first second : Change) (t : Table) → table_of first ≡ table_of second
    → slice_get schema (table_of first) ≡ Some t
    → list_any (λ unique. is_handed_for unique first second) t.unique_keys ≡ hands_over schema (row_change schema first) (row_change schema second)
hands_over_found schema first second t same found = sym (hands_over_is schema t (row_change schema first) (row_change schema second) found same)

pub hands_over_elsewhere : (schema : List Table) (first second : Change) → (table_of first ≡ table_of second → ⊥)
    → false ≡ hands_over schema (row_change schema first) (row_change schema second)
hands_over_elsewhere schema first second apart =
    sym (hands_over-apart schema (row_change schema first) (row_change schema second) (ne_eqb (table_of first) (table_of second) apart))

pub hands_over_nowhere : (schema : List Table) (first second : Change) → table_of first ≡ table_of second
    → slice_get schema (table_of first) ≡ None
    → false ≡ hands_over schema (row_change schema first) (row_change schema second)
hands_over_nowhere schema first second same none = sym (hands_over-none schema (row_change schema first) (row_change schema second) none same)
