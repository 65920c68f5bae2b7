-- The order of keys, and rows that ascend by it.
use Rattle.std.proofs.Common.{◌≡◌, ℕ, zero, suc, ◌+◌, ◌-◌, ◌<◌, ◌≤◌, Bool, true, false, ◌&&◌, List, [], ◌∷◌, drop, get_or, length, refl, sym, ap, ◌∙◌, subst, arith, Ordering}
use Rattle.std.proofs.Math.Seq.{drop-cons, drop-nil}
use Rattle.std.specs.Cmp.{IsTotalOrder}
use Rattle.std.specs.Cmp.Lexicographic.{lists_ties, lists_total, nat_list_cmp_total, slice_cmp, texts_ties}
use Rattle.std.specs.List.{list_all}
use Rattle.std.specs.Ordering.{is_eq, is_lt, nat_cmp, ordering_reverse}
use Rattle.std.specs.Prelude.{if◌then◌else◌}
use Rattle.std.specs.declared.cmp.Ordering.TheVariants.{Less, Equal, Greater}
use Rattle.std.proofs.lemmas.Bool.{and_from, and_parts}
use Rattle.voy_schema.specs.Rows.{key_of}
use Rattle.voy_schema.specs.declared.table.Table.{Table}
use Rattle.voy_schema.specs.declared.value.Value.{Value}
use Rattle.voy_tables.specs.SameLaws.{same_key-decides}
use Rattle.voy_tables.specs.Keys.{key_cmp, same_key}
use Rattle.voy_tables.specs.Lists.{put_by, with_row, without_key}
use Rattle.voy_tables.specs.Standing.{ascends, is_below}

pub key_order : IsTotalOrder key_cmp
key_order = lists_total nat_list_cmp_total

pub same_key-by_cmp : (a b : List (List ℕ)) → same_key a b ≡ is_eq (key_cmp a b)
unfolding same_key
same_key-by_cmp = lists_ties (slice_cmp nat_cmp) texts_ties

pub equal_keys : (a b : List (List ℕ)) → key_cmp a b ≡ Equal → a ≡ b
equal_keys a b e = (same_key-decides a b).0 (same_key-by_cmp a b ∙ ap is_eq e)

pub is_less : (o : Ordering) → is_lt o ≡ true → o ≡ Less
is_less Less h = refl
is_less Equal h = cc
is_less Greater h = cc

pub is_below-trans : (t : Table) (a b c : List Value) → is_below t a b ≡ true → is_below t b c ≡ true → is_below t a c ≡ true
is_below-trans t a b c first second =
    ap is_lt (key_order.trans (key_of t a) (key_of t b) (key_of t c) (is_less _ first) (is_less _ second))

pub all_below-trans : (t : Table) (a b : List Value) (rows : List (List Value))
    → is_below t a b ≡ true → list_all (is_below t b) rows ≡ true → list_all (is_below t a) rows ≡ true
all_below-trans t a b [] first all = refl
all_below-trans t a b (row ∷ rows) first all =
    and_from _ _ (is_below-trans t a b row first (and_parts _ _ all).0) (all_below-trans t a b rows first (and_parts _ _ all).1)

-- what holds of all rows and of a new one holds of all rows with it
pub list_all-with_row : (p : List Value → Bool) (t : Table) (row : List Value) (rows : List (List Value))
    → p row ≡ true → list_all p rows ≡ true → list_all p (with_row t row rows) ≡ true
list_all-with_row p t row [] new all = and_from _ _ new refl
list_all-with_row p t row (r ∷ rows) new all =
    by (key_cmp (key_of t row) (key_of t r)) (list_all-with_row p t row rows new (and_parts _ _ all).1)
  where
    by : (o : Ordering) → list_all p (with_row t row rows) ≡ true → list_all p (put_by o row r rows (with_row t row rows)) ≡ true
    by Less rest = and_from _ _ new all
    by Equal rest = and_from _ _ new (and_parts _ _ all).1
    by Greater rest = and_from _ _ (and_parts _ _ all).0 rest

-- what holds of all rows holds of those that stay
pub list_all-without_key : (p : List Value → Bool) (t : Table) (key : List (List ℕ)) (rows : List (List Value))
    → list_all p rows ≡ true → list_all p (without_key t key rows) ≡ true
list_all-without_key p t key [] all = refl
list_all-without_key p t key (r ∷ rows) all =
    by (same_key (key_of t r) key) (list_all-without_key p t key rows (and_parts _ _ all).1)
  where
    by : (same : Bool) → list_all p (without_key t key rows) ≡ true → list_all p (if same then rows else r ∷ without_key t key rows) ≡ true
    by true rest = (and_parts _ _ all).1
    by false rest = and_from _ _ (and_parts _ _ all).0 rest

-- rows that ascend do so with one more at its place
pub ascends-with_row : (t : Table) (row : List Value) (rows : List (List Value)) → ascends t rows ≡ true → ascends t (with_row t row rows) ≡ true
ascends-with_row t row [] up = refl
ascends-with_row t row (r ∷ rows) up =
    by (key_cmp (key_of t row) (key_of t r)) refl (ascends-with_row t row rows (and_parts _ _ up).1)
  where
    above : key_cmp (key_of t row) (key_of t r) ≡ Greater → is_below t r row ≡ true
    above o = ap is_lt (key_order.antisymm (key_of t r) (key_of t row) ∙ ap ordering_reverse o)

    level : key_cmp (key_of t row) (key_of t r) ≡ Equal → list_all (is_below t row) rows ≡ true
    level o =
        let P : List (List ℕ) → Type 0 = λ key. list_all (λ x. is_lt (key_cmp key (key_of t x))) rows ≡ true in
        subst P (sym (equal_keys _ _ o)) (and_parts _ _ up).0

    by : (o : Ordering) → key_cmp (key_of t row) (key_of t r) ≡ o → ascends t (with_row t row rows) ≡ true
        → ascends t (put_by o row r rows (with_row t row rows)) ≡ true
    by Less o rest =
        and_from _ _ (and_from _ _ (ap is_lt o) (all_below-trans t row r rows (ap is_lt o) (and_parts _ _ up).0)) up
    by Equal o rest = and_from _ _ (level o) (and_parts _ _ up).1
    by Greater o rest = and_from _ _ (list_all-with_row (is_below t r) t row rows (above o) (and_parts _ _ up).0) rest

-- and without one of them
pub ascends-without_key : (t : Table) (key : List (List ℕ)) (rows : List (List Value)) → ascends t rows ≡ true → ascends t (without_key t key rows) ≡ true
ascends-without_key t key [] up = refl
ascends-without_key t key (r ∷ rows) up =
    by (same_key (key_of t r) key) (ascends-without_key t key rows (and_parts _ _ up).1)
  where
    by : (same : Bool) → ascends t (without_key t key rows) ≡ true → ascends t (if same then rows else r ∷ without_key t key rows) ≡ true
    by true rest = (and_parts _ _ up).1
    by false rest = and_from _ _ (list_all-without_key (is_below t r) t key rows (and_parts _ _ up).0) rest

-- rows ascend exactly where the first is below the second and those from the second on ascend
pub ascends-from_first : (t : Table) (a b : List Value) (rows : List (List Value))
    → ascends t (a ∷ b ∷ rows) ≡ (is_below t a b && ascends t (b ∷ rows))
ascends-from_first t a b rows = by (is_below t a b) refl (ascends t (b ∷ rows)) refl where
  by : (below : Bool) → is_below t a b ≡ below → (up : Bool) → ascends t (b ∷ rows) ≡ up
      → ((is_below t a b && list_all (is_below t a) rows) && ascends t (b ∷ rows)) ≡ (is_below t a b && ascends t (b ∷ rows))
  by false first up rest = rw first refl
  by true first false rest = rw (first, rest) (by_nothing (list_all (is_below t a) rows)) where
    by_nothing : (x : Bool) → (x && false) ≡ false
    by_nothing true = refl
    by_nothing false = refl
  by true first true rest = rw (first, rest, all_below-trans t a b rows first (and_parts _ _ rest).0) refl

-- the rows from one place on begin with the two that stand there
two_at : (rows : List (List Value)) (k : ℕ) (a b : List Value) → suc k < length rows → a ≡ get_or rows k a → b ≡ get_or rows (suc k) b
    → drop k rows ≡ a ∷ b ∷ drop (suc (suc k)) rows
two_at rows k a b within first second =
    let at_first : drop k rows ≡ get_or rows k a ∷ drop (suc k) rows = drop-cons rows k a (omega arith) in
    let at_second : drop (suc k) rows ≡ get_or rows (suc k) b ∷ drop (suc (suc k)) rows = drop-cons rows (suc k) b within in
    cc

-- whether the rows from one place on ascend, by the two that stand there and those from the second on
pub ascends_on : (t : Table) (rows : List (List Value)) (i : ℕ) (a b : List Value) → 1 ≤ i → i < length rows
    → a ≡ get_or rows (i - 1) a → b ≡ get_or rows i b
    → ascends t (drop (i - 1) rows) ≡ (is_below t a b && ascends t (drop (i + 1 - 1) rows))
ascends_on t rows zero a b from within first second = absurd (omega arith)
ascends_on t rows (suc k) a b from within first second =
    let before : suc k - 1 ≡ k = omega arith in
    let after : suc k + 1 - 1 ≡ suc k = omega arith in
    let here : a ≡ get_or rows k a = first ∙ ap (λ n. get_or rows n a) before in
    let two = two_at rows k a b within here second in
    let rest : drop (suc k) rows ≡ b ∷ drop (suc (suc k)) rows = drop-cons rows (suc k) b within ∙ ap (λ x. x ∷ drop (suc (suc k)) rows) (sym second) in
    rw (before, after, two, rest) (ascends-from_first t a b (drop (suc (suc k)) rows))

-- at most one row ascends
pub ascends-last : (t : Table) (rows : List (List Value)) (i : ℕ) → length rows ≤ i → ascends t (drop (i - 1) rows) ≡ true
ascends-last t [] i past = rw (drop-nil {A = List Value} (i - 1)) refl
ascends-last t (row ∷ rows) zero past = absurd (omega arith)
ascends-last t (row ∷ rows) (suc zero) past = by rows (omega arith) where
  by : (rest : List (List Value)) → length rest ≤ 0 → ascends t (row ∷ rest) ≡ true
  by [] none = refl
  by (r ∷ rest) none = absurd (omega arith)
ascends-last t (row ∷ rows) (suc (suc i)) past =
    let fewer : suc (suc i) - 1 ≡ suc (suc i - 1) = omega arith in
    rw fewer (ascends-last t rows (suc i) (omega arith))
