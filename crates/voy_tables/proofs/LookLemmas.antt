-- Which row stands at a key, before and after a change of the rows.
use Rattle.std.proofs.Common.{◌≡◌, ◌≢◌, ℕ, Bool, true, false, List, [], ◌∷◌, Some, None, Ordering, refl, sym, ap, ◌∙◌, subst}
use Rattle.std.specs.List.{list_all}
use Rattle.std.specs.Ordering.{is_eq, ordering_reverse}
use Rattle.std.specs.Prelude.{if◌then◌else◌}
use Rattle.std.specs.declared.cmp.Ordering.TheVariants.{Less, Equal, Greater}
use Rattle.std.proofs.lemmas.Bool.{and_parts, false_from_ne_true}
use Rattle.voy_schema.specs.Rows.{key_of}
use Rattle.voy_schema.specs.declared.table.Table.{Table}
use Rattle.voy_schema.specs.declared.value.Value.{Value}
use Rattle.voy_tables.proofs.OrderLemmas.{equal_keys, is_less, key_order, same_key-by_cmp}
use Rattle.voy_tables.specs.SameLaws.{same_key-decides}
use Rattle.voy_tables.specs.Keys.{key_cmp, same_key}
use Rattle.voy_tables.specs.Lists.{put_by, row_with_key, with_row, without_key}
use Rattle.voy_tables.specs.Standing.{ascends, is_below}

same_key-itself : (key : List (List ℕ)) → same_key key key ≡ true
same_key-itself key = (same_key-decides key key).1 refl

-- the smaller of two keys is another one
other_key : (a b : List (List ℕ)) → key_cmp a b ≡ Greater → same_key b a ≡ false
other_key a b o = same_key-by_cmp b a ∙ ap is_eq (key_order.antisymm b a ∙ ap ordering_reverse o)

-- a row that was put in stands at its key
pub row_with_key-with_row : (t : Table) (row : List Value) (rows : List (List Value)) → row_with_key t (key_of t row) (with_row t row rows) ≡ Some row
row_with_key-with_row t row [] = rw (same_key-itself (key_of t row))
row_with_key-with_row t row (r ∷ rows) = by (key_cmp (key_of t row) (key_of t r)) refl (row_with_key-with_row t row rows)
  where
    by : (o : Ordering) → key_cmp (key_of t row) (key_of t r) ≡ o → row_with_key t (key_of t row) (with_row t row rows) ≡ Some row
        → row_with_key t (key_of t row) (put_by o row r rows (with_row t row rows)) ≡ Some row
    by Less o rest = rw (same_key-itself (key_of t row))
    by Equal o rest = rw (same_key-itself (key_of t row))
    by Greater o rest = rw (other_key (key_of t row) (key_of t r) o) rest

-- and every other key has the row that it had
pub row_with_key-with_other_row : (t : Table) (row : List Value) (key : List (List ℕ)) (rows : List (List Value)) → same_key (key_of t row) key ≡ false
    → row_with_key t key (with_row t row rows) ≡ row_with_key t key rows
row_with_key-with_other_row t row key [] other = rw other
row_with_key-with_other_row t row key (r ∷ rows) other = by (key_cmp (key_of t row) (key_of t r)) refl (row_with_key-with_other_row t row key rows other)
  where
    by : (o : Ordering) → key_cmp (key_of t row) (key_of t r) ≡ o → row_with_key t key (with_row t row rows) ≡ row_with_key t key rows
        → row_with_key t key (put_by o row r rows (with_row t row rows)) ≡ (if same_key (key_of t r) key then Some r else row_with_key t key rows)
    by Less o more = rw other
    by Equal o more =
        let there : same_key (key_of t r) key ≡ false = subst (λ k. same_key k key ≡ false) (equal_keys _ _ o) other in
        rw (other, there)
    by Greater o more = ap (λ rest. if same_key (key_of t r) key then Some r else rest) more

-- no later row has the key of an earlier one
row_with_key-above : (t : Table) (row : List Value) (rows : List (List Value)) → list_all (is_below t row) rows ≡ true → row_with_key t (key_of t row) rows ≡ None
row_with_key-above t row [] all = refl
row_with_key-above t row (r ∷ rows) all =
    let below = is_less (key_cmp (key_of t row) (key_of t r)) (and_parts _ _ all).0 in
    let other : same_key (key_of t r) (key_of t row) ≡ false =
    same_key-by_cmp (key_of t r) (key_of t row) ∙ ap is_eq (key_order.antisymm (key_of t r) (key_of t row) ∙ ap ordering_reverse below) in
    rw other (row_with_key-above t row rows (and_parts _ _ all).1)

-- a row that was taken out stands no more
pub row_with_key-without_key : (t : Table) (key : List (List ℕ)) (rows : List (List Value)) → ascends t rows ≡ true → row_with_key t key (without_key t key rows) ≡ None
row_with_key-without_key t key [] up = refl
row_with_key-without_key t key (r ∷ rows) up = by (same_key (key_of t r) key) refl (row_with_key-without_key t key rows (and_parts _ _ up).1)
  where
    by : (same : Bool) → same_key (key_of t r) key ≡ same → row_with_key t key (without_key t key rows) ≡ None
        → row_with_key t key (if same then rows else r ∷ without_key t key rows) ≡ None
    by true e rest =
        let here : key_of t r ≡ key = (same_key-decides (key_of t r) key).0 e in
        subst (λ k. row_with_key t k rows ≡ None) here (row_with_key-above t r rows (and_parts _ _ up).0)
    by false e rest = rw e rest

-- and every other key has the row that it had
pub row_with_key-without_other_key : (t : Table) (gone key : List (List ℕ)) (rows : List (List Value)) → same_key gone key ≡ false
    → row_with_key t key (without_key t gone rows) ≡ row_with_key t key rows
row_with_key-without_other_key t gone key [] other = refl
row_with_key-without_other_key t gone key (r ∷ rows) other = by (same_key (key_of t r) gone) refl (row_with_key-without_other_key t gone key rows other)
  where
    by : (same : Bool) → same_key (key_of t r) gone ≡ same → row_with_key t key (without_key t gone rows) ≡ row_with_key t key rows
        → row_with_key t key (if same then rows else r ∷ without_key t gone rows) ≡ (if same_key (key_of t r) key then Some r else row_with_key t key rows)
    by true e more =
        let there : same_key (key_of t r) key ≡ false = subst (λ k. same_key k key ≡ false) (sym ((same_key-decides (key_of t r) gone).0 e)) other in
        rw there
    by false e more = ap (λ rest. if same_key (key_of t r) key then Some r else rest) more

pub same_key-apart : (a b : List (List ℕ)) → a ≢ b → same_key a b ≡ false
same_key-apart a b apart = false_from_ne_true (same_key a b) (λ e. apart ((same_key-decides a b).0 e))

-- the first row stands at its key
pub row_with_key-first : (t : Table) (row : List Value) (rows : List (List Value)) → row_with_key t (key_of t row) (row ∷ rows) ≡ Some row
row_with_key-first t row rows = rw (same_key-itself (key_of t row))

-- and no row behind it has its key
pub row_with_key-behind : (t : Table) (row later : List Value) (rows : List (List Value)) → is_below t row later ≡ true
    → row_with_key t (key_of t later) (row ∷ rows) ≡ row_with_key t (key_of t later) rows
row_with_key-behind t row later rows below =
    let other : same_key (key_of t row) (key_of t later) ≡ false =
    same_key-by_cmp (key_of t row) (key_of t later) ∙ ap is_eq (is_less (key_cmp (key_of t row) (key_of t later)) below) in
    rw other
