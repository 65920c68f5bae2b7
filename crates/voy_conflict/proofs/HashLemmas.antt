-- The hash of a tuple, text by text.
use Rattle.std.specs.Prelude.{◌≡◌, ◌<◌, ◌≤◌, ◌+◌, ℕ, List, [], ◌∷◌, ◌++◌, Option, None, length, refl}
use Rattle.std.proofs.Common.{ap, drop, get_or, sym, ◌∙◌}
use Rattle.std.proofs.Math.ListN.{drop_of_length-le}
use Rattle.std.proofs.lemmas.List.{drop_more}
use Rattle.std.proofs.lemmas.List.Sums.{fold-append}
use Rattle.voy_schema.specs.Rows.{text_of, value_at, values_at}
use Rattle.voy_schema.specs.declared.value.Value.{Value}
use Rattle.voy_order.specs.Channels.{fnv1a, fnv1a_step}
use Rattle.voy_schema.specs.declared.table.UniqueKey.{UniqueKey}
use Rattle.voy_conflict.specs.Filing.{columns_of, tuple_bytes}

-- a hash of two parts goes on from that of the first
pub fnv1a-append : (start : ℕ) (xs ys : List ℕ) → fnv1a start (xs ++ ys) ≡ fnv1a (fnv1a start xs) ys
unfolding fnv1a
fnv1a-append start xs ys = fold-append fnv1a_step start xs ys

-- of no bytes
pub fnv1a-nil : (start : ℕ) → fnv1a start [] ≡ start
unfolding fnv1a
fnv1a-nil start = refl

-- one column more is hashed
pub hash_goes_on : (row : List Value) (columns : List ℕ) (whole hash next i d : ℕ) → i < length columns
    → whole ≡ fnv1a hash (tuple_bytes (values_at row (drop i columns)))
    → next ≡ fnv1a hash (0 ∷ text_of (value_at row (get_or columns i d)))
    → whole ≡ fnv1a next (tuple_bytes (values_at row (drop (i + 1) columns)))
hash_goes_on row columns whole hash next i d within so_far is =
    so_far
    ∙ ap (λ left. fnv1a hash (tuple_bytes (values_at row left))) (drop_more columns i d within)
    ∙ fnv1a-append hash (0 ∷ text_of (value_at row (get_or columns i d))) (tuple_bytes (values_at row (drop (i + 1) columns)))
    ∙ ap (λ h. fnv1a h (tuple_bytes (values_at row (drop (i + 1) columns)))) (sym is)

-- no column is left
pub hash_ends : (row : List Value) (columns : List ℕ) (whole hash i : ℕ) → length columns ≤ i
    → whole ≡ fnv1a hash (tuple_bytes (values_at row (drop i columns)))
    → hash ≡ whole
hash_ends row columns whole hash i all so_far =
    sym (so_far ∙ ap (λ left. fnv1a hash (tuple_bytes (values_at row left))) (drop_of_length-le columns all) ∙ fnv1a-nil hash)

-- of a key that is not there nothing is hashed
pub hash_of_no_key : (start : ℕ) (row : List Value) (key : Option UniqueKey) → key ≡ None → start ≡ fnv1a start (tuple_bytes (values_at row (columns_of key)))
hash_of_no_key start row key is = sym (ap (λ k. fnv1a start (tuple_bytes (values_at row (columns_of k)))) is ∙ fnv1a-nil start)
