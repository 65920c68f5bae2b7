-- The hash of a key, text by text.
use Rattle.std.specs.Prelude.{◌≡◌, ℕ, List, ◌∷◌, ◌++◌, None, slice_get}
use Rattle.std.proofs.Common.{ap, sym, ◌∙◌}
use Rattle.std.proofs.lemmas.List.Sums.{fold-append}
use Rattle.voy_schema.specs.declared.table.Table.{Table}
use Rattle.voy_tables.specs.Changes.{RowId}
use Rattle.voy_order.specs.Channels.{fnv1a, fnv1a_start, fnv1a_step, hash_of, hashed}

-- a hash of two parts goes on from that of the first
pub fnv1a-append : (start : ℕ) (xs ys : List ℕ) → fnv1a start (xs ++ ys) ≡ fnv1a (fnv1a start xs) ys
unfolding fnv1a
fnv1a-append start xs ys = fold-append fnv1a_step start xs ys

-- the hash of two names and a key, part by part
pub fnv1a-three : (start : ℕ) (xs ys zs : List ℕ) → fnv1a (fnv1a (fnv1a start xs) (0 ∷ ys)) zs ≡ fnv1a start (xs ++ 0 ∷ ys ++ zs)
fnv1a-three start xs ys zs = sym (fnv1a-append start (xs ++ 0 ∷ ys) zs ∙ ap (λ hash. fnv1a hash zs) (fnv1a-append start xs (0 ∷ ys)))

-- of a table that is not there nothing is hashed
pub hash_of-none : (schema : List Table) (row : RowId) → slice_get schema row.table ≡ None → fnv1a_start ≡ hash_of schema row
unfolding fnv1a
hash_of-none schema row none = sym (ap (λ t. fnv1a fnv1a_start (hashed t row.key)) none)
