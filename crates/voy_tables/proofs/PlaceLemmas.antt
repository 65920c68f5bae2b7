-- A row put in at its place, and a row taken out.
use Rattle.std.proofs.Common.{◌≡◌, ℕ, zero, suc, ◌<◌, true, List, [], ◌∷◌, ◌++◌, length, get_or, take, drop, refl, sym, ap, ◌∙◌, arith, drop-cons}
use Rattle.std.proofs.Math.ListN.{set}
use Rattle.std.specs.Prelude.{if◌then◌else◌}
use Rattle.std.specs.declared.cmp.Ordering.TheVariants.{Equal}
use Rattle.voy_schema.specs.Rows.{key_of}
use Rattle.voy_schema.specs.declared.table.Table.{Table}
use Rattle.voy_schema.specs.declared.value.Value.{Value}
use Rattle.voy_tables.specs.Keys.{key_cmp, same_key}
use Rattle.voy_tables.specs.Lists.{put_by, with_row, without_key}

pub set-split : {A : Type 0} (l : List A) (i : ℕ) (a : A) → i < length l → set l i a ≡ take i l ++ a ∷ drop (suc i) l
set-split [] i a h = absurd (omega arith)
set-split (x ∷ xs) zero a h = refl
set-split (x ∷ xs) (suc i) a h = ap (λ rest. x ∷ rest) (set-split xs i a (omega arith))

-- a row whose key stands at this place takes that place
pub with_row-replaced : (t : Table) (row there : List Value) (rows : List (List Value)) (at : ℕ) → at < length rows
    → there ≡ get_or rows at there → key_cmp (key_of t row) (key_of t there) ≡ Equal
    → with_row t row rows ≡ take at rows ++ with_row t row (drop at rows) → set rows at row ≡ with_row t row rows
with_row-replaced t row there rows at h is same split =
    set-split rows at row h ∙ ap (λ rest. take at rows ++ rest) (sym from_here) ∙ sym split
  where
    by : put_by (key_cmp (key_of t row) (key_of t there)) row there (drop (suc at) rows) (with_row t row (drop (suc at) rows)) ≡ row ∷ drop (suc at) rows
    by = rw same

    from_here : with_row t row (drop at rows) ≡ row ∷ drop (suc at) rows
    from_here = rw (drop-cons rows at there h, ← is) by

-- the row of this key is taken out from its place
pub without_key-removed : (t : Table) (key : List (List ℕ)) (there : List Value) (rows : List (List Value)) (at : ℕ) → at < length rows
    → there ≡ get_or rows at there → same_key (key_of t there) key ≡ true
    → without_key t key rows ≡ take at rows ++ without_key t key (drop at rows) → take at rows ++ drop (suc at) rows ≡ without_key t key rows
without_key-removed t key there rows at h is same split = ap (λ rest. take at rows ++ rest) (sym from_here) ∙ sym split
  where
    by : (if same_key (key_of t there) key then drop (suc at) rows else there ∷ without_key t key (drop (suc at) rows)) ≡ drop (suc at) rows
    by = rw same

    from_here : without_key t key (drop at rows) ≡ drop (suc at) rows
    from_here = rw (drop-cons rows at there h, ← is) by
