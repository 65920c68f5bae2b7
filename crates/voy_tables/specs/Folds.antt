-- Lists of changes that are done one after the other, and the first of them that does not fit.
use Rattle.std.specs.Prelude.{ℕ, suc, List, [], ◌∷◌, Option, Some, None}
use Rattle.voy_schema.specs.declared.table.Table.{Table}
use Rattle.voy_schema.specs.declared.value.Value.{Value}
use Rattle.voy_tables.specs.Changes.{row_change}
use Rattle.voy_tables.specs.Lists.{lists_after, misfit_of}
use Rattle.voy_tables.specs.declared.change.Change.{Change}
use Rattle.voy_tables.specs.declared.change.Misfit.{Misfit}

-- the misfit of this number, or else the first behind it
abbrev pub first_of : Option Misfit → ℕ → Option (ℕ × Misfit) → Option (ℕ × Misfit)
first_of None number later = later
first_of (Some why) number later = Some (number, why)

-- the first of these numbered changes that does not fit the tables with those before it done, by its number
abbrev pub misfit_among : List Table → List (List (List Value)) → List (ℕ × Change) → Option (ℕ × Misfit)
misfit_among schema lists [] = None
misfit_among schema lists (c ∷ cs) =
    first_of (misfit_of schema (row_change schema c.1) lists) c.0 (misfit_among schema (lists_after schema (row_change schema c.1) lists) cs)

-- changes numbered by their places, the first with this one
abbrev pub numbered : ℕ → List Change → List (ℕ × Change)
numbered at [] = []
numbered at (c ∷ cs) = (at, c) ∷ numbered (suc at) cs

-- the first of these changes, counted on from `at`, that does not fit the tables with those before it done
abbrev pub first_misfit : List Table → List (List (List Value)) → ℕ → List Change → Option (ℕ × Misfit)
first_misfit schema lists at cs = misfit_among schema lists (numbered at cs)
