-- Laws of kept changes.
use Rattle.std.specs.Prelude.{◌≡◌, ℕ, Bool, ◌&&◌, List, [], ◌∷◌, ◌++◌, Option, Some, drop, take, if◌then◌else◌}
use Rattle.std.specs.List.{list_all}
use Rattle.voy_feed.specs.Kept.{Numbered, is_above, is_before, kept_from}
use Rattle.voy_tables.specs.declared.change.Spot.{Spot}

-- the place is above each of these
abbrev pub is_above_all : List Spot → Spot → Bool
is_above_all earlier spot = list_all (λ one. is_before one spot) earlier

-- the changes at places above the last kept one, and above those of all changes in front of them
abbrev pub above_earlier : Option Spot → (earlier : List Spot) → List Numbered → List Numbered
above_earlier last earlier [] = []
above_earlier last earlier (change ∷ changes) =
    if is_above last change.recorded.spot && is_above_all earlier change.recorded.spot
    then change ∷ above_earlier last (earlier ++ change.recorded.spot ∷ []) changes
    else above_earlier last (earlier ++ change.recorded.spot ∷ []) changes

-- one place, that of the last kept change, tells as much as all earlier places
abbrev pub OnePlaceTells : Type 0
OnePlaceTells = (last : Option Spot) (changes : List Numbered) → kept_from last changes ≡ above_earlier last [] changes

-- the place of the last of these changes; where there are none, this one
abbrev pub last_spot : Option Spot → List Numbered → Option Spot
last_spot before [] = before
last_spot before (change ∷ changes) = last_spot (Some change.recorded.spot) changes

-- behind the place of a kept change, those kept behind it are kept
abbrev pub KeptGoOn : Type 0
KeptGoOn =
    (last : Option Spot) (changes : List Numbered) (n : ℕ)
    → kept_from (last_spot last (take n (kept_from last changes))) changes ≡ drop n (kept_from last changes)
