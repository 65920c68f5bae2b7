-- Lists of places, read with a value for none.
use Rattle.std.specs.Prelude.{◌≡◌, ℕ, ◌≤◌, ◌==◌, List, length, slice_index_or, slice_set, Option, Some, None, if◌then◌else◌}

-- the value for none, behind which no place has a number
abbrev pub nowhere : ℕ
nowhere = 4294967295

-- the place that stands at `at`, or none
abbrev pub place_at : List ℕ → ℕ → ℕ
place_at list at = slice_index_or list at nowhere

-- the list with `place` at `key`, where there is none beside it
abbrev pub with_end : List ℕ → ℕ → ℕ → ℕ → List ℕ
with_end ends beside key place = if beside == nowhere then slice_set ends key place else ends

-- a list that grew by nothing but values for none
pub record IsWidened (old new : List ℕ) : Type 0 where
  pub kept : (at : ℕ) → place_at new at ≡ place_at old at
  pub longer : length old ≤ length new

-- the place, where it is one
abbrev pub option_of_place : ℕ → Option ℕ
option_of_place place = if place == nowhere then None else Some place
