-- The lowest place that ranges touch.
use Rattle.std.specs.Prelude.{ℕ, List, [], ◌∷◌, min}

-- the lowest start of these ranges, or this place where none starts below it
abbrev pub lowest_of : ℕ → List (ℕ × ℕ) → ℕ
lowest_of low [] = low
lowest_of low (range ∷ ranges) = lowest_of (min low range.0) ranges
