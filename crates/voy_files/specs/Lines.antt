-- The lines of a file.
use Rattle.std.specs.Prelude.{ℕ, Bool, List, [], ◌∷◌, ◌==◌, not, if◌then◌else◌}
use Rattle.std.specs.List.{list_all}

-- a byte in front of the first line
abbrev pub onto_first : ℕ → List (List ℕ) → List (List ℕ)
onto_first b [] = (b ∷ []) ∷ []
onto_first b (line ∷ lines) = (b ∷ line) ∷ lines

-- the lines of these bytes: each is ended by LF, but for the last, which may lack it
abbrev pub lines_of : List ℕ → List (List ℕ)
lines_of [] = []
lines_of (b ∷ bytes) = if b == 10 then [] ∷ lines_of bytes else onto_first b (lines_of bytes)

-- no byte of the line is LF
abbrev pub is_one_line : List ℕ → Bool
is_one_line line = list_all (λ b. not (b == 10)) line
