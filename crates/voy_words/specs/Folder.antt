-- The folder that the words of the program name.
use Rattle.std.specs.Prelude.{ℕ, List, [], ◌∷◌, Option, Some, None, codes, if◌then◌else◌}
use Rattle.std.specs.Str.{bytes_eq}

abbrev pub non_empty : List ℕ → Option (List ℕ)
non_empty [] = None
non_empty (b ∷ bytes) = Some (b ∷ bytes)

-- the second word, where the first is `--export-dir` and the second is not empty
unfoldable pub export_dir : List (List ℕ) → Option (List ℕ)
export_dir [] = None
export_dir (option ∷ []) = None
export_dir (option ∷ folder ∷ rest) = if bytes_eq option (codes "--export-dir") then non_empty folder else None
