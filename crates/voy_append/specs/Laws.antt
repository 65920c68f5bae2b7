-- The law that callers go by, which a public function proves.
use Rattle.std.specs.Prelude.{◌≡◌, ℕ, List, Some}
use Rattle.voy_append.specs.Appending.{IsSafeBehind}
use Rattle.voy_disk.specs.File.{settled}
use Rattle.voy_disk.specs.Files.{Files}

-- what is safe behind no bytes is the whole file
abbrev pub WholeFileIsSafe : Type 0
WholeFileIsSafe = (name bytes : List ℕ) (files : Files) → IsSafeBehind name 0 bytes files → files name ≡ Some (settled bytes)
