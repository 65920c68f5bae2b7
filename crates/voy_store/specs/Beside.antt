-- The files of a disk that are not the store's own.
use Rattle.std.specs.Prelude.{◌≡◌, ℕ, List, Option, Some, None, option_map, if◌then◌else◌}
use Rattle.std.specs.Str.{bytes_eq}
use Rattle.voy_disk.specs.Files.{Files}

-- all files but the one of this name
abbrev pub without : List ℕ → Files → Files
without name files = λ other. if bytes_eq other name then None else files other

-- of the files that are told, all but the one of this name
abbrev pub files_beside : List ℕ → Option Files → Option Files
files_beside name files = option_map (without name) files
