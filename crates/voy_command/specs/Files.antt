-- The names of the files that commands read, and the bytes of a file.
use Rattle.std.specs.Prelude.{ℕ, List, Option, codes, option_map}
use Rattle.voy_disk.specs.File.{File}

unfoldable pub metadata_name : List ℕ
metadata_name = codes "meta.journal"

unfoldable pub schema_name : List ℕ
schema_name = codes "schema.json"

unfoldable pub segment_name : List ℕ
segment_name = codes "segment.0.ndjson"

-- the bytes of a file, if it is there
abbrev pub file_bytes : Option File → Option (List ℕ)
file_bytes file = option_map (λ (f : File). f.now) file
