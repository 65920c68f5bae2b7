-- The files of segments.
use Rattle.std.specs.Prelude.{ℕ, List, ◌++◌, codes, decimal}

-- the name of the segment of this number
unfoldable pub segment_name : ℕ → List ℕ
segment_name number = codes "segment." ++ (decimal number ++ codes ".ndjson")
