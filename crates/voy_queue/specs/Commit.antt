-- Where a commit writes in the file of a segment.
use Rattle.std.specs.Prelude.{ℕ, ◌-◌, length}
use Rattle.voy_queue.specs.declared.end.Added.{Added}

-- where the bytes that were put into a segment begin in its file
abbrev pub start_of : Added → ℕ
start_of one = one.end.bytes - length one.bytes
