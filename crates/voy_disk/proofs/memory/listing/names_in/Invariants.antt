use Rattle.std.proofs.Common.{◌≡◌, ◌++◌, map}
use Rattle.std.specs.List.{filter}
use Rattle.std.specs.BTreeMap.{keys}
use Rattle.std.specs.Prelude.{string_bytes}
use Rattle.voy_disk.specs.Name.{is_name}
use Rattle.voy_disk.proofs.memory.listing.names_in.Given as goal

abbrev pub invariant-loop-key : goal.invariant-loop-key
invariant-loop-key l = l.names ++ filter is_name (map string_bytes l.key-iterator) ≡ filter is_name (map string_bytes (keys l.fn.files))
