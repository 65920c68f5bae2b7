use Rattle.std.proofs.Common.{◌≡◌, drop}
use Rattle.std.specs.Str.{bytes_eq}
use Rattle.voy_schema.specs.Lawful.{is_distinct}
use Rattle.voy_schema.specs.Reading.{names_of}
use Rattle.voy_schema.proofs.rules.have_distinct_names.Given as goal

-- no name so far stands again
abbrev pub invariant-loop-i : goal.invariant-loop-i
invariant-loop-i l = is_distinct bytes_eq (names_of l.columns) ≡ is_distinct bytes_eq (names_of (drop l.i l.columns))
