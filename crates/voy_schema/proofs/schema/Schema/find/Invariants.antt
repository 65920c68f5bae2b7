use Rattle.std.proofs.Common.{◌≡◌, drop}
use Rattle.std.specs.List.{position_from}
use Rattle.voy_schema.specs.Lawful.{is_named, place_of}
use Rattle.voy_schema.proofs.schema.Schema.find.Given as goal

-- no table so far has the names
abbrev pub invariant-loop-place : goal.invariant-loop-place
invariant-loop-place l =
    place_of l.schema_name l.table_name l.table-items
    ≡ position_from (is_named l.schema_name l.table_name) l.place (drop l.place l.table-items)
