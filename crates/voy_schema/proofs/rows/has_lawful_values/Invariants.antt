use Rattle.std.proofs.Common.{◌≡◌, drop}
use Rattle.voy_schema.specs.Rows.{has_lawful_values}
use Rattle.voy_schema.proofs.rows.has_lawful_values.Given as goal

-- the values so far are lawful
abbrev pub invariant-loop-i : goal.invariant-loop-i
invariant-loop-i l = has_lawful_values l.columns l.values ≡ has_lawful_values (drop l.i l.columns) (drop l.i l.values)
