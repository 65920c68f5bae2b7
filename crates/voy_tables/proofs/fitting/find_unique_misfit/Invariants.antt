use Rattle.std.proofs.Common.{◌≡◌, ◌+◌, ℕ, Some, drop}
use Rattle.std.specs.Prelude.{option_map, position}
use Rattle.voy_schema.specs.Rows.{key_of}
use Rattle.voy_tables.specs.Lists.{is_taken}
use Rattle.voy_tables.proofs.fitting.find_unique_misfit.Given as goal

abbrev pub invariant-loop-at : goal.invariant-loop-at
invariant-loop-at l =
    let taken = is_taken l.table (key_of l.table l.like) (Some l.after) l.rows in
    position taken l.table.unique_keys ≡ option_map (λ (n : ℕ). l.at + n) (position taken (drop l.at l.table.unique_keys))
