use Rattle.std.proofs.Common.{◌≡◌, ◌++◌, drop, option_map}
use Rattle.serde_json.specs.View.{view}
use Rattle.voy_event.specs.Fields.{row_of}
use Rattle.voy_event.proofs.fields.row_of.Given as goal

abbrev pub invariant-loop-column : goal.invariant-loop-column
invariant-loop-column l =
    row_of l.columns (view l.fields) ≡ option_map (λ values. l.row ++ values) (row_of (drop l.column-index l.columns) (view l.fields))
