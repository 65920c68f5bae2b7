use Rattle.std.proofs.Common.{◌≡◌, drop, length}
use Rattle.serde_json.specs.Data.{no_members}
use Rattle.serde_json.specs.View.{members_view}
use Rattle.voy_event.specs.LineText.{with_columns}
use Rattle.voy_event.proofs.line_text.row_value.Given as goal

abbrev pub invariant-loop-column : goal.invariant-loop-column
invariant-loop-column l =
    with_columns l.columns l.row no_members
    ≡ with_columns (drop (length l.yielded) l.columns) (drop (length l.yielded) l.row) (members_view l.found.entries)
