use Rattle.std.proofs.Common.{◌≡◌, drop}
use Rattle.serde_json.specs.Data.{no_members}
use Rattle.serde_json.specs.View.{members_view}
use Rattle.voy_event.specs.LineText.{with_texts}
use Rattle.voy_event.proofs.line_text.key_value.Given as goal

abbrev pub invariant-loop-place : goal.invariant-loop-place
invariant-loop-place l =
    with_texts l.table l.row l.place-items no_members
    ≡ with_texts l.table l.row (drop l.place-index l.place-items) (members_view l.found.entries)
