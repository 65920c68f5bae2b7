use Rattle.std.proofs.Common.{◌≡◌, ◌++◌, List, ℕ, drop}
use Rattle.serde_json.specs.Data.{object}
use Rattle.serde_json.specs.Written.{compact_text, members_text}
use Rattle.voy_event.specs.ByName.{members_at, value_in}
use Rattle.voy_event.proofs.same_line.behind_values.Given as goal

abbrev pub invariant-loop-place : goal.invariant-loop-place
invariant-loop-place l =
    (r : List ℕ) → l.rest ≡ members_text l.later (members_at l.columns (value_in l.row) (drop l.place-index l.places)) ++ r
    → l.line ≡ compact_text (object (members_at l.columns (value_in l.row) l.places)) ++ r
