-- Which bytes are which recorded change, and which refusal comes first where they are none.
use Rattle.std.specs.Prelude.{ℕ, Bool, false, List, [], ◌∷◌, Option, Some, None, Result, codes, is_some, length, nat_lt, not, option_and_then, option_map, if◌then◌else◌}
use Rattle.serde_json.specs.Data.{Data}
use Rattle.voy_json.specs.Document.{has_names, is_object}
use Rattle.voy_schema.specs.declared.table.Table.{Table}
use Rattle.voy_tables.specs.declared.change.Change.{Change}
use Rattle.voy_event.specs.ChangeLine.{change_of, has_known_names, has_long_row, table_at}
use Rattle.voy_event.specs.Refusal.{unless_broken}
use Rattle.voy_event.specs.Words.{change_op, document, number_at}
use Rattle.voy_event.specs.declared.line_error.LineWhy.{LineWhy}
use Rattle.voy_event.specs.declared.line_error.LineWhy.TheVariants as why
use Rattle.voy_event.specs.declared.recorded.Recorded.{Recorded}
use Rattle.voy_event.specs.declared.words.Op.{Op}

-- the most bytes of a recorded change line, without its LF
abbrev pub max_recorded_line_bytes : ℕ
max_recorded_line_bytes = 4194304

-- the names of a recorded change line
unfoldable pub recorded_names : List (List ℕ)
recorded_names =
    codes "before_fields" ∷ codes "commit" ∷ codes "fields" ∷ codes "key" ∷ codes "op" ∷ codes "schema_name" ∷ codes "seq"
    ∷ codes "table_name" ∷ []

-- the change that a recorded line's values state, with its commit and its place there
abbrev pub stated_record : List Table → Data → Option Op → Option Recorded
stated_record tables d None = None
stated_record tables d (Some op) =
    option_and_then (λ commit. option_and_then (λ seq. option_map (recorded commit seq)
    (option_and_then (λ t. change_of op t d) (table_at tables d))) (number_at (codes "seq") d)) (number_at (codes "commit") d)
  where
    recorded : ℕ → ℕ → Change → Recorded
    recorded commit seq c = record { spot = record { commit = commit; seq = seq }; change = c }

-- the change has a row whose text is past the limit
abbrev pub is_long_record : Option Recorded → Bool
is_long_record None = false
is_long_record (Some r) = has_long_row r.change

-- the first rule that a recorded change line breaks, with the document that it is and what its `op` names
abbrev pub broken_recorded_rule : List Table → List ℕ → Data → Option Op → Option LineWhy
broken_recorded_rule tables bytes d op =
    if nat_lt max_recorded_line_bytes (length bytes) then Some why.TooLong
    else if not (is_object d) then Some why.NotJson
    else if not (is_some op) then Some why.BadOp
    else if not (has_names recorded_names d) then Some why.Missing
    else if not (has_known_names tables recorded_names d) then Some why.Unknown
    else if not (is_some (stated_record tables d op)) then Some why.BadValue
    else if is_long_record (stated_record tables d op) then Some why.TooLong
    else None

-- the change that a recorded line states by the schema, or the first rule that it breaks
abbrev pub recorded_line_reading : List Table → List ℕ → Result Recorded LineWhy
recorded_line_reading tables bytes =
    let d = document bytes in
    unless_broken (broken_recorded_rule tables bytes d (change_op d)) (stated_record tables d (change_op d))
