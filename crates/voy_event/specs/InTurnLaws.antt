-- The readings that the program makes rule by rule are those of the tables of rules.
use Rattle.std.specs.Prelude.{◌≡◌, ℕ, Bool, true, false, List, Option, Some, None, Result, Ok, Err, codes, is_some, length, nat_lt, not, option_and_then, option_map, refl, if◌then◌else◌}
use Rattle.std.proofs.Common.{subst, sym, ◌∙◌}
use Rattle.serde_json.specs.Data.{Data}
use Rattle.voy_json.specs.Document.{data_of_bytes, has_names, has_only_names, is_object}
use Rattle.voy_schema.specs.declared.table.Table.{Table}
use Rattle.voy_tables.specs.declared.change.Change.{Change}
use Rattle.voy_tables.specs.declared.change.Role.{Role}
use Rattle.voy_tables.specs.declared.change.Role.TheVariants as exporter
use Rattle.voy_event.specs.ChangeLine.{PlacedTable, change_of, has_known_columns, has_known_names, has_long_row, table_at, table_named}
use Rattle.voy_event.specs.EventLine.{broken_rule, change_event_names, cutover_names, event, has_exporter, has_long_rows, line_reading, max_event_line_bytes, stated_event, vsn_at}
use Rattle.voy_event.specs.InTurn.{change_event, cutover_event, cutover_vsn, document_in_turn, kind_in_turn, line_in_turn, recorded_change, recorded_document_in_turn, recorded_in_turn, recorded_op_in_turn, spotted, stamped, table_in_turn, within_limit}
use Rattle.voy_event.specs.RecordedLine.{broken_recorded_rule, max_recorded_line_bytes, recorded_names, recorded_line_reading, stated_record}
use Rattle.voy_event.specs.Refusal.{unless_broken}
use Rattle.voy_event.specs.Words.{change_op, event_kind, number_at, or_null, role_at}
use Rattle.voy_json.specs.Document.{text_at}
use Rattle.voy_event.specs.declared.event.Event.{Event}
use Rattle.voy_event.specs.declared.event.What.{What}
use Rattle.voy_event.specs.declared.event.What.TheVariants as what
use Rattle.voy_event.specs.declared.line_error.LineWhy.{LineWhy}
use Rattle.voy_event.specs.declared.line_error.LineWhy.TheVariants as why
use Rattle.voy_event.specs.declared.recorded.Recorded.{Recorded}
use Rattle.voy_event.specs.declared.words.EventKind.{EventKind}
use Rattle.voy_event.specs.declared.words.EventKind.TheVariants as kind
use Rattle.voy_event.specs.declared.words.Op.{Op}

-- ---- the table of a line, and what follows the rules on names

-- the rest of a table of rules, behind those on length, document and `op`
abbrev rest_of : {A : Type 0} → Bool → Bool → Option A → Bool → Result A LineWhy
rest_of has knows stated long =
    unless_broken (if not has then Some why.Missing else if not knows then Some why.Unknown else if not (is_some stated) then Some why.BadValue
    else if long then Some why.TooLong else None) stated

-- what a line states by its table, where a table is found or a value is broken
abbrev by_table : {A : Type 0} → (PlacedTable → Result A LineWhy) → Result PlacedTable LineWhy → Result A LineWhy
by_table f (Err cause) = Err cause
by_table f (Ok t) = f t

-- with the rules on names kept by whatever is read of the table, both readings agree
names_agree : {A : Type 0} (tables : List Table) (names : List (List ℕ)) (d : Data) (stated : Option PlacedTable → Option A) (long : Option A → Bool)
    (read : PlacedTable → Result A LineWhy)
    → stated None ≡ None → ((t : PlacedTable) → rest_of true true (stated (Some t)) (long (stated (Some t))) ≡ read t)
    → rest_of (has_names names d) (has_known_names tables names d) (stated (table_at tables d)) (long (stated (table_at tables d)))
    ≡ by_table read (table_in_turn tables names d)
names_agree tables names d stated long read nothing each = by_names (has_names names d) refl where
  Goal : Type 0
  Goal = rest_of (has_names names d) (has_known_names tables names d) (stated (table_at tables d)) (long (stated (table_at tables d)))
      ≡ by_table read (table_in_turn tables names d)

  found : (s n : List ℕ) (o : Option PlacedTable) → table_named tables s n ≡ o → text_at (codes "schema_name") d ≡ Some s → text_at (codes "table_name") d ≡ Some n
      → has_names names d ≡ true → has_only_names names d ≡ true → Goal
  found s n None none is_s is_n has only = rw (has, only, is_s, is_n, none) refl
  found s n (Some t) some is_s is_n has only = by_columns (has_known_columns t.table d) refl where
    by_columns : (b : Bool) → has_known_columns t.table d ≡ b → Goal
    by_columns false unknown = rw (has, only, is_s, is_n, some, unknown) refl
    by_columns true known = rw (has, only, is_s, is_n, some, known) (each t)

  by_texts : (s n : Option (List ℕ)) → text_at (codes "schema_name") d ≡ s → text_at (codes "table_name") d ≡ n
      → has_names names d ≡ true → has_only_names names d ≡ true → Goal
  by_texts None n is_s is_n has only = rw (has, only, is_s, nothing) refl
  by_texts (Some s) None is_s is_n has only = rw (has, only, is_s, is_n, nothing) refl
  by_texts (Some s) (Some n) is_s is_n has only = found s n (table_named tables s n) refl is_s is_n has only

  by_only : (b : Bool) → has_only_names names d ≡ b → has_names names d ≡ true → Goal
  by_only false more has = rw (has, more) refl
  by_only true only has = by_texts (text_at (codes "schema_name") d) (text_at (codes "table_name") d) refl refl has only

  by_names : (b : Bool) → has_names names d ≡ b → Goal
  by_names false missing = rw missing refl
  by_names true has = by_only (has_only_names names d) refl has

-- ---- event lines

abbrev stated_by : Option ℕ → Option Role → Option Change → Option Event
stated_by vsn role c = option_and_then (λ n. option_and_then (λ r. option_map (λ x. event r (what.Change x) n) c) role) vsn

stated_none : (vsn : Option ℕ) (role : Option Role) → stated_by vsn role None ≡ None
stated_none None role = refl
stated_none (Some n) None = refl
stated_none (Some n) (Some r) = refl

stamped_agrees : (vsn : Option ℕ) (role : Option Role) (c : Option Change)
    → rest_of true true (stated_by vsn role c) (has_long_rows (stated_by vsn role c)) ≡ stamped vsn role (within_limit c)
stamped_agrees None role c = refl
stamped_agrees (Some n) None c = refl
stamped_agrees (Some n) (Some r) None = refl
stamped_agrees (Some n) (Some r) (Some c) = by_length (has_long_row c) refl where
  by_length : (b : Bool) → has_long_row c ≡ b → rest_of true true (Some (event r (what.Change c) n)) (has_long_row c) ≡ stamped (Some n) (Some r) (within_limit (Some c))
  by_length true long = rw long refl
  by_length false short = rw short refl

change_agrees : (tables : List Table) (op : Op) (d : Data)
    → rest_of (has_names change_event_names d) (has_known_names tables change_event_names d) (stated_event tables d (Some (kind.Change op)))
    (has_long_rows (stated_event tables d (Some (kind.Change op))))
    ≡ change_event op d (table_in_turn tables change_event_names d)
change_agrees tables op d =
    names_agree tables change_event_names d (λ o. stated_by (vsn_at d) (role_at d) (option_and_then (λ t. change_of op t d) o)) has_long_rows
    (λ t. stamped (vsn_at d) (role_at d) (within_limit (change_of op t d))) (stated_none (vsn_at d) (role_at d))
    (λ t. stamped_agrees (vsn_at d) (role_at d) (change_of op t d))
    ∙ same (table_in_turn tables change_event_names d)
  where
    same : (r : Result PlacedTable LineWhy) → by_table (λ t. stamped (vsn_at d) (role_at d) (within_limit (change_of op t d))) r ≡ change_event op d r
    same (Err cause) = refl
    same (Ok t) = refl

cutover_agrees : (role : Role) (w : What) (d : Data) (stated : Option Event)
    → has_long_rows (Some (event role w 0)) ≡ false
    → stated ≡ (if has_exporter role d then option_map (event role w) (vsn_at d) else None)
    → ((n : ℕ) → has_long_rows (Some (event role w n)) ≡ false)
    → rest_of (has_names cutover_names d) (has_only_names cutover_names d) stated (has_long_rows stated) ≡ cutover_event role w (cutover_vsn role d)
cutover_agrees role w d stated zero_short is short = subst (λ s. rest_of (has_names cutover_names d) (has_only_names cutover_names d) s (has_long_rows s) ≡ cutover_event role w (cutover_vsn role d)) (sym is) (by_names (has_names cutover_names d) refl) where
  here : Option Event
  here = if has_exporter role d then option_map (event role w) (vsn_at d) else None

  Goal : Type 0
  Goal = rest_of (has_names cutover_names d) (has_only_names cutover_names d) here (has_long_rows here) ≡ cutover_event role w (cutover_vsn role d)

  by_vsn : (o : Option ℕ) → vsn_at d ≡ o → has_names cutover_names d ≡ true → has_only_names cutover_names d ≡ true → has_exporter role d ≡ true → Goal
  by_vsn None none has only by = rw (has, only, by, none) refl
  by_vsn (Some n) some has only by = rw (has, only, by, some, short n) refl

  by_exporter : (b : Bool) → has_exporter role d ≡ b → has_names cutover_names d ≡ true → has_only_names cutover_names d ≡ true → Goal
  by_exporter false other has only = rw (has, only, other) refl
  by_exporter true by has only = by_vsn (vsn_at d) refl has only by

  by_only : (b : Bool) → has_only_names cutover_names d ≡ b → has_names cutover_names d ≡ true → Goal
  by_only false more has = rw (has, more) refl
  by_only true only has = by_exporter (has_exporter role d) refl has only

  by_names : (b : Bool) → has_names cutover_names d ≡ b → Goal
  by_names false missing = rw missing refl
  by_names true has = by_only (has_only_names cutover_names d) refl has

kind_agrees : (tables : List Table) (bytes : List ℕ) (d : Data) (k : Option EventKind) → nat_lt max_event_line_bytes (length bytes) ≡ false → is_object d ≡ true
    → unless_broken (broken_rule tables bytes d k) (stated_event tables d k) ≡ kind_in_turn tables d k
kind_agrees tables bytes d None short is = rw (short, is) refl
kind_agrees tables bytes d (Some (kind.Change op)) short is = rw (short, is) (change_agrees tables op d)
kind_agrees tables bytes d (Some kind.CutoverTarget) short is =
    rw (short, is) (cutover_agrees exporter.Source what.CutoverTarget d (stated_event tables d (Some kind.CutoverTarget)) refl refl (λ n. refl))
kind_agrees tables bytes d (Some kind.CutoverSource) short is =
    rw (short, is) (cutover_agrees exporter.Target what.CutoverSource d (stated_event tables d (Some kind.CutoverSource)) refl refl (λ n. refl))

document_agrees : (tables : List Table) (bytes : List ℕ) (o : Option Data) → nat_lt max_event_line_bytes (length bytes) ≡ false
    → unless_broken (broken_rule tables bytes (or_null o) (event_kind (or_null o))) (stated_event tables (or_null o) (event_kind (or_null o)))
    ≡ document_in_turn tables o
document_agrees tables bytes None short = rw short refl
document_agrees tables bytes (Some d) short = by_object (is_object d) refl where
  by_object : (b : Bool) → is_object d ≡ b → unless_broken (broken_rule tables bytes d (event_kind d)) (stated_event tables d (event_kind d)) ≡ document_in_turn tables (Some d)
  by_object false other = rw (short, other) refl
  by_object true is = kind_agrees tables bytes d (event_kind d) short is ∙ rw is refl

-- an event line reads as the program reads it
pub line_is_in_turn : (tables : List Table) (bytes : List ℕ) → line_reading tables bytes ≡ line_in_turn tables bytes
line_is_in_turn tables bytes = by_length (nat_lt max_event_line_bytes (length bytes)) refl where
  by_length : (b : Bool) → nat_lt max_event_line_bytes (length bytes) ≡ b → line_reading tables bytes ≡ line_in_turn tables bytes
  by_length true long = rw long refl
  by_length false short = document_agrees tables bytes (data_of_bytes bytes) short ∙ rw short refl

-- ---- recorded change lines

abbrev recorded : ℕ → ℕ → Change → Recorded
recorded commit seq c = record { spot = record { commit = commit; seq = seq }; change = c }

abbrev recorded_by : Option ℕ → Option ℕ → Option Change → Option Recorded
recorded_by commit seq c = option_and_then (λ n. option_and_then (λ m. option_map (recorded n m) c) seq) commit

recorded_none : (commit seq : Option ℕ) → recorded_by commit seq None ≡ None
recorded_none None seq = refl
recorded_none (Some n) None = refl
recorded_none (Some n) (Some m) = refl

abbrev is_long : Option Recorded → Bool
is_long None = false
is_long (Some r) = has_long_row r.change

spotted_agrees : (commit seq : Option ℕ) (c : Option Change)
    → rest_of true true (recorded_by commit seq c) (is_long (recorded_by commit seq c)) ≡ spotted commit seq (within_limit c)
spotted_agrees None seq c = refl
spotted_agrees (Some n) None c = refl
spotted_agrees (Some n) (Some m) None = refl
spotted_agrees (Some n) (Some m) (Some c) = by_length (has_long_row c) refl where
  by_length : (b : Bool) → has_long_row c ≡ b → rest_of true true (Some (recorded n m c)) (has_long_row c) ≡ spotted (Some n) (Some m) (within_limit (Some c))
  by_length true long = rw long refl
  by_length false short = rw short refl

recorded_op_agrees : (tables : List Table) (bytes : List ℕ) (d : Data) (o : Option Op) → nat_lt max_recorded_line_bytes (length bytes) ≡ false → is_object d ≡ true
    → unless_broken (broken_recorded_rule tables bytes d o) (stated_record tables d o) ≡ recorded_op_in_turn tables d o
recorded_op_agrees tables bytes d None short is = rw (short, is) refl
recorded_op_agrees tables bytes d (Some op) short is =
    rw (short, is)
    (names_agree tables recorded_names d (λ o. recorded_by (number_at (codes "commit") d) (number_at (codes "seq") d) (option_and_then (λ t. change_of op t d) o)) is_long
    (λ t. spotted (number_at (codes "commit") d) (number_at (codes "seq") d) (within_limit (change_of op t d)))
    (recorded_none (number_at (codes "commit") d) (number_at (codes "seq") d))
    (λ t. spotted_agrees (number_at (codes "commit") d) (number_at (codes "seq") d) (change_of op t d))
    ∙ same (table_in_turn tables recorded_names d))
  where
    same : (r : Result PlacedTable LineWhy)
        → by_table (λ t. spotted (number_at (codes "commit") d) (number_at (codes "seq") d) (within_limit (change_of op t d))) r ≡ recorded_change op d r
    same (Err cause) = refl
    same (Ok t) = refl

recorded_document_agrees : (tables : List Table) (bytes : List ℕ) (o : Option Data) → nat_lt max_recorded_line_bytes (length bytes) ≡ false
    → unless_broken (broken_recorded_rule tables bytes (or_null o) (change_op (or_null o))) (stated_record tables (or_null o) (change_op (or_null o)))
    ≡ recorded_document_in_turn tables o
recorded_document_agrees tables bytes None short = rw short refl
recorded_document_agrees tables bytes (Some d) short = by_object (is_object d) refl where
  by_object : (b : Bool) → is_object d ≡ b
      → unless_broken (broken_recorded_rule tables bytes d (change_op d)) (stated_record tables d (change_op d)) ≡ recorded_document_in_turn tables (Some d)
  by_object false other = rw (short, other) refl
  by_object true is = recorded_op_agrees tables bytes d (change_op d) short is ∙ rw is refl

-- a recorded change line reads as the program reads it
pub recorded_is_in_turn : (tables : List Table) (bytes : List ℕ) → recorded_line_reading tables bytes ≡ recorded_in_turn tables bytes
recorded_is_in_turn tables bytes = by_length (nat_lt max_recorded_line_bytes (length bytes)) refl where
  by_length : (b : Bool) → nat_lt max_recorded_line_bytes (length bytes) ≡ b → recorded_line_reading tables bytes ≡ recorded_in_turn tables bytes
  by_length true long = rw long refl
  by_length false short = recorded_document_agrees tables bytes (data_of_bytes bytes) short ∙ rw short refl
