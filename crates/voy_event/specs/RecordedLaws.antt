-- What a reading of a recorded line gives: a change that is well formed for the schema, from a line within its limit.
use Rattle.std.specs.Prelude.{◌≡◌, ◌≤◌, ℕ, Bool, true, false, List, Option, Some, None, Result, Ok, Err, codes, length, nat_lt, refl, if◌then◌else◌}
use Rattle.std.proofs.lemmas.Bool.{ltb-false}
use Rattle.std.proofs.Common.{subst, sym, ◌∙◌}
use Rattle.serde_json.specs.Data.{Data}
use Rattle.voy_json.specs.Document.{data_of_bytes, is_object}
use Rattle.voy_schema.specs.declared.table.Table.{Table}
use Rattle.voy_tables.specs.declared.change.Change.{Change}
use Rattle.voy_event.specs.ChangeLine.{PlacedTable, change_of}
use Rattle.voy_event.specs.InTurn.{recorded_change, recorded_document_in_turn, recorded_op_in_turn, spotted, table_in_turn, within_limit}
use Rattle.voy_event.specs.InTurnLaws.{recorded_is_in_turn}
use Rattle.voy_event.specs.ChangeLaws.{before_refusal, change_is_lawful, past_test}
use Rattle.voy_event.specs.LawfulEvent.{IsLawfulChange}
use Rattle.voy_event.specs.RecordedLine.{max_recorded_line_bytes, recorded_names, recorded_line_reading}
use Rattle.voy_event.specs.Words.{change_op, number_at}
use Rattle.voy_event.specs.declared.line_error.LineWhy.{LineWhy}
use Rattle.voy_event.specs.declared.line_error.LineWhy.TheVariants as why
use Rattle.voy_event.specs.declared.recorded.Recorded.{Recorded}
use Rattle.voy_event.specs.declared.words.Op.{Op}

spotted_is_lawful : (tables : List Table) (commit seq : Option ℕ) (read : Result Change LineWhy) (r : Recorded)
    → ((c : Change) → read ≡ Ok c → IsLawfulChange tables c) → spotted commit seq read ≡ Ok r → IsLawfulChange tables r.change
spotted_is_lawful tables None seq read r lawful made = cc
spotted_is_lawful tables (Some commit) None read r lawful made = cc
spotted_is_lawful tables (Some commit) (Some seq) (Err cause) r lawful made = cc
spotted_is_lawful tables (Some commit) (Some seq) (Ok c) r lawful made =
    let recorded : Recorded = record { spot = record { commit = commit; seq = seq }; change = c } in
    let same : recorded ≡ r = cc in
    subst (λ (x : Recorded). IsLawfulChange tables x.change) same (lawful c refl)

recorded_change_is_lawful : (tables : List Table) (op : Op) (d : Data) (t : Result PlacedTable LineWhy) (r : Recorded)
    → table_in_turn tables recorded_names d ≡ t → recorded_change op d t ≡ Ok r → IsLawfulChange tables r.change
recorded_change_is_lawful tables op d (Err cause) r placed made = cc
recorded_change_is_lawful tables op d (Ok t) r placed made =
    spotted_is_lawful tables (number_at (codes "commit") d) (number_at (codes "seq") d) (within_limit (change_of op t d)) r
    (λ c read. change_is_lawful tables recorded_names op d t c placed read) made

op_is_lawful : (tables : List Table) (d : Data) (o : Option Op) (r : Recorded) → recorded_op_in_turn tables d o ≡ Ok r → IsLawfulChange tables r.change
op_is_lawful tables d None r read = cc
op_is_lawful tables d (Some op) r read = recorded_change_is_lawful tables op d (table_in_turn tables recorded_names d) r refl read

pub recorded_document_is_lawful : (tables : List Table) (o : Option Data) (r : Recorded)
    → recorded_document_in_turn tables o ≡ Ok r → IsLawfulChange tables r.change
recorded_document_is_lawful tables None r read = cc
recorded_document_is_lawful tables (Some d) r read = op_is_lawful tables d (change_op d) r (before_refusal (is_object d) why.NotJson _ r read).1

-- a recorded change that was read is well formed for the schema, with rows within their limit
pub recorded_is_lawful : (tables : List Table) (bytes : List ℕ) (r : Recorded) → recorded_line_reading tables bytes ≡ Ok r → IsLawfulChange tables r.change
recorded_is_lawful tables bytes r read =
    recorded_document_is_lawful tables (data_of_bytes bytes) r (past_test (nat_lt max_recorded_line_bytes (length bytes)) why.TooLong _ r (sym (recorded_is_in_turn tables bytes) ∙ read))

-- a recorded line that was read is within its limit
pub recorded_line_is_short : (tables : List Table) (line : List ℕ) (r : Recorded) → recorded_line_reading tables line ≡ Ok r → length line ≤ max_recorded_line_bytes
recorded_line_is_short tables line r read =
    by_length (nat_lt max_recorded_line_bytes (length line)) refl (sym (recorded_is_in_turn tables line) ∙ read)
  where
    by_length : (b : Bool) → nat_lt max_recorded_line_bytes (length line) ≡ b
        → (if b then Err why.TooLong else recorded_document_in_turn tables (data_of_bytes line)) ≡ Ok r → length line ≤ max_recorded_line_bytes
    by_length true long never = cc
    by_length false short same = ltb-false max_recorded_line_bytes (length line) short
