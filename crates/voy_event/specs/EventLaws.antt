-- What a reading of an event line gives: an event that is lawful for the schema, of a line within its limit.
use Rattle.std.specs.Prelude.{◌≡◌, ◌≤◌, ◌<◌, ◌^◌, ℕ, Bool, true, false, List, Option, Some, None, Result, Ok, Err, codes, length, not, option_and_then, nat_le, nat_lt, if◌then◌else◌, refl}
use Rattle.std.specs.Option.{ok_or}
use Rattle.std.proofs.Common.{sym, subst, ◌∙◌}
use Rattle.std.proofs.lemmas.Bool.{leb-true, ltb-false, ltb-true}
use Rattle.serde_json.specs.Data.{Data}
use Rattle.serde_json.specs.Find.{as_number, as_u64, get}
use Rattle.voy_json.specs.Document.{data_of_bytes, has_names, has_only_names, is_object}
use Rattle.voy_schema.specs.declared.table.Table.{Table}
use Rattle.voy_tables.specs.declared.change.Change.{Change}
use Rattle.voy_tables.specs.declared.change.Role.{Role}
use Rattle.voy_tables.specs.declared.change.Role.TheVariants as exporter
use Rattle.voy_event.specs.ChangeLine.{PlacedTable, change_of, placed}
use Rattle.voy_event.specs.InTurn.{change_event, cutover_event, cutover_vsn, document_in_turn, kind_in_turn, stamped, table_in_turn, within_limit}
use Rattle.voy_event.specs.InTurnLaws.{line_is_in_turn}
use Rattle.voy_event.specs.EventLine.{change_event_names, cutover_names, from_one, has_exporter, line_reading, max_event_line_bytes, vsn_at}
use Rattle.voy_event.specs.LawfulEvent.{IsLawful, IsLawfulChange, IsLawfulFrom, IsWritable, IsWritableWhat}
use Rattle.voy_event.specs.Words.{event_kind, in_64_bits, number_at, role_at}
use Rattle.voy_event.specs.declared.event.Event.{Event}
use Rattle.voy_event.specs.declared.event.What.{What}
use Rattle.voy_event.specs.declared.event.What.TheVariants as what
use Rattle.voy_event.specs.declared.line_error.LineWhy.{LineWhy}
use Rattle.voy_event.specs.declared.line_error.LineWhy.TheVariants as why
use Rattle.voy_event.specs.declared.words.EventKind.{EventKind}
use Rattle.voy_event.specs.declared.words.EventKind.TheVariants as kind
use Rattle.voy_event.specs.declared.words.Op.{Op}
use Rattle.voy_event.specs.ChangeLaws.{before_refusal, change_is_lawful, past_test}

in_64_bits_holds : (o : Option ℕ) (n : ℕ) → in_64_bits o ≡ Some n → n < 2 ^ 64
in_64_bits_holds None n found = cc
in_64_bits_holds (Some m) n found = by_test (nat_lt m (2 ^ 64)) refl found where
  by_test : (b : Bool) → nat_lt m (2 ^ 64) ≡ b → (if b then Some m else None) ≡ Some n → n < 2 ^ 64
  by_test true holds same = let here : m ≡ n = cc in subst (λ (k : ℕ). k < 2 ^ 64) here (ltb-true _ _ holds)
  by_test false fails same = cc

from_one_holds : (o : Option ℕ) (vsn : ℕ) → from_one o ≡ Some vsn → (o ≡ Some vsn) × (1 ≤ vsn)
from_one_holds None vsn found = cc
from_one_holds (Some n) vsn found = by_test (nat_le 1 n) refl found where
  by_test : (b : Bool) → nat_le 1 n ≡ b → (if b then Some n else None) ≡ Some vsn → (Some n ≡ Some vsn) × (1 ≤ vsn)
  by_test true holds same = let here : n ≡ vsn = cc in (same, subst (λ (k : ℕ). 1 ≤ k) here (leb-true _ _ holds))
  by_test false fails same = cc

vsn_holds : (d : Data) (vsn : ℕ) → vsn_at d ≡ Some vsn → (1 ≤ vsn) × (vsn < 2 ^ 64)
vsn_holds d vsn found =
    let number = from_one_holds (number_at (codes "vsn") d) vsn found in
    (number.1, in_64_bits_holds (option_and_then as_u64 (option_and_then as_number (get (codes "vsn") d))) vsn number.0)

stamped_is_lawful : (tables : List Table) (vsn : Option ℕ) (role : Option Role) (read : Result Change LineWhy) (e : Event)
    → ((n : ℕ) → vsn ≡ Some n → (1 ≤ n) × (n < 2 ^ 64)) → ((c : Change) → read ≡ Ok c → IsLawfulChange tables c)
    → stamped vsn role read ≡ Ok e → IsLawful tables e
stamped_is_lawful tables None role read e numbered well made = cc
stamped_is_lawful tables (Some n) None read e numbered well made = cc
stamped_is_lawful tables (Some n) (Some role) (Err cause) e numbered well made = cc
stamped_is_lawful tables (Some n) (Some role) (Ok c) e numbered well made =
    let event : Event = record { vsn = n; role = role; what = what.Change c } in
    let same : event ≡ e = cc in
    let range = numbered n refl in
    subst (IsLawful tables) same (record { from_one = range.0; fits = range.1; what = well c refl })

change_event_is_lawful : (tables : List Table) (op : Op) (d : Data) (t : Result PlacedTable LineWhy) (e : Event)
    → table_in_turn tables change_event_names d ≡ t → change_event op d t ≡ Ok e → IsLawful tables e
change_event_is_lawful tables op d (Err cause) e placed made = cc
change_event_is_lawful tables op d (Ok t) e placed made =
    stamped_is_lawful tables (vsn_at d) (role_at d) (within_limit (change_of op t d)) e
    (vsn_holds d) (λ c read. change_is_lawful tables change_event_names op d t c placed read) made

cutover_vsn_holds : (role : Role) (d : Data) (n : ℕ) → cutover_vsn role d ≡ Ok n → (1 ≤ n) × (n < 2 ^ 64)
cutover_vsn_holds role d n read =
    let last = if has_exporter role d then ok_or (vsn_at d) why.BadValue else Err why.BadValue in
    let known = past_test (not (has_names cutover_names d)) why.Missing (if not (has_only_names cutover_names d) then Err why.Unknown else last) n read in
    let named = before_refusal (has_exporter role d) why.BadValue (ok_or (vsn_at d) why.BadValue) n
    (past_test (not (has_only_names cutover_names d)) why.Unknown last n known) in
    vsn_holds d n (some_since (vsn_at d) named.1) where
      some_since : (o : Option ℕ) → ok_or o why.BadValue ≡ Ok n → o ≡ Some n
      some_since None read = cc
      some_since (Some m) read = cc

cutover_is_lawful : (tables : List Table) (role : Role) (w : What) (read : Result ℕ LineWhy) (e : Event)
    → ((n : ℕ) → read ≡ Ok n → (1 ≤ n) × (n < 2 ^ 64)) → IsLawfulFrom tables role w → cutover_event role w read ≡ Ok e → IsLawful tables e
cutover_is_lawful tables role w (Err cause) e numbered fits made = cc
cutover_is_lawful tables role w (Ok n) e numbered fits made =
    let event : Event = record { vsn = n; role = role; what = w } in
    let same : event ≡ e = cc in
    let range = numbered n refl in
    subst (IsLawful tables) same (record { from_one = range.0; fits = range.1; what = fits })

kind_is_lawful : (tables : List Table) (d : Data) (k : Option EventKind) (e : Event) → kind_in_turn tables d k ≡ Ok e → IsLawful tables e
kind_is_lawful tables d None e read = cc
kind_is_lawful tables d (Some (kind.Change op)) e read = change_event_is_lawful tables op d (table_in_turn tables change_event_names d) e refl read
kind_is_lawful tables d (Some kind.CutoverTarget) e read =
    cutover_is_lawful tables exporter.Source what.CutoverTarget (cutover_vsn exporter.Source d) e (cutover_vsn_holds exporter.Source d) refl read
kind_is_lawful tables d (Some kind.CutoverSource) e read =
    cutover_is_lawful tables exporter.Target what.CutoverSource (cutover_vsn exporter.Target d) e (cutover_vsn_holds exporter.Target d) refl read

pub document_is_lawful : (tables : List Table) (o : Option Data) (e : Event) → document_in_turn tables o ≡ Ok e → IsLawful tables e
document_is_lawful tables None e read = cc
document_is_lawful tables (Some d) e read = kind_is_lawful tables d (event_kind d) e (before_refusal (is_object d) why.NotJson _ e read).1

-- an event that was read is lawful for the schema
pub event_is_lawful : (tables : List Table) (bytes : List ℕ) (e : Event) → line_reading tables bytes ≡ Ok e → IsLawful tables e
event_is_lawful tables bytes e read =
    document_is_lawful tables (data_of_bytes bytes) e (past_test (nat_lt max_event_line_bytes (length bytes)) why.TooLong _ e (sym (line_is_in_turn tables bytes) ∙ read))

-- a line that was read is within its limit
pub line_is_short : (tables : List Table) (line : List ℕ) (e : Event) → line_reading tables line ≡ Ok e → length line ≤ max_event_line_bytes
line_is_short tables line e read =
    by_length (nat_lt max_event_line_bytes (length line)) refl (sym (line_is_in_turn tables line) ∙ read)
  where
    by_length : (b : Bool) → nat_lt max_event_line_bytes (length line) ≡ b
        → (if b then Err why.TooLong else document_in_turn tables (data_of_bytes line)) ≡ Ok e → length line ≤ max_event_line_bytes
    by_length true long never = cc
    by_length false short same = ltb-false max_event_line_bytes (length line) short

-- ---- an event that was read may be written

what_is_writable : (tables : List Table) (role : Role) (w : What) → IsLawfulFrom tables role w → IsWritableWhat tables w
what_is_writable tables role (what.Change c) lawful = lawful.well_formed
what_is_writable tables role what.CutoverTarget lawful = tt
what_is_writable tables role what.CutoverSource lawful = tt

pub lawful_is_writable : (tables : List Table) (e : Event) → IsLawful tables e → IsWritable tables e
lawful_is_writable tables e lawful = record { from_one = lawful.from_one; what = what_is_writable tables e.role e.what lawful.what }
