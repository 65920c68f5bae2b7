-- A line that is read at once is the canonical line of its event, and reads as the event.
use Rattle.std.proofs.Common.{◌≡◌, ◌∙◌, ℕ, ◌≤◌, List, [], ◌∷◌, true, arith, Bool, Option, Some, None, Ok, Err, ap, length, option_and_then, refl, slice_get, subst, sym}
use Rattle.std.specs.Prelude.{if◌then◌else◌}
use Rattle.std.specs.Result.{result_ok}
use Rattle.std.specs.Str.{bytes_eq}
use Rattle.std.proofs.lemmas.Slice.Eq.{bytes_eq-Decides}
use Rattle.json.specs.Print.{escape_byte}
use Rattle.serde_json.specs.Written.{compact_text}
use Rattle.voy_schema.specs.Lawful.{is_lawful}
use Rattle.voy_schema.specs.declared.table.Table.{Table}
use Rattle.voy_tables.specs.Changes.{is_well_formed, table_of}
use Rattle.voy_tables.specs.declared.change.Change.{Change}
use Rattle.voy_tables.specs.declared.change.Role.{Role}
use Rattle.voy_event.proofs.ReadBack.{belongs_to, events_read_back, rows_of}
use Rattle.voy_event.specs.CanonicalLine.{canonical_reading, if_canonical}
use Rattle.voy_event.specs.EventLine.{line_reading, max_event_line_bytes}
use Rattle.voy_event.specs.LawfulEvent.{IsLawful}
use Rattle.voy_event.specs.LineParts.{HasRowsOf, names_part, rows_part}
use Rattle.voy_event.specs.LineText.{change_data, change_data_in, line_text}
use Rattle.voy_event.specs.declared.event.Event.{Event}
use Rattle.voy_event.specs.declared.event.What.TheVariants as what
use Rattle.voy_event.specs.declared.line_error.LineWhy.{LineWhy}

pub rows_are_lawful : (tables : List Table) (t : Table) (c : Change) (place : ℕ) → table_of c ≡ place → slice_get tables place ≡ Some t
    → is_well_formed tables c ≡ true → HasRowsOf t c
rows_are_lawful tables t c place is stands formed = rows_of t c (belongs_to tables t c (ap (slice_get tables) is ∙ stands) formed)

-- the two parts of a line are its text
pub parts_are_text : (t : Table) (vsn : ℕ) (role : Role) (c : Change) → rows_part t role c (names_part t vsn c []) ≡ compact_text (change_data t vsn role c)
unfolding change_data escape_byte rows_part names_part
parts_are_text t vsn role c = refl

-- a line in which nothing stands behind the two parts
pub whole_line : (t : Table) (vsn : ℕ) (role : Role) (c : Change) (line rest : List ℕ) → line ≡ rows_part t role c (names_part t vsn c rest) → length rest ≡ 0
    → line ≡ compact_text (change_data t vsn role c)
whole_line t vsn role c line [] same none = same ∙ parts_are_text t vsn role c
whole_line t vsn role c line (b ∷ rest) same none = absurd (omega arith)

pub text_of_event : (tables : List Table) (t : Table) (vsn : ℕ) (role : Role) (c : Change) (place : ℕ) (line : List ℕ) → table_of c ≡ place
    → slice_get tables place ≡ Some t → line ≡ compact_text (change_data t vsn role c)
    → line_text tables (record { vsn = vsn; role = role; what = what.Change c }) ≡ line
unfolding line_text
text_of_event tables t vsn role c place line is stands same =
    ap (λ (o : Option Table). compact_text (change_data_in o vsn role c)) (ap (slice_get tables) is ∙ stands) ∙ sym same

pub reads_at_once : (tables : List Table) (e : Event) (line : List ℕ) → is_lawful tables ≡ true → IsLawful tables e → line_text tables e ≡ line
    → length line ≤ max_event_line_bytes → line_reading tables line ≡ Ok e
reads_at_once tables e line lawful event same short =
    subst (λ (text : List ℕ). length text ≤ max_event_line_bytes → line_reading tables text ≡ Ok e) same (events_read_back tables e lawful event) short

pub canonical_by : (tables : List Table) (line : List ℕ) (e : Event) (b : Bool) → line_reading tables line ≡ Ok e → bytes_eq (line_text tables e) line ≡ b
    → canonical_reading tables line ≡ (if b then Some e else None)
unfolding canonical_reading
canonical_by tables line e b read is =
    ap (λ r. option_and_then (if_canonical tables line) (result_ok r)) read ∙ ap (λ (x : Bool). if x then Some e else None) is

pub not_canonical : (tables : List Table) (line : List ℕ) (cause : LineWhy) → line_reading tables line ≡ Err cause → canonical_reading tables line ≡ None
unfolding canonical_reading
not_canonical tables line cause refused = ap (λ r. option_and_then (if_canonical tables line) (result_ok r)) refused

pub canonical_at_once : (tables : List Table) (e : Event) (line : List ℕ) → line_text tables e ≡ line → line_reading tables line ≡ Ok e
    → canonical_reading tables line ≡ Some e
canonical_at_once tables e line same read = canonical_by tables line e true read ((bytes_eq-Decides (line_text tables e) line).1 same)
