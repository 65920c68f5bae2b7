-- The line of a lawful event stands in a segment: it has no LF, and begins as an object does.
use Rattle.std.proofs.Common.{◌≡◌, ℕ, ◌<◌, ◌^◌, List, true, Option, Some, None, ap, arith, get_or, refl, sym, ◌∙◌}
use Rattle.std.specs.Prelude.{codes, slice_get}
use Rattle.json.proofs.Printed.Utf8.{IsUtf8-are_ascii}
use Rattle.serde_json.specs.Data.{Data}
use Rattle.serde_json.specs.Written.{compact_text}
use Rattle.voy_json.specs.Canonical.{IsCanonical}
use Rattle.voy_json.specs.LineLaws.{compact_text_has_none}
use Rattle.voy_schema.specs.Lawful.{is_lawful}
use Rattle.voy_schema.specs.LawfulLaws.{table_is_lawful, table_parts}
use Rattle.voy_schema.specs.declared.table.Table.{Table}
use Rattle.voy_tables.specs.Changes.{is_well_formed}
use Rattle.voy_tables.specs.declared.change.Change.{Change}
use Rattle.voy_tables.specs.declared.change.Role.{Role}
use Rattle.voy_event.proofs.CanonicalLemmas.{change_is_canonical, cutover_is_canonical}
use Rattle.voy_event.proofs.ReadBack.{belongs_to, no_table, rows_of}
use Rattle.voy_event.specs.Events.{closing_line}
use Rattle.voy_event.specs.LawfulEvent.{IsLawfulFrom}
use Rattle.voy_event.specs.Laws.{LinesStandInSegments}
use Rattle.voy_event.specs.LineText.{change_data, change_data_in, cutover_data, event_data, line_text, what_data}
use Rattle.voy_tables.specs.Changes.{table_of}
use Rattle.voy_event.specs.declared.event.What.{What}
use Rattle.voy_event.specs.declared.event.What.TheVariants as what

-- a line that is canonical, and whose text begins with a brace
record IsLine (d : Data) : Type 0 where
  canonical : IsCanonical d
  first : get_or (compact_text d) 0 0 ≡ 123

change_is_line : (tables : List Table) (vsn : ℕ) (role : Role) (c : Change) (o : Option Table) → slice_get tables (table_of c) ≡ o → is_lawful tables ≡ true
    → vsn < 2 ^ 64 → is_well_formed tables c ≡ true → IsLine (change_data_in o vsn role c)
unfolding change_data
change_is_line tables vsn role c None stands lawful fits formed = absurd (no_table tables c formed stands)
change_is_line tables vsn role c (Some t) stands lawful fits formed = record {
  canonical = change_is_canonical t vsn role c (table_parts t (table_is_lawful tables (table_of c) t lawful stands)) fits
      (rows_of t c (belongs_to tables t c stands formed));
  first = refl;
}

cutover_is_line : (op : List ℕ) (vsn : ℕ) (role : Role) → IsCanonical (cutover_data op vsn role) → IsLine (cutover_data op vsn role)
unfolding cutover_data
cutover_is_line op vsn role canonical = record { canonical = canonical; first = refl }

event_is_line : (tables : List Table) (vsn : ℕ) (role : Role) (w : What) → is_lawful tables ≡ true → vsn < 2 ^ 64 → IsLawfulFrom tables role w
    → IsLine (what_data tables vsn role w)
event_is_line tables vsn role (what.Change c) lawful fits from = change_is_line tables vsn role c (slice_get tables (table_of c)) refl lawful fits from.well_formed
event_is_line tables vsn role what.CutoverTarget lawful fits from =
    cutover_is_line (codes "cutover.target") vsn role (cutover_is_canonical (codes "cutover.target") vsn role (IsUtf8-are_ascii (codes "cutover.target") refl) fits)
event_is_line tables vsn role what.CutoverSource lawful fits from =
    cutover_is_line (codes "cutover.source") vsn role (cutover_is_canonical (codes "cutover.source") vsn role (IsUtf8-are_ascii (codes "cutover.source") refl) fits)

closing_first : get_or closing_line 0 0 ≡ 92
unfolding closing_line
closing_first = refl

pub lines_stand_in_segments : LinesStandInSegments
unfolding line_text
lines_stand_in_segments tables e lawful event =
    let line = event_is_line tables e.vsn e.role e.what lawful event.fits event.what in
    record {
      one = compact_text_has_none (event_data tables e) line.canonical;
      other = λ same. let never : 123 ≡ 92 = sym line.first ∙ ap (λ (text : List ℕ). get_or text 0 0) same ∙ closing_first in omega arith;
    }
