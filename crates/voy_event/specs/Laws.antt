-- The laws of event lines, each of which a public function proves.
use Rattle.std.specs.Prelude.{◌≡◌, ◌≢◌, ◌≤◌, ℕ, List, Ok, length, true}
use Rattle.voy_json.specs.LineLaws.{has_no_line_feed}
use Rattle.voy_schema.specs.Lawful.{is_lawful}
use Rattle.voy_schema.specs.declared.table.Table.{Table}
use Rattle.voy_event.specs.EventLine.{line_reading, max_event_line_bytes}
use Rattle.voy_event.specs.Events.{closing_line}
use Rattle.voy_event.specs.LawfulEvent.{IsLawful}
use Rattle.voy_event.specs.LineText.{line_text}
use Rattle.voy_event.specs.declared.event.Event.{Event}

-- the line that is written of a lawful event reads back as the event, where it is no longer than a line may be
abbrev pub EventsReadBack : Type 0
EventsReadBack = (tables : List Table) (e : Event) → is_lawful tables ≡ true → IsLawful tables e
    → length (line_text tables e) ≤ max_event_line_bytes → line_reading tables (line_text tables e) ≡ Ok e

-- the text is one line, and not the line that closes a segment
pub record StandsInASegment (text : List ℕ) : Type 0 where
  pub one : has_no_line_feed text ≡ true
  pub other : text ≢ closing_line

-- so is the line that is written of a lawful event
abbrev pub LinesStandInSegments : Type 0
LinesStandInSegments = (tables : List Table) (e : Event) → is_lawful tables ≡ true → IsLawful tables e → StandsInASegment (line_text tables e)
