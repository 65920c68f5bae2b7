use Rattle.std.proofs.Common.{◌≡◌, ◌≤◌, length, sym}
use Rattle.voy_event.specs.EventLine.{max_event_line_bytes}
use Rattle.voy_event.specs.LawfulEvent.{IsLawful}
use Rattle.voy_event.specs.LineText.{line_text}
use Rattle.voy_event.proofs.AtOnceLemmas.{canonical_at_once, reads_at_once}
use Rattle.voy_event.proofs.reading.read_canonical.Goals as goal

pub returns-in-Some : goal.returns-in-Some
returns-in-Some c =
    let schema = c.args.schema.now in
    let line = c.args.line.now in
    let event = c.in-Some.event in
    let same : line_text schema.tables event ≡ line = rw c.in-Some.is at c.in_ok-event.ensures.same in
    let lawful : IsLawful schema.tables event = rw c.in-Some.is at c.in_ok-event.ensures.lawful in
    let short : length line ≤ max_event_line_bytes = rw c.in-Some.is at c.in_ok-event.ensures.short in
    sym (canonical_at_once schema.tables event line same (reads_at_once schema.tables event line schema.lawful lawful same short))
