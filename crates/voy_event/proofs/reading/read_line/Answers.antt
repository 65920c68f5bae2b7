use Rattle.std.proofs.Common.{◌≡◌, ◌≤◌, length}
use Rattle.voy_event.specs.EventLine.{max_event_line_bytes}
use Rattle.voy_event.specs.LawfulEvent.{IsLawful}
use Rattle.voy_event.specs.LineText.{line_text}
use Rattle.voy_event.proofs.AtOnceLemmas.{reads_at_once}
use Rattle.voy_event.proofs.reading.read_line.Goals as goal

pub returns-in-Some-clause-ok : goal.returns-in-Some-clause-ok
returns-in-Some-clause-ok c =
    let schema = c.args.schema.now in
    let line = c.args.bytes.now in
    let event = c.in-Some.event in
    let same : line_text schema.tables event ≡ line = rw c.in-Some.is at c.in_ok-event.ensures.same in
    let lawful : IsLawful schema.tables event = rw c.in-Some.is at c.in_ok-event.ensures.lawful in
    let short : length line ≤ max_event_line_bytes = rw c.in-Some.is at c.in_ok-event.ensures.short in
    reads_at_once schema.tables event line schema.lawful lawful same short
