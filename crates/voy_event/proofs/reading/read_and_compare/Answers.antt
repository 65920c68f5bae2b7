use Rattle.std.proofs.Common.{◌≡◌, ◌∙◌, Err, true, false, sym, rules}
use Rattle.voy_event.specs.EventLine.{line_reading}
use Rattle.voy_event.proofs.AtOnceLemmas.{canonical_by, not_canonical}
use Rattle.voy_event.proofs.reading.read_and_compare.Goals as goal

pub returns-then-branch : goal.returns-then-branch
returns-then-branch c =
    let same : c.in_ok-is_written_as-in-Ok.field-0 ≡ true = search rules in
    sym (canonical_by c.args.schema.now.tables c.args.line.now c.in-Ok.event true c.in-Ok.ensures.ok (sym c.in_ok-is_written_as-in-Ok.ensures ∙ same))

pub returns-else-branch : goal.returns-else-branch
returns-else-branch c =
    let other : c.in_ok-is_written_as-in-Ok.field-0 ≡ false = search rules in
    sym (canonical_by c.args.schema.now.tables c.args.line.now c.in-Ok.event false c.in-Ok.ensures.ok (sym c.in_ok-is_written_as-in-Ok.ensures ∙ other))

pub returns-in-Err-Bad : goal.returns-in-Err-Bad
returns-in-Err-Bad c =
    let schema = c.args.schema.now.tables in
    let line = c.args.line.now in
    let cause = c.in-Err-Bad.field-0-0 in
    let refused : line_reading schema line ≡ Err cause = rw c.in-Err-Bad.field-0-is at c.in-Err-Bad.ensures.err in
    sym (not_canonical schema line cause refused)
