use Rattle.std.proofs.Common.{◌≡◌, ap, ◌∙◌, false, is_some, List, [], ℕ}
use Rattle.std.proofs.lemmas.Result.{IfErr-weaker, IfOk-weaker}
use Rattle.voy_disk.specs.Files.{Files, bytes_now}
use Rattle.voy_files.specs.Reader.{unread}
use Rattle.voy_files.specs.declared.line_reader.LineReader.{LineReader}
use Rattle.voy_schema.specs.declared.table.Table.{Table}
use Rattle.voy_tables.specs.Lists.{empty_lists}
use Rattle.voy_command.specs.Commands.DryRun.Outcome.{outcome_of_lines}
use Rattle.voy_command.specs.Files.{file_bytes, segment_name}
use Rattle.voy_command.specs.Commands.DryRun.Folding.{outcome_from, unread_lines}
use Rattle.voy_command.specs.Commands.DryRun.Segment.{event_lines}
use Rattle.voy_command.specs.declared.commands.dry_run.fold.Fold.{Fold}
use Rattle.voy_command.proofs.RecordedLaws.{no_bytes}
use Rattle.voy_command.proofs.SegmentLaws.{begins, file_lines, rose_from, stops_along}
use Rattle.voy_command.proofs.commands.dry_run.segment.fold_segment.Goals as goal
use Rattle.voy_contents.specs.Tables.{lists_in, schema_in}

-- a fold of no events has the outcome of the segment before it, where the reader has all of it left
whole_segment : (schema : List Table) (fold : Fold) (reader : LineReader) (fs : Files) (name : List ℕ)
    → unread reader fs ≡ bytes_now (fs name) → name ≡ segment_name
    → schema_in fold.tables ≡ schema → lists_in fold.tables ≡ empty_lists schema → fold.last ≡ 0 → fold.ended ≡ false
    → outcome_of_lines schema (event_lines (file_bytes (fs segment_name))) ≡ outcome_from fold (unread_lines reader fs)
whole_segment schema fold reader fs name reads named tables lists last ended =
    ap (outcome_of_lines schema) (file_lines (fs segment_name) (unread reader fs) (reads ∙ ap (λ (n : List ℕ). bytes_now (fs n)) named))
    ∙ begins schema fold (unread_lines reader fs) tables lists last ended

pub returns-in-Ok-Some-clause-ok : goal.returns-in-Ok-Some-clause-ok
returns-in-Ok-Some-clause-ok g c =
    IfOk-weaker c.fold_lines.result _ _ (λ done outcome fs is.
    whole_segment c.args.schema.tables c.in-Ok.fold c.in-Ok-Some.reader fs c.in-Ok-segment_file.name
    ((rw c.in-Ok-Some.field-0-is at c.in-Ok-Some.ensures.absent) fs is) c.in-Ok-segment_file.ensures
    c.in-Ok.ensures.schema c.in-Ok.ensures.lists c.in-Ok.ensures.last c.in-Ok.ensures.ended
    ∙ outcome fs (c.open.ensures.same ∙ is)) c.fold_lines.ensures.ok

pub returns-in-Ok-Some-clause-err : goal.returns-in-Ok-Some-clause-err
returns-in-Ok-Some-clause-err g c =
    IfErr-weaker c.fold_lines.result _ _
    (λ a stop. stops_along _ a _ _ _ _ _ (rose_from _ _ _ c.open.ensures.cause.later)
    (λ outcome. λ fs is.
    whole_segment c.args.schema.tables c.in-Ok.fold c.in-Ok-Some.reader fs c.in-Ok-segment_file.name
    ((rw c.in-Ok-Some.field-0-is at c.in-Ok-Some.ensures.absent) fs is) c.in-Ok-segment_file.ensures
    c.in-Ok.ensures.schema c.in-Ok.ensures.lists c.in-Ok.ensures.last c.in-Ok.ensures.ended
    ∙ outcome fs (c.open.ensures.same ∙ is))
    stop)
    c.fold_lines.ensures.err

pub returns-in-Ok-None-clause-ok : goal.returns-in-Ok-None-clause-ok
returns-in-Ok-None-clause-ok g c = λ fs is.
    ap (λ found. outcome_of_lines c.args.schema.tables (event_lines found)) (no_bytes (fs segment_name)
    ((rw c.in-Ok-None.field-0-is at c.in-Ok-None.ensures.found) fs is ∙ ap (λ (name : List ℕ). is_some (fs name)) c.in-Ok-segment_file.ensures))
    ∙ begins c.args.schema.tables c.in-Ok.fold [] c.in-Ok.ensures.schema c.in-Ok.ensures.lists c.in-Ok.ensures.last c.in-Ok.ensures.ended
