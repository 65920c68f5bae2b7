use Rattle.std.proofs.Common.{sym, ap, subst, ◌∙◌, ◌≡◌, true, Option, Some, IfOk}
use Rattle.voy_export.proofs.GatherLemmas.{above_follows, change_told, found_is, is_on, refusal_told}
use Rattle.voy_export.specs.Turns.{StopsAt, end_left, kept_left}
use Rattle.voy_feed.specs.Feed.{last_kept, lines_given}
use Rattle.voy_feed.specs.Kept.{behind_change, is_above}
use Rattle.voy_disk.specs.Files.{IfTold}
use Rattle.voy_event.specs.declared.recorded.Recorded.{Recorded}
use Rattle.voy_meta.specs.Allowed.{spot_follows}
use Rattle.voy_tables.specs.declared.change.Role.{Role}
use Rattle.voy_tables.specs.declared.change.Spot.{Spot}
use Rattle.voy_export.proofs.gathering.put_next.Goals as goal

pub put_change-requires-clause-place : goal.put_change-requires-clause-place
put_change-requires-clause-place g c =
    subst (λ (last : Option Spot). spot_follows last (Some c.in-Ok-Some.field-0-0.spot) ≡ true) c.requires.place
    (above_follows (last_kept c.args.keep.now) c.in-Ok-Some.field-0-0.spot (found_is (λ (r : Recorded). is_above (last_kept c.args.keep.now) r.spot ≡ true) c.in-Ok-Some.field-0 c.in-Ok-Some.field-0-0
    (c.in-Ok-Some-2.field-0-is ∙ ap Some (sym c.in-Ok-Some-2.recorded-is)) c.in-Ok-Some.ensures.above))

pub returns-in-Ok-Some-2-clause-puts : goal.returns-in-Ok-Some-2-clause-puts
returns-in-Ok-Some-2-clause-puts g c = change_told c.args.schema.now.tables c.args.writer.now c.put_change.new.writer c.args.plan.now c.put_change.new.plan
    (g.D.Disk.files c.args.recording.now)
    (kept_left c.args.schema.now.tables c.args.feed.now c.args.keep.now) (kept_left c.args.schema.now.tables c.next_kept.new.self c.next_kept.new.keep)
    c.put_change.result c.line.result c.in-Ok-Some.field-0-0 c.put_change.ensures.puts
    (λ fs told. found_is (λ (r : Recorded). IfTold (g.D.Disk.files c.args.recording.now) (λ fs. kept_left c.args.schema.now.tables c.args.feed.now c.args.keep.now fs
    ≡ behind_change (lines_given c.next_kept.new.self) r (kept_left c.args.schema.now.tables c.next_kept.new.self c.next_kept.new.keep fs)))
    c.in-Ok-Some.field-0 c.in-Ok-Some.field-0-0 (c.in-Ok-Some-2.field-0-is ∙ ap Some (sym c.in-Ok-Some-2.recorded-is)) c.in-Ok-Some.ensures.some fs told
    ∙ ap (λ n. behind_change n c.in-Ok-Some.field-0-0 (kept_left c.args.schema.now.tables c.next_kept.new.self c.next_kept.new.keep fs)) (sym c.line.ensures))

pub returns-in-Err-clause-puts : goal.returns-in-Err-clause-puts
returns-in-Err-clause-puts g c = refusal_told c.args.schema.now.tables c.args.writer.now c.args.plan.now (g.D.Disk.files c.args.recording.now)
    (kept_left c.args.schema.now.tables c.args.feed.now c.args.keep.now)
    (λ fs. end_left c.args.schema.now.tables c.args.writer.now c.args.plan.now (kept_left c.args.schema.now.tables c.next_kept.new.self c.next_kept.new.keep fs))
    c.stopped.result c.in-Err.error (subst (λ (r : Role). IfOk c.stopped.result (StopsAt r c.in-Err.error)) c.role.ensures c.stopped.ensures.stops)
    c.in-Err.ensures.line (is_on c.args.plan.now.left c.args.plan.now.end (sym c.is_over.ensures ∙ c.if-is_over.false))
