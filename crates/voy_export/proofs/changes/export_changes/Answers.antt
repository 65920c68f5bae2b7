use Rattle.std.proofs.Common.{refl, sym, ap, subst, ◌∙◌, ◌≡◌, Some}
use Rattle.voy_disk.specs.Files.{Files}
use Rattle.voy_disk.specs.Images.{now_image}
use Rattle.voy_export.proofs.ChangeLemmas.{between_ends, changes_between, end_is, goes_where, next_of, recorded_changes, start_ended}
use Rattle.voy_export.specs.Calls.{count_changes}
use Rattle.voy_export.specs.Ends.{ChangesEnd, export_end}
use Rattle.voy_export.specs.Exports.{exports_in}
use Rattle.voy_export.specs.Laws.{AreNext}
use Rattle.voy_export.specs.Recording.{recording_of}
use Rattle.voy_export.specs.Steps.{MayExport, export_step, last_vsn}
use Rattle.voy_export.specs.Turns.{end_left, kept_left}
use Rattle.voy_feed.specs.Feed.{changes_left, last_kept}
use Rattle.voy_feed.specs.Kept.{change_file, changes_of}
use Rattle.voy_meta.specs.Meta.{meta_state}
use Rattle.voy_meta.specs.Sides.{last_of}
use Rattle.voy_queue.specs.Putting.{end_of, recorded_end}
use Rattle.voy_queue.specs.Writer.{closing_size, committed_end, writer_end, writer_role}
use Rattle.voy_export.proofs.changes.export_changes.Goals as goal

same_end_err : (g : _) (c : goal.After-from_residual g) (fs : Files) → g.D.Disk.files c.args.recording.now ≡ Some fs
    → end_left c.args.schema.now.tables c.args.writer.now (record { left = c.args.max; end = c.args.end }) (kept_left c.args.schema.now.tables c.args.feed.now c.args.keep.now fs)
    ≡ export_end c.args.schema.now.tables (closing_size c.args.writer.now) (now_image fs) (writer_role c.args.writer.now) (meta_state c.args.meta.now) c.args.max c.args.end
same_end_err g c fs told =
    end_is c.args.schema.now.tables (closing_size c.args.writer.now) (change_file (writer_role c.args.writer.now)) (writer_role c.args.writer.now)
    (recorded_end (meta_state c.args.meta.now) (writer_role c.args.writer.now)) (writer_end c.args.writer.now) c.args.max c.args.end
    (last_of (writer_role c.args.writer.now) (meta_state c.args.meta.now)) (last_kept c.args.keep.now)
    (changes_of c.args.schema.now.tables (now_image fs (change_file (writer_role c.args.writer.now)))) (changes_left c.args.schema.now.tables c.args.feed.now fs)
    (ap (end_of (committed_end c.args.writer.now)) c.requires.nothing ∙ c.requires.recorded) c.requires.place (c.requires.start fs told)

pub returns-in_err-export_turns-clause-moves : goal.returns-in_err-export_turns-clause-moves
returns-in_err-export_turns-clause-moves g c = λ fs told sound.
    goes_where (exports_in c.args.schema.now.tables) export_step (MayExport (recording_of c.args.schema.now.tables (now_image fs))) (c.export_turns.ensures.prefix fs told)
    (λ i is. c.export_turns.ensures.moves fs told (recording_of c.args.schema.now.tables (now_image fs)) refl
    (subst (λ (e : ChangesEnd). AreNext (recording_of c.args.schema.now.tables (now_image fs)) (last_vsn (meta_state c.args.meta.now)) e.puts) (sym (same_end_err g c fs told))
    (next_of c.exports_are_next.ensures c.args.schema.now.tables (now_image fs) (meta_state c.args.meta.now) (writer_role c.args.writer.now) (closing_size c.args.writer.now) c.args.max c.args.end i
    ((c.metadata_stand.ensures.state c.args.meta.now (g.D.Disk.files c.args.export.now) c.requires.stands).each i is) c.requires.may (sound.each i is))) sound)

same_end : (g : _) (c : goal.After-exported_between g) (fs : Files) → g.D.Disk.files c.args.recording.now ≡ Some fs
    → end_left c.args.schema.now.tables c.args.writer.now (record { left = c.args.max; end = c.args.end }) (kept_left c.args.schema.now.tables c.args.feed.now c.args.keep.now fs)
    ≡ export_end c.args.schema.now.tables (closing_size c.args.writer.now) (now_image fs) (writer_role c.args.writer.now) (meta_state c.args.meta.now) c.args.max c.args.end
same_end g c fs told =
    end_is c.args.schema.now.tables (closing_size c.args.writer.now) (change_file (writer_role c.args.writer.now)) (writer_role c.args.writer.now)
    (recorded_end (meta_state c.args.meta.now) (writer_role c.args.writer.now)) (writer_end c.args.writer.now) c.args.max c.args.end
    (last_of (writer_role c.args.writer.now) (meta_state c.args.meta.now)) (last_kept c.args.keep.now)
    (changes_of c.args.schema.now.tables (now_image fs (change_file (writer_role c.args.writer.now)))) (changes_left c.args.schema.now.tables c.args.feed.now fs)
    (ap (end_of (committed_end c.args.writer.now)) c.requires.nothing ∙ c.requires.recorded) c.requires.place (c.requires.start fs told)

pub returns-clause-moves : goal.returns-clause-moves
returns-clause-moves g c = λ fs told sound.
    goes_where (exports_in c.args.schema.now.tables) export_step (MayExport (recording_of c.args.schema.now.tables (now_image fs))) (c.export_turns.ensures.prefix fs told)
    (λ i is. c.export_turns.ensures.moves fs told (recording_of c.args.schema.now.tables (now_image fs)) refl
    (subst (λ (e : ChangesEnd). AreNext (recording_of c.args.schema.now.tables (now_image fs)) (last_vsn (meta_state c.args.meta.now)) e.puts) (sym (same_end g c fs told))
    (next_of c.exports_are_next.ensures c.args.schema.now.tables (now_image fs) (meta_state c.args.meta.now) (writer_role c.args.writer.now) (closing_size c.args.writer.now) c.args.max c.args.end i
    ((c.metadata_stand.ensures.state c.args.meta.now (g.D.Disk.files c.args.export.now) c.requires.stands).each i is) c.requires.may (sound.each i is))) sound)

pub returns-clause-changes : goal.returns-clause-changes
returns-clause-changes g c = λ fs told.
    let from = ap (end_of (committed_end c.args.writer.now)) c.requires.nothing in
    let to = ap (end_of (committed_end c.export_turns.new.writer)) c.in_ok-export_turns.ensures.nothing in
    changes_between c.puts_go_on.ensures.ends c.args.schema.now.tables (writer_role c.args.writer.now) (closing_size c.args.writer.now) (committed_end c.args.writer.now)
    (committed_end c.export_turns.new.writer) _ c.exported_between.result.changes (c.in_ok-export_turns.ensures.follow fs told)
    (start_ended (writer_role c.args.writer.now) (meta_state c.args.meta.now) (committed_end c.args.writer.now) c.requires.recorded c.requires.may)
    (c.in_ok-export_turns.ensures.end fs told)
    (between_ends c.end-from.result c.end.result (committed_end c.args.writer.now) (committed_end c.export_turns.new.writer) c.exported_between.result.changes
    (c.end-from.ensures ∙ from) (c.end.ensures ∙ to) c.exported_between.ensures.changes)
    ∙ ap (λ (e : ChangesEnd). count_changes e.puts) (same_end g c fs told)

pub returns-clause-counts : goal.returns-clause-counts
returns-clause-counts g c =
    recorded_changes (meta_state c.args.meta.now) (meta_state c.export_turns.new.meta) (writer_role c.args.writer.now) c.end-from.result c.end.result c.exported_between.result.changes
    (c.end-from.ensures ∙ ap (end_of (committed_end c.args.writer.now)) c.requires.nothing ∙ c.requires.recorded)
    (c.end.ensures ∙ ap (end_of (committed_end c.export_turns.new.writer)) c.in_ok-export_turns.ensures.nothing ∙ c.in_ok-export_turns.ensures.recorded
    ∙ ap (recorded_end (meta_state c.export_turns.new.meta)) c.export_turns.ensures.role)
    c.exported_between.ensures.changes
