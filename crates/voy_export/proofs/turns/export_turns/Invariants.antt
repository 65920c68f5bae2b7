use Rattle.std.proofs.Common.{◌≡◌, ◌≤◌, IsTrue, [], false, true, is_some}
use Rattle.voy_disk.specs.Calls.{Change}
use Rattle.voy_disk.specs.Files.{IfTold}
use Rattle.voy_disk.specs.Frames.{KeepsBeside}
use Rattle.voy_disk.specs.Images.{Image, ImagesOf}
use Rattle.voy_disk.specs.Steps.{Every, Goes, StaysTold}
use Rattle.voy_export.proofs.TurnLemmas.{TurnLaws}
use Rattle.voy_export.specs.Calls.{IsQueueFile}
use Rattle.voy_export.specs.Exports.{exports_in}
use Rattle.voy_export.specs.Laws.{AreNext, StepsKeepSound}
use Rattle.voy_export.specs.Put.{AddsQueueRecords}
use Rattle.voy_export.specs.Recording.{Recording}
use Rattle.voy_export.specs.Sound.{SoundExports}
use Rattle.voy_export.specs.Steps.{MayExport, export_step, last_vsn}
use Rattle.voy_export.specs.Turns.{Turned, end_left, kept_left}
use Rattle.voy_feed.specs.Feed.{FeedStands, bytes_left, last_kept}
use Rattle.voy_meta.specs.Allowed.{has_snapshot, writes}
use Rattle.voy_meta.specs.Meta.{MetaStands, meta_state}
use Rattle.voy_meta.specs.Meta.{is_live as meta_live}
use Rattle.voy_meta.specs.Sides.{leads_to, request_of}
use Rattle.voy_queue.specs.Putting.{HasRoom, recorded_end}
use Rattle.voy_queue.specs.Shelf.{shelf_in}
use Rattle.voy_queue.specs.Writer.{WriterStands, closing_size, committed_end, is_live, pending, writer_role}
use Rattle.voy_export.proofs.turns.export_turns.Given as goal

abbrev pub invariant-turns : goal.invariant-turns
invariant-turns g l = record {
  laws : TurnLaws;
  keeps : StepsKeepSound;
  room : (i : Image) → ImagesOf (g.D.Disk.files l.fn.export) i → HasRoom (committed_end l.fn.writer) (shelf_in i);
  turned : IfTold (g.D.Disk.files l.fn.recording) (λ fs. Turned l.schema.tables (writer_role l.fn.writer) (closing_size l.fn.writer) (committed_end l.fn.writer)
      (end_left l.schema.tables l.fn.writer l.fn.todo (kept_left l.schema.tables l.fn.feed l.fn.keep fs))
      (end_left l.schema.tables l.writer l.plan (kept_left l.schema.tables l.feed l.keep fs))
      (committed_end l.writer) (ImagesOf (g.D.Disk.files l.fn.export)) (ImagesOf (g.D.Disk.files l.export)));
  moves : IfTold (g.D.Disk.files l.fn.recording) (λ fs. (stated : Recording) → stated.schema ≡ l.schema.tables
      → AreNext stated (last_vsn (meta_state l.fn.meta)) (end_left l.schema.tables l.fn.writer l.fn.todo (kept_left l.schema.tables l.fn.feed l.fn.keep fs)).puts
      → Every (ImagesOf (g.D.Disk.files l.fn.export)) (λ image. SoundExports stated (exports_in stated.schema image))
      → Goes (exports_in stated.schema) export_step (MayExport stated) (ImagesOf (g.D.Disk.files l.fn.export)) (ImagesOf (g.D.Disk.files l.export)));
  feed : FeedStands l.feed (g.D.Disk.files l.recording);
  place : last_kept l.keep ≡ (committed_end l.writer).spot;
  goes_on : (committed_end l.writer).ended ≡ false;
  live : IsTrue (is_live l.writer);
  nothing : pending l.writer ≡ [];
  recorded : committed_end l.writer ≡ recorded_end (meta_state l.meta) (writer_role l.writer);
  writer : WriterStands l.writer (g.D.Disk.files l.export);
  meta : IsTrue (meta_live l.meta);
  stands : MetaStands l.meta (g.D.Disk.files l.export);
  snapshot : IsTrue (has_snapshot (meta_state l.meta));
  may : IsTrue (writes (meta_state l.meta) (writer_role l.writer));
  asked : l.plan.end ≡ true → IsTrue (is_some (request_of (leads_to (writer_role l.writer)) (meta_state l.meta)));
  from : l.from ≤ (committed_end l.writer).last_vsn;
  rises : (committed_end l.fn.writer).last_vsn ≤ (committed_end l.writer).last_vsn;
  adds : AddsQueueRecords (meta_state l.fn.meta) (meta_state l.meta);
  role : writer_role l.writer ≡ writer_role l.fn.writer;
  size : closing_size l.writer ≡ closing_size l.fn.writer;
  others : Change (KeepsBeside IsQueueFile) (g.D.Disk.files l.fn.export) (g.D.Disk.files l.export);
  told_still : StaysTold (ImagesOf (g.D.Disk.files l.fn.export)) (ImagesOf (g.D.Disk.files l.export));
  same : g.D.Disk.files l.recording ≡ g.D.Disk.files l.fn.recording;
  lender_recording : g.D.Disk.lender l.recording ≡ g.D.Disk.lender l.fn.recording;
  lender_export : g.D.Disk.lender l.export ≡ g.D.Disk.lender l.fn.export;
  later_recording : g.D.Disk.faults l.fn.recording ≤ g.D.Disk.faults l.recording;
  later_export : g.D.Disk.faults l.fn.export ≤ g.D.Disk.faults l.export;
}

abbrev pub decreases-turns : goal.decreases-turns
decreases-turns g l = bytes_left l.feed
