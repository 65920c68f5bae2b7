use Rattle.std.proofs.Common.{◌≡◌, ◌≤◌, IsTrue, false}
use Rattle.voy_disk.specs.Files.{IfTold}
use Rattle.voy_export.specs.Turns.{Gathers, end_left, kept_left}
use Rattle.voy_feed.specs.Feed.{FeedStands, bytes_left, last_kept}
use Rattle.voy_queue.specs.Laws.{EndsWithPuts, FollowsJoin, PendingJoins}
use Rattle.voy_queue.specs.Writer.{closing_size, committed_end, is_live, writer_end, writer_role}
use Rattle.voy_export.proofs.gathering.gather.Given as goal

abbrev pub invariant-events : goal.invariant-events
invariant-events g l = record {
  joins : PendingJoins;
  ends : EndsWithPuts;
  follows : FollowsJoin;
  puts : IfTold (g.D.Disk.files l.fn.recording) (λ fs. Gathers l.schema.tables l.fn.writer l.writer
      (end_left l.schema.tables l.fn.writer l.fn.plan (kept_left l.schema.tables l.fn.feed l.fn.keep fs))
      (end_left l.schema.tables l.writer l.plan (kept_left l.schema.tables l.feed l.keep fs)));
  feed : FeedStands l.feed (g.D.Disk.files l.recording);
  live : IsTrue (is_live l.writer);
  goes_on : (writer_end l.writer).ended ≡ false;
  place : last_kept l.keep ≡ (writer_end l.writer).spot;
  rises : (writer_end l.fn.writer).last_vsn ≤ (writer_end l.writer).last_vsn;
  fewer : bytes_left l.feed ≤ bytes_left l.fn.feed;
  plan : l.plan.end ≡ l.fn.plan.end;
  end : committed_end l.writer ≡ committed_end l.fn.writer;
  role : writer_role l.writer ≡ writer_role l.fn.writer;
  size : closing_size l.writer ≡ closing_size l.fn.writer;
  same : g.D.Disk.files l.recording ≡ g.D.Disk.files l.fn.recording;
  lender : g.D.Disk.lender l.recording ≡ g.D.Disk.lender l.fn.recording;
  later : g.D.Disk.faults l.fn.recording ≤ g.D.Disk.faults l.recording;
}

abbrev pub decreases-events : goal.decreases-events
decreases-events g l = bytes_left l.feed
