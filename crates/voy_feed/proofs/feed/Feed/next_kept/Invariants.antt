use Rattle.std.proofs.Common.{◌≡◌, ◌≤◌}
use Rattle.voy_disk.specs.Files.{IfTold}
use Rattle.voy_feed.specs.Feed.{FeedStands, bytes_left, changes_left, last_kept}
use Rattle.voy_feed.specs.Kept.{kept_reading}
use Rattle.voy_feed.proofs.feed.Feed.next_kept.Given as goal

abbrev pub invariant-lines : goal.invariant-lines
invariant-lines g l = record {
  left : IfTold (g.D.Disk.files l.fn.disk) (λ fs.
      kept_reading (last_kept l.keep) (changes_left l.schema.tables l.self fs)
      ≡ kept_reading (last_kept l.fn.keep) (changes_left l.schema.tables l.fn.self fs));
  stands : FeedStands l.self (g.D.Disk.files l.disk);
  last : last_kept l.keep ≡ last_kept l.fn.keep;
  fewer : bytes_left l.self ≤ bytes_left l.fn.self;
  same : g.D.Disk.files l.disk ≡ g.D.Disk.files l.fn.disk;
  later : g.D.Disk.faults l.fn.disk ≤ g.D.Disk.faults l.disk;
  lender : g.D.Disk.lender l.disk ≡ g.D.Disk.lender l.fn.disk;
}

abbrev pub decreases-lines : goal.decreases-lines
decreases-lines g l = bytes_left l.self
