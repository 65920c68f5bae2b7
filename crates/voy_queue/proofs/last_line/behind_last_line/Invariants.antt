use Rattle.std.proofs.Common.{◌≡◌, ◌≤◌, ◌<◌, ◌+◌, ◌^◌}
use Rattle.voy_files.specs.Bytes.{OfBytes, bytes_left, unread}
use Rattle.voy_queue.specs.Opening.{behind_last_line}
use Rattle.voy_queue.proofs.OpeningLemmas.{counted}
use Rattle.voy_queue.proofs.last_line.behind_last_line.Given as goal

abbrev pub invariant-bytes : goal.invariant-bytes
invariant-bytes g l = record {
  counts : OfBytes (g.D.Disk.files l.fn.disk) l.name (λ bytes. behind_last_line bytes ≡ counted l.at l.last (behind_last_line (unread l.reader bytes)));
  few : l.at + bytes_left l.reader < 2 ^ 63;
  same : g.D.Disk.files l.disk ≡ g.D.Disk.files l.fn.disk;
  later : g.D.Disk.faults l.fn.disk ≤ g.D.Disk.faults l.disk;
  lender : g.D.Disk.lender l.disk ≡ g.D.Disk.lender l.fn.disk;
}

abbrev pub decreases-bytes : goal.decreases-bytes
decreases-bytes g l = bytes_left l.reader
