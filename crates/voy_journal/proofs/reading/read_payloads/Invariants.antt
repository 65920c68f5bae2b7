use Rattle.std.proofs.Common.{◌≡◌, ◌<◌, ◌+◌, ◌≤◌, length}
use Rattle.voy_files.specs.Bytes.{OfBytes, bytes_left, unread}
use Rattle.voy_journal.proofs.Progress.{AreRead, HasRead}
use Rattle.voy_journal.proofs.reading.read_payloads.Given as goal

abbrev pub invariant-gates : goal.invariant-gates
invariant-gates g l = record {
  so_far : OfBytes (g.D.Disk.files l.fn.disk) l.fn.name (λ bytes.
      length bytes ≡ l.fn.end → 1 < l.fn.end → HasRead l.payloads bytes (unread l.reader bytes));
  read : AreRead l.payloads l.gate;
  fewer : l.gate + bytes_left l.reader ≤ l.fn.end;
  same : g.D.Disk.files l.disk ≡ g.D.Disk.files l.fn.disk;
  later : g.D.Disk.faults l.fn.disk ≤ g.D.Disk.faults l.disk;
  lender : g.D.Disk.lender l.disk ≡ g.D.Disk.lender l.fn.disk;
}

abbrev pub decreases-gates : goal.decreases-gates
decreases-gates g l = bytes_left l.reader
