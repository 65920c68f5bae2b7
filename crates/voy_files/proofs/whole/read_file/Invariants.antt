use Rattle.std.proofs.Common.{◌≡◌, ◌≤◌, ◌++◌}
use Rattle.voy_files.specs.Bytes.{OfBytes, bytes_left, unread}
use Rattle.voy_files.proofs.whole.read_file.Given as goal

abbrev pub invariant-pieces : goal.invariant-pieces
invariant-pieces g l = record {
  so_far : OfBytes (g.D.Disk.files l.fn.disk) l.name (λ all. all ≡ l.bytes.items ++ unread l.reader all);
  same : g.D.Disk.files l.disk ≡ g.D.Disk.files l.fn.disk;
  later : g.D.Disk.faults l.fn.disk ≤ g.D.Disk.faults l.disk;
  lender : g.D.Disk.lender l.disk ≡ g.D.Disk.lender l.fn.disk;
}

abbrev pub decreases-pieces : goal.decreases-pieces
decreases-pieces g l = bytes_left l.reader
