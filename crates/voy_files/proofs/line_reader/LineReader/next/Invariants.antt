use Rattle.std.proofs.Common.{ℕ, false, ◌≡◌, ◌≤◌, ◌+◌, ◌-◌, length, vec_len}
use Rattle.voy_disk.specs.Files.{IfTold}
use Rattle.voy_files.specs.Reader.{IsRead, StandsAt, bytes_left, found_line, unread}
use Rattle.voy_files.proofs.line_reader.LineReader.next.Given as goal

abbrev pub invariant-loop-self : goal.invariant-loop-self
invariant-loop-self g l = record {
  so_far : IfTold (g.D.Disk.files l.fn.disk) (λ fs. IsRead (unread l.fn.self fs) (found_line l.self) (unread l.self fs));
  same : g.D.Disk.files l.disk ≡ g.D.Disk.files l.fn.disk;
  fewer : bytes_left l.self + length (found_line l.self) ≤ bytes_left l.fn.self;
  stands : (offset : ℕ) → StandsAt l.fn.self offset → StandsAt l.self (offset + length (found_line l.self));
  ended : l.self.is_ended ≡ false;
  limit : l.self.limit ≡ l.fn.self.limit;
  later : g.D.Disk.faults l.fn.disk ≤ g.D.Disk.faults l.disk;
  lender : g.D.Disk.lender l.disk ≡ g.D.Disk.lender l.fn.disk;
}

abbrev pub decreases-loop-self : goal.decreases-loop-self
decreases-loop-self g l = l.self.limit + 1 - vec_len l.self.line
