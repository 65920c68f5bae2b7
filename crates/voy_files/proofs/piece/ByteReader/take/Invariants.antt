use Rattle.std.proofs.Common.{ℕ, ◌≡◌, ◌-◌, ◌+◌, ◌≤◌, ◌++◌, vec_len}
use Rattle.voy_files.specs.Bytes.{OfBytes, StandsAt, bytes_left, unread}
use Rattle.voy_files.proofs.piece.ByteReader.take.Given as goal

abbrev pub invariant-loop-self : goal.invariant-loop-self
invariant-loop-self g l = record {
  so_far : OfBytes (g.D.Disk.files l.fn.disk) l.fn.name (λ bytes. unread l.fn.self bytes ≡ l.part.items ++ unread l.self bytes);
  size : vec_len l.part ≤ l.size;
  stands : (offset : ℕ) → StandsAt l.fn.self offset → StandsAt l.self (offset + vec_len l.part);
  fewer : bytes_left l.self + vec_len l.part ≤ bytes_left l.fn.self;
  same : g.D.Disk.files l.disk ≡ g.D.Disk.files l.fn.disk;
  later : g.D.Disk.faults l.fn.disk ≤ g.D.Disk.faults l.disk;
  lender : g.D.Disk.lender l.disk ≡ g.D.Disk.lender l.fn.disk;
}

abbrev pub decreases-loop-self : goal.decreases-loop-self
decreases-loop-self g l = l.size - vec_len l.part
