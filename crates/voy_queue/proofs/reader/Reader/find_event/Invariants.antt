use Rattle.std.proofs.Common.{◌≡◌, ◌≤◌, ◌-◌, List, length}
use Rattle.voy_disk.specs.Files.{IfTold}
use Rattle.voy_queue.specs.Reader.{ReadsCommitted, left}
use Rattle.voy_schema.specs.declared.table.Table.{Table}
use Rattle.voy_queue.proofs.reader.Reader.find_event.Given as goal

abbrev pub invariant-loop-self : goal.invariant-loop-self
invariant-loop-self g l = record {
  left : IfTold (g.D.Disk.files l.fn.disk) (λ fs. (schema : List Table) → left schema l.self fs ≡ left schema l.fn.self fs);
  committed : IfTold (g.D.Disk.files l.fn.disk) (λ fs. ReadsCommitted l.fn.self fs → ReadsCommitted l.self fs);
  same : g.D.Disk.files l.disk ≡ g.D.Disk.files l.fn.disk;
  later : g.D.Disk.faults l.fn.disk ≤ g.D.Disk.faults l.disk;
  lender : g.D.Disk.lender l.disk ≡ g.D.Disk.lender l.fn.disk;
}

-- segments that are left to begin
abbrev pub decreases-loop-self : goal.decreases-loop-self
decreases-loop-self g l = length l.self.segments - l.self.next
