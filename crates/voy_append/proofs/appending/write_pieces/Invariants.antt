use Rattle.std.proofs.Common.{◌≡◌, ◌≤◌, ◌-◌, ℕ, List, length, take}
use Rattle.voy_disk.specs.Calls.{Change}
use Rattle.voy_disk.specs.Files.{IfTold}
use Rattle.voy_disk.specs.Frames.{KeepsOtherFiles}
use Rattle.voy_disk.specs.Fronts.{HasFront, KeepsFront}
use Rattle.voy_disk.specs.Images.{ImagesOf}
use Rattle.voy_disk.specs.Steps.{Follows}
use Rattle.voy_append.specs.Appending.{ReadsBehind}
use Rattle.voy_append.proofs.appending.write_pieces.Given as goal

abbrev pub invariant-pieces : goal.invariant-pieces
invariant-pieces g l = record {
  within : l.done ≤ length l.bytes;
  ready : IfTold (g.D.Disk.files l.disk) (ReadsBehind l.name l.start (take l.done l.bytes));
  keeps : (front : List ℕ) → length front ≡ l.start → HasFront l.name front (ImagesOf (g.D.Disk.files l.fn.disk))
      → Follows (KeepsFront l.name l.start) (ImagesOf (g.D.Disk.files l.fn.disk)) (ImagesOf (g.D.Disk.files l.disk));
  others : Change (KeepsOtherFiles l.name) (g.D.Disk.files l.fn.disk) (g.D.Disk.files l.disk);
  later : g.D.Disk.faults l.fn.disk ≤ g.D.Disk.faults l.disk;
  lender : g.D.Disk.lender l.disk ≡ g.D.Disk.lender l.fn.disk;
}

abbrev pub decreases-pieces : goal.decreases-pieces
decreases-pieces g l = length l.bytes - l.done
