-- Disks that tell no files.
use Rattle.std.proofs.Common.{None, Result, Ok, Err, refl}
use Rattle.voy_disk.specs.declared.disk.DiskError.{DiskError}
use Rattle.voy_disk.specs.declared.disk.DiskError.TheVariants.{Failed, NoMemory}
use Rattle.voy_disk.specs.Calls.{Leaves, untold}
use Rattle.voy_disk.specs.Files.{Files}

-- whatever a call answers, such a disk tells none afterwards
pub leaves_untold : {T : Type 0} (result : Result T DiskError) (done failed : Files → Files → Type 0) → Leaves result done failed None None
leaves_untold (Ok value) done failed = untold
leaves_untold (Err Failed) done failed = untold
leaves_untold (Err NoMemory) done failed = refl
