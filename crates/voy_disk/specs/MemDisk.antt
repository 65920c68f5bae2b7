-- What contracts see of a disk in memory whose calls fail by a plan.
use Rattle.std.specs.Prelude.{◌≡◌, ◌||◌, ℕ, Bool, Result, Ok, Err}
use Rattle.voy_disk.specs.declared.disk.DiskError.{DiskError}
use Rattle.voy_disk.specs.declared.disk.DiskError.TheVariants.{Failed, NoMemory}
use Rattle.voy_disk.specs.declared.memory.disk.MemDisk.{MemDisk}
use Rattle.voy_disk.specs.declared.memory.plan.FaultPlan.{FaultPlan}
use Rattle.voy_disk.specs.Faults.{count_after}
use Rattle.voy_disk.specs.Files.{Files}
use Rattle.voy_disk.specs.MemFiles.{files_of}
use Rattle.voy_disk.specs.Plan.{has_planned, is_dead_at}

-- its files
abbrev pub mem_disk_files : MemDisk → Files
mem_disk_files disk = files_of disk.files

-- how many calls it had
abbrev pub mem_disk_calls : MemDisk → ℕ
mem_disk_calls disk = disk.calls

-- by which plan its calls fail
abbrev pub mem_disk_plan : MemDisk → FaultPlan
mem_disk_plan disk = disk.plan

-- how many of its calls failed
abbrev pub mem_disk_faults : MemDisk → ℕ
mem_disk_faults disk = disk.faults

-- whether a call has failed by the plan's number from which all fail, since the last crash
abbrev pub mem_disk_dead : MemDisk → Bool
mem_disk_dead disk = disk.dead

-- the plan has the number of the next call
abbrev pub fails_next : MemDisk → Bool
fails_next disk = has_planned disk.plan (count_after disk.calls)

-- the count of faults after a call that answers so: one higher where the disk failed
abbrev pub faults_after : {T : Type 0} → ℕ → Result T DiskError → ℕ
faults_after faults (Ok value) = faults
faults_after faults (Err Failed) = count_after faults
faults_after faults (Err NoMemory) = faults

-- a call was counted, and the plan stays; by it the disk may be dead now
pub record CountsCall (old new : MemDisk) : Type 0 where
  pub calls : mem_disk_calls new ≡ count_after (mem_disk_calls old)
  pub plan : mem_disk_plan new ≡ mem_disk_plan old
  pub dead : mem_disk_dead new ≡ (mem_disk_dead old || is_dead_at (mem_disk_plan old) (count_after (mem_disk_calls old)))

-- the number of calls, the plan, the count of faults and whether the disk is dead stay
pub record KeepsPlan (old new : MemDisk) : Type 0 where
  pub calls : mem_disk_calls new ≡ mem_disk_calls old
  pub plan : mem_disk_plan new ≡ mem_disk_plan old
  pub faults : mem_disk_faults new ≡ mem_disk_faults old
  pub dead : mem_disk_dead new ≡ mem_disk_dead old
