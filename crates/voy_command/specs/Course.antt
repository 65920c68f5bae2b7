-- A command as clauses speak of it: what its disks and its output tell, before it and after it.
use Rattle.std.specs.Prelude.{◌≡◌, ℕ, List, Option}
use Rattle.voy_disk.specs.Faults.{Rose}
use Rattle.voy_disk.specs.Files.{Files}
use Rattle.voy_disk.specs.Written.{GotFront, grown}
use Rattle.voy_disk.specs.declared.place.Place.{Place}
use Rattle.voy_tables.specs.declared.change.Side.{Side}
use Rattle.voy_tables.specs.declared.change.Side.TheVariants as side
use Rattle.voy_command.specs.declared.answer.Which.{Which}
use Rattle.voy_command.specs.declared.answer.Which.TheVariants.{Recording, Export, Store}

-- four disks and the output, in one moment
pub record State (D K : Type 0) : Type 0 where
  pub place : Place D
  pub out : K

-- what a disk tells (its files and its count of faults), what a sink tells (the bytes that it got and its count), and
-- the moments before and after
pub record Course (D K : Type 0) : Type 0 where
  pub files : D → Option Files
  pub faults : D → ℕ
  pub written : K → Option (List ℕ)
  pub failures : K → ℕ
  pub old : State D K
  pub new : State D K

-- the disk of a side's store
abbrev pub store_at : {D : Type 0} → Side → D → D → D
store_at side.Target target source = target
store_at side.Source target source = source

-- the disk of this name
abbrev pub disk_at : {D : Type 0} → Which → Place D → D
disk_at Recording place = place.recording
disk_at Export place = place.export
disk_at (Store side) place = store_at side place.target place.source

-- the files of this disk before and after
abbrev pub files_before : {D K : Type 0} → Which → Course D K → Option Files
files_before disk c = c.files (disk_at disk c.old.place)

abbrev pub files_after : {D K : Type 0} → Which → Course D K → Option Files
files_after disk c = c.files (disk_at disk c.new.place)

-- the disk's count of faults rose
abbrev pub DiskFailed : {D K : Type 0} → Which → Course D K → Type 0
DiskFailed disk c = Rose (c.faults (disk_at disk c.old.place)) (c.faults (disk_at disk c.new.place))

-- the output's count rose
abbrev pub OutFailed : {D K : Type 0} → Course D K → Type 0
OutFailed c = Rose (c.failures c.old.out) (c.failures c.new.out)

-- the output got just this text, a front of it, or nothing
abbrev pub Prints : {D K : Type 0} → List ℕ → Course D K → Type 0
Prints text c = c.written c.new.out ≡ grown (c.written c.old.out) text

abbrev pub PrintsFront : {D K : Type 0} → List ℕ → Course D K → Type 0
PrintsFront text c = GotFront text (c.written c.old.out) (c.written c.new.out)

abbrev pub PrintsNothing : {D K : Type 0} → Course D K → Type 0
PrintsNothing c = c.written c.new.out ≡ c.written c.old.out

-- nothing was done
pub record IsIdle {D K : Type 0} (c : Course D K) : Type 0 where
  pub place : c.new.place ≡ c.old.place
  pub out : c.new.out ≡ c.old.out
