-- What contracts see of a disk in memory that never fails.
use Rattle.voy_disk.specs.declared.memory.sure_disk.SureDisk.{SureDisk}
use Rattle.voy_disk.specs.Files.{Files}
use Rattle.voy_disk.specs.MemFiles.{files_of}

-- its files
abbrev pub sure_disk_files : SureDisk → Files
sure_disk_files disk = files_of disk.files
