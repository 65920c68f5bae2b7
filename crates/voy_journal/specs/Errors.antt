-- Which error of a journal an error of its disk is.
use Rattle.voy_disk.specs.declared.disk.DiskError.{DiskError}
use Rattle.voy_disk.specs.declared.disk.DiskError.TheVariants.{Failed, NoMemory}
use Rattle.voy_journal.specs.declared.error.JournalError.{JournalError}
use Rattle.voy_journal.specs.declared.error.JournalError.TheVariants as errors

-- the same cause
abbrev pub of_disk : DiskError → JournalError
of_disk Failed = errors.Fault
of_disk NoMemory = errors.NoMemory
