-- What an error of the queue says of one below it.
use Rattle.voy_disk.specs.declared.disk.DiskError.{DiskError}
use Rattle.voy_disk.specs.declared.disk.DiskError.TheVariants as disk
use Rattle.voy_queue.specs.declared.error.QueueError.{QueueError}
use Rattle.voy_queue.specs.declared.error.QueueError.TheVariants.{Fault, NoMemory}

abbrev pub of_disk : DiskError → QueueError
of_disk disk.Failed = Fault
of_disk disk.NoMemory = NoMemory
