-- What an error of a feed says of one below it.
use Rattle.voy_disk.specs.declared.disk.DiskError.{DiskError}
use Rattle.voy_disk.specs.declared.disk.DiskError.TheVariants as disk
use Rattle.voy_feed.specs.declared.error.FeedError.{FeedError}
use Rattle.voy_feed.specs.declared.error.FeedError.TheVariants.{Fault, NoMemory}

abbrev pub of_disk : DiskError → FeedError
of_disk disk.Failed = Fault
of_disk disk.NoMemory = NoMemory
