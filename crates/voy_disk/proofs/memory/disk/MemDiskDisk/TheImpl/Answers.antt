use Rattle.std.proofs.Common.{refl}
use Rattle.voy_disk.proofs.memory.disk.MemDiskDisk.TheImpl.Goals as goal

pub write_at-asks : goal.write_at-asks
write_at-asks c = record { there = c.requires.there _ refl }

pub cut-asks : goal.cut-asks
cut-asks c = record { there = c.requires.there _ refl }

pub sync-asks : goal.sync-asks
sync-asks c = record { there = c.requires.there _ refl }

pub rename-asks : goal.rename-asks
rename-asks c = record { there = c.requires.there _ refl; free = c.requires.free _ refl }
