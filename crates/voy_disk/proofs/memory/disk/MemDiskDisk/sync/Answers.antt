use Rattle.std.proofs.Common.{ap, refl}
use Rattle.voy_disk.specs.Calls.{Changes, Synced, SyncFailed}
use Rattle.voy_disk.specs.MemFiles.{files_of, map_reads_images}
use Rattle.voy_disk.proofs.Leaving.{leaves, leaves_same, synced_as_failed, unchanged}
use Rattle.voy_disk.proofs.memory.disk.MemDiskDisk.sync.Goals as goal

pub returns-then-not-leaves_done-clause-synced : goal.returns-then-not-leaves_done-clause-synced
returns-then-not-leaves_done-clause-synced c =
    rw (c.counted.ensures.answer, c.counted.ensures.files) (leaves_same (Changes Synced c.args.name.now) (Changes SyncFailed c.args.name.now) (files_of c.args.self.now.files) (files_of c.begin-begun.new.self.files) c.begin-begun.result c.if-is_err.ensures.negation c.begin-begun.ensures.failed (ap files_of c.begin-begun.ensures.files) (unchanged SyncFailed (λ file. Unit {0}) c.args.name.now (files_of c.args.self.now.files) c.requires.there (λ file. record { now = refl; images = λ image is. is })))

pub returns-clause-synced : goal.returns-clause-synced
returns-clause-synced c =
    let same = c.begin-begun.ensures.files in
    rw (c.counted-2.ensures.answer, c.counted-2.ensures.files, c.answer.ensures) (leaves (Changes Synced c.args.name.now) (Changes SyncFailed c.args.name.now) (files_of c.args.self.now.files) (files_of c.sync_in-done.new.files) _ c.begin-begun.result c.sync_in-done.result c.begin-begun.ensures.failed
    (λ is done. done) (λ failed done. synced_as_failed c.args.name.now (files_of c.args.self.now.files) (files_of c.sync_in-done.new.files) (map_reads_images c.args.self.now.files) done) (rw same at c.sync_in-done.ensures.ok) (rw same at c.sync_in-done.ensures.err))
