use Rattle.std.proofs.Common.{length}
use Rattle.voy_disk.specs.Calls.{Changes, Smeared, Wrote}
use Rattle.voy_disk.specs.MemFiles.{files_of}
use Rattle.voy_disk.proofs.Leaving.{leaves, wrote_all, wrote_part}
use Rattle.voy_disk.proofs.memory.disk.MemDiskDisk.write_at.Goals as goal

pub returns-clause-written : goal.returns-clause-written
returns-clause-written c =
    let same = c.begin-begun.ensures.files in
    let old = files_of c.args.self.now.files in
    let new = files_of c.write_in-done.new.files in
    rw (c.counted.ensures.answer, c.counted.ensures.files, c.answer.ensures) (leaves (Changes (Wrote c.args.at c.args.bytes.now) c.args.name.now) (Changes (Smeared c.args.at (length c.args.bytes.now)) c.args.name.now) old new _ c.begin-begun.result c.write_in-done.result c.begin-begun.ensures.failed
    (λ is done. wrote_all c.args.name.now old new c.args.at c.part-part.result c.args.bytes.now (c.part-part.ensures.all is) done)
    (λ failed done. wrote_part c.args.name.now old new c.args.at c.part-part.result c.args.bytes.now c.requires.there done)
    (rw same at c.write_in-done.ensures.ok) (rw same at c.write_in-done.ensures.err))
