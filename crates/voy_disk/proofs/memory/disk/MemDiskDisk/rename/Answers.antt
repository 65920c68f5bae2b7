use Rattle.std.proofs.Common.{ap, inl, inr, refl}
use Rattle.voy_disk.specs.Calls.{Renamed, DoneOrNot}
use Rattle.voy_disk.specs.MemFiles.{files_of}
use Rattle.voy_disk.proofs.Leaving.{leaves, leaves_same}
use Rattle.voy_disk.proofs.memory.disk.MemDiskDisk.rename.Goals as goal

pub returns-then-not-leaves_done-clause-renamed : goal.returns-then-not-leaves_done-clause-renamed
returns-then-not-leaves_done-clause-renamed c =
    rw (c.counted.ensures.answer, c.counted.ensures.files) (leaves_same (Renamed c.args.from.now c.args.to.now) (DoneOrNot (Renamed c.args.from.now c.args.to.now)) (files_of c.args.self.now.files) (files_of c.begin-begun.new.self.files) c.begin-begun.result c.if-is_err.ensures.negation c.begin-begun.ensures.failed (ap files_of c.begin-begun.ensures.files) (inl refl))

pub returns-clause-renamed : goal.returns-clause-renamed
returns-clause-renamed c =
    let same = c.begin-begun.ensures.files in
    rw (c.counted-2.ensures.answer, c.counted-2.ensures.files, c.answer.ensures) (leaves (Renamed c.args.from.now c.args.to.now) (DoneOrNot (Renamed c.args.from.now c.args.to.now)) (files_of c.args.self.now.files) (files_of c.rename_in-done.new.files) _ c.begin-begun.result c.rename_in-done.result c.begin-begun.ensures.failed
    (λ is done. done) (λ failed done. inr done) (rw same at c.rename_in-done.ensures.ok) (rw same at c.rename_in-done.ensures.err))
