use Rattle.std.proofs.Common.{ap, inl, inr, refl}
use Rattle.voy_disk.specs.Calls.{Created, DoneOrNot}
use Rattle.voy_disk.specs.MemFiles.{files_of}
use Rattle.voy_disk.proofs.Leaving.{leaves, leaves_same}
use Rattle.voy_disk.proofs.memory.disk.MemDiskDisk.create.Goals as goal

pub returns-then-not-leaves_done-clause-created : goal.returns-then-not-leaves_done-clause-created
returns-then-not-leaves_done-clause-created c =
    rw (c.counted.ensures.answer, c.counted.ensures.files) (leaves_same (Created c.args.name.now) (DoneOrNot (Created c.args.name.now)) (files_of c.args.self.now.files) (files_of c.begin-begun.new.self.files) c.begin-begun.result c.if-is_err.ensures.negation c.begin-begun.ensures.failed (ap files_of c.begin-begun.ensures.files) (inl refl))

pub returns-clause-created : goal.returns-clause-created
returns-clause-created c =
    let same = c.begin-begun.ensures.files in
    rw (c.counted-2.ensures.answer, c.counted-2.ensures.files, c.answer.ensures) (leaves (Created c.args.name.now) (DoneOrNot (Created c.args.name.now)) (files_of c.args.self.now.files) (files_of c.create_in-done.new.files) _ c.begin-begun.result c.create_in-done.result c.begin-begun.ensures.failed
    (λ is done. done) (λ failed done. inr done) (rw same at c.create_in-done.ensures.ok) (rw same at c.create_in-done.ensures.err))
