use Rattle.std.proofs.Common.{true≢false, Ok}
use Rattle.voy_disk.specs.Calls.{Created, DoneOrNot}
use Rattle.voy_disk.specs.MemFiles.{files_of}
use Rattle.voy_disk.proofs.Leaving.{leaves}
use Rattle.voy_disk.proofs.memory.sure_disk.SureDiskDisk.create.Goals as goal

pub returns-clause-files : goal.returns-clause-files
returns-clause-files c =
    rw c.answer.ensures (leaves (Created c.args.name.now) (DoneOrNot (Created c.args.name.now)) (files_of c.args.self.now.files) (files_of c.create_in-done.new.files) _ (Ok tt) c.create_in-done.result tt (λ is done. done) (λ never. absurd (true≢false never)) c.create_in-done.ensures.ok c.create_in-done.ensures.err)
