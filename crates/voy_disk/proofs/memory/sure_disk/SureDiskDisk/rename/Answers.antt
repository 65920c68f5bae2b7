use Rattle.std.proofs.Common.{true≢false, Ok}
use Rattle.voy_disk.specs.Calls.{Renamed, DoneOrNot}
use Rattle.voy_disk.specs.MemFiles.{files_of}
use Rattle.voy_disk.proofs.Leaving.{leaves}
use Rattle.voy_disk.proofs.memory.sure_disk.SureDiskDisk.rename.Goals as goal

pub returns-clause-files : goal.returns-clause-files
returns-clause-files c =
    rw c.answer.ensures (leaves (Renamed c.args.from.now c.args.to.now) (DoneOrNot (Renamed c.args.from.now c.args.to.now)) (files_of c.args.self.now.files) (files_of c.rename_in-done.new.files) _ (Ok tt) c.rename_in-done.result tt (λ is done. done) (λ never. absurd (true≢false never)) c.rename_in-done.ensures.ok c.rename_in-done.ensures.err)
