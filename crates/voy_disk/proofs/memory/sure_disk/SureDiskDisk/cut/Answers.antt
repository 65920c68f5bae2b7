use Rattle.std.proofs.Common.{true≢false, Ok}
use Rattle.voy_disk.specs.Calls.{Changes, WasCut, CutFailed}
use Rattle.voy_disk.specs.MemFiles.{files_of}
use Rattle.voy_disk.proofs.Leaving.{leaves}
use Rattle.voy_disk.proofs.memory.sure_disk.SureDiskDisk.cut.Goals as goal

pub returns-clause-files : goal.returns-clause-files
returns-clause-files c =
    rw c.answer.ensures (leaves (Changes (WasCut c.args.to) c.args.name.now) (Changes (CutFailed c.args.to) c.args.name.now) (files_of c.args.self.now.files) (files_of c.cut_in-done.new.files) _ (Ok tt) c.cut_in-done.result tt (λ is done. done) (λ never. absurd (true≢false never)) c.cut_in-done.ensures.ok c.cut_in-done.ensures.err)
