use Rattle.std.proofs.Common.{true≢false, length, Ok}
use Rattle.voy_disk.specs.Calls.{Changes, Wrote, Smeared}
use Rattle.voy_disk.specs.MemFiles.{files_of}
use Rattle.voy_disk.proofs.Leaving.{leaves}
use Rattle.voy_disk.proofs.memory.sure_disk.SureDiskDisk.write_at.Goals as goal

pub returns-clause-files : goal.returns-clause-files
returns-clause-files c =
    rw c.answer.ensures (leaves (Changes (Wrote c.args.at c.args.bytes.now) c.args.name.now) (Changes (Smeared c.args.at (length c.args.bytes.now)) c.args.name.now) (files_of c.args.self.now.files) (files_of c.write_in-done.new.files) _ (Ok tt) c.write_in-done.result tt (λ is done. done) (λ never. absurd (true≢false never)) c.write_in-done.ensures.ok c.write_in-done.ensures.err)
