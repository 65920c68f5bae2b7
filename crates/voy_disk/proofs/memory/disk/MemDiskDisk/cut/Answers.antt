use Rattle.std.proofs.Common.{◌≡◌, Some, sym}
use Rattle.voy_disk.specs.Calls.{Changes, CutFailed, WasCut}
use Rattle.voy_disk.specs.Files.{length_of}
use Rattle.voy_disk.specs.MemFiles.{files_of}
use Rattle.voy_disk.proofs.Leaving.{cut_all, cut_part, leaves}
use Rattle.voy_disk.proofs.memory.disk.MemDiskDisk.cut.Goals as goal

pub returns-clause-cut : goal.returns-clause-cut
returns-clause-cut c =
    let same = c.begin-begun.ensures.files in
    let old = files_of c.args.self.now.files in
    let new = files_of c.cut_in-done.new.files in
    let is : length_of (old c.args.name.now) ≡ Some c.unwrap-length.result = sym (rw (same, c.unwrap-length.ensures) at c.length_in.ensures.length) in
    rw (c.counted.ensures.answer, c.counted.ensures.files, c.answer.ensures) (leaves (Changes (WasCut c.args.to) c.args.name.now) (Changes (CutFailed c.args.to) c.args.name.now) old new _ c.begin-begun.result c.cut_in-done.result c.begin-begun.ensures.failed
    (λ worked done. cut_all c.args.name.now old new c.args.to c.part-gone.result c.unwrap-length.result is c.requires.there (c.part-gone.ensures.all worked) done)
    (λ failed done. cut_part c.args.name.now old new c.args.to c.part-gone.result c.unwrap-length.result is c.requires.there c.part-gone.ensures.within done)
    (rw same at c.cut_in-done.ensures.ok) (rw same at c.cut_in-done.ensures.err))
