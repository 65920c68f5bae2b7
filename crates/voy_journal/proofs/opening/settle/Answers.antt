use Rattle.voy_disk.specs.ImageLaws.{same_files}
use Rattle.voy_disk.specs.StepLaws.{then_same}
use Rattle.voy_journal.proofs.Settling.{length_read}
use Rattle.voy_journal.proofs.opening.settle.Goals as goal

pub returns-in_err-end-clause-images : goal.returns-in_err-end-clause-images
returns-in_err-end-clause-images g c = then_same c.make_safe.ensures.images (same_files c.in_err-end.ensures.same)

pub returns-clause-images : goal.returns-clause-images
returns-clause-images g c = then_same c.make_safe.ensures.images (same_files c.in_ok-end.ensures.same)

pub returns-clause-length : goal.returns-clause-length
returns-clause-length g c =
    length_read c.args.name.now (g.D.Disk.files c.args.disk.now) _ c.in_ok-end.end c.unwrap_or.result c.make_safe.ensures.reads c.in_ok-end.ensures.length
    c.unwrap_or.ensures
