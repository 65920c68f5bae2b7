use Rattle.std.proofs.Common.{refl}
use Rattle.voy_disk.specs.ChangeLaws.{no_change}
use Rattle.voy_journal.specs.Exact.{ReadsAsBefore}
use Rattle.voy_meta.specs.Meta.{meta_name}
use Rattle.voy_meta.proofs.opening.open_journal.Goals as goal

pub returns-in_err-name-clause-bytes : goal.returns-in_err-name-clause-bytes
returns-in_err-name-clause-bytes g c = no_change (ReadsAsBefore meta_name) (λ x more. refl) (g.D.Disk.files c.args.disk.now) (g.D.Disk.files c.args.disk.now) refl
