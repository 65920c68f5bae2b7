use Rattle.std.proofs.Common.{Err, Ok}
use Rattle.voy_journal.proofs.Settling.{created_keeps}
use Rattle.voy_disk.specs.CallLaws.{sync_follows}
use Rattle.voy_disk.specs.ChangeLaws.{change_weaker, others_after, others_after_create, others_on}
use Rattle.voy_disk.specs.StepLaws.{then_same}
use Rattle.voy_disk.specs.SafeFileLaws.{create_keeps_bytes, keeps_bytes_on, settles, sync_keeps_bytes}
use Rattle.voy_journal.proofs.opening.make_safe.Goals as goal

pub returns-in_err-create-clause-images : goal.returns-in_err-create-clause-images
returns-in_err-create-clause-images g c = created_keeps {T = Unit {0}} (Err c.in_err-create.field-0.0) c.args.name.now _ _ c.in_err-create.ensures.created

pub returns-in_err-create-clause-others : goal.returns-in_err-create-clause-others
returns-in_err-create-clause-others g c = others_after_create {T = Unit {0}} (Err c.in_err-create.field-0.0) c.args.name.now _ _ c.in_err-create.ensures.created

pub returns-clause-settles : goal.returns-clause-settles
returns-clause-settles g c = settles c.sync.result c.args.name.now _ _ _ c.in_ok-create.ensures.created c.sync.ensures.synced

pub returns-clause-images : goal.returns-clause-images
returns-clause-images g c =
    then_same (created_keeps {T = Unit {0}} (Ok tt) c.args.name.now _ _ c.in_ok-create.ensures.created)
    (sync_follows c.sync.result c.args.name.now _ _ (g.met.D.Disk.reads_an_image c.create.new.self) c.sync.ensures.synced)

pub returns-clause-others : goal.returns-clause-others
returns-clause-others g c =
    others_on (change_weaker c.in_ok-create.ensures.created (λ x y made. made.others))
    (others_after _ _ c.sync.result c.args.name.now _ _ c.sync.ensures.synced)

pub returns-in_err-create-clause-reads : goal.returns-in_err-create-clause-reads
returns-in_err-create-clause-reads g c = create_keeps_bytes {T = Unit {0}} (Err c.in_err-create.field-0.0) c.args.name.now _ _ c.in_err-create.ensures.created

pub returns-clause-reads : goal.returns-clause-reads
returns-clause-reads g c =
    keeps_bytes_on (create_keeps_bytes {T = Unit {0}} (Ok tt) c.args.name.now _ _ c.in_ok-create.ensures.created)
    (sync_keeps_bytes c.sync.result c.args.name.now _ _ c.sync.ensures.synced)
