use Rattle.std.proofs.Common.{Err, Ok}
use Rattle.voy_disk.specs.CallLaws.{sync_follows}
use Rattle.voy_disk.specs.ChangeLaws.{change_weaker, others_after, others_on}
use Rattle.voy_disk.specs.StepLaws.{then_same}
use Rattle.voy_queue.proofs.OpeningLemmas.{cut_front, cut_settles}
use Rattle.voy_queue.proofs.settling.cut_safely.Goals as goal

pub returns-in_err-cut-clause-keeps : goal.returns-in_err-cut-clause-keeps
returns-in_err-cut-clause-keeps g c =
    cut_front {T = Unit {0}} (Err c.in_err-cut.field-0.0) c.args.name.now c.args.to _ _ (g.met.D.Disk.reads_an_image c.args.disk.now) c.in_err-cut.ensures.cut

pub returns-in_err-cut-clause-others : goal.returns-in_err-cut-clause-others
returns-in_err-cut-clause-others g c = others_after {T = Unit {0}} _ _ (Err c.in_err-cut.field-0.0) c.args.name.now _ _ c.in_err-cut.ensures.cut

pub returns-clause-safe : goal.returns-clause-safe
returns-clause-safe g c = cut_settles c.sync.result c.args.name.now c.args.to _ _ _ c.requires.there c.in_ok-cut.ensures.cut c.sync.ensures.synced

pub returns-clause-keeps : goal.returns-clause-keeps
returns-clause-keeps g c = λ front size has.
    then_same (cut_front (Ok c.in_ok-cut.field-0) c.args.name.now c.args.to _ _ (g.met.D.Disk.reads_an_image c.args.disk.now) c.in_ok-cut.ensures.cut front size has)
    (sync_follows c.sync.result c.args.name.now _ _ (g.met.D.Disk.reads_an_image c.cut.new.self) c.sync.ensures.synced)

pub returns-clause-others : goal.returns-clause-others
returns-clause-others g c =
    others_on (change_weaker c.in_ok-cut.ensures.cut (λ x y changes. changes.others)) (others_after _ _ c.sync.result c.args.name.now _ _ c.sync.ensures.synced)
