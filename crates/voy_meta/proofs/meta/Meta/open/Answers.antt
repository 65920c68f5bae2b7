use Rattle.voy_disk.specs.ChangeLaws.{others_on}
use Rattle.voy_meta.proofs.ExactLemmas.{opens_same, opens_with_version}
use Rattle.voy_meta.proofs.StandingLemmas.{opens_more, version_may_follow, version_put}
use Rattle.voy_meta.proofs.meta.Meta.open.Goals as goal

pub add-requires-clause-allowed : goal.add-requires-clause-allowed
add-requires-clause-allowed g c =
    version_may_follow c.in_ok-meta.meta (g.D.Disk.files c.open_recorded.new.disk) c.in_ok-meta.ensures.stands c.if-meta-eq-VERSION.false

pub returns-in_err-add-clause-images : goal.returns-in_err-add-clause-images
returns-in_err-add-clause-images g c =
    opens_more c.in_ok-meta.meta (g.D.Disk.files c.args.disk.now) (g.D.Disk.files c.open_recorded.new.disk) (g.D.Disk.files c.add.new.disk)
    c.in_ok-meta.ensures.stands c.if-meta-eq-VERSION.false c.open_recorded.ensures.images c.add.ensures.prefix

pub returns-in_err-add-clause-others : goal.returns-in_err-add-clause-others
returns-in_err-add-clause-others g c = others_on c.open_recorded.ensures.others c.add.ensures.others

pub returns-clause-stands : goal.returns-clause-stands
returns-clause-stands g c = record { records = c.in_ok-add.ensures.stands; version = version_put _ _ c.in_ok-add.ensures.state }

pub returns-clause-images : goal.returns-clause-images
returns-clause-images g c =
    opens_more c.in_ok-meta.meta (g.D.Disk.files c.args.disk.now) (g.D.Disk.files c.open_recorded.new.disk) (g.D.Disk.files c.add.new.disk)
    c.in_ok-meta.ensures.stands c.if-meta-eq-VERSION.false c.open_recorded.ensures.images c.add.ensures.prefix

pub returns-clause-others : goal.returns-clause-others
returns-clause-others g c = others_on c.open_recorded.ensures.others c.add.ensures.others

pub returns-clause-exact : goal.returns-clause-exact
returns-clause-exact g c =
    opens_with_version c.in_ok-meta.meta _ c.in_ok-meta.ensures.has c.if-meta-eq-VERSION.false c.in_ok-meta.ensures.stands.name
    c.in_ok-meta.ensures.stands.journal c.in_ok-meta.ensures.exact c.in_ok-add.ensures.exact

pub returns-then-meta-eq-VERSION-clause-exact : goal.returns-then-meta-eq-VERSION-clause-exact
returns-then-meta-eq-VERSION-clause-exact g c =
    opens_same c.in_ok-meta.meta.state _ c.in_ok-meta.ensures.has c.if-meta-eq-VERSION.true c.in_ok-meta.ensures.exact
