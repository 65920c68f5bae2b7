use Rattle.std.proofs.Common.{Err}
use Rattle.voy_disk.specs.ChangeLaws.{change_weaker, others_after, others_after_create, others_on, others_still}
use Rattle.voy_append.proofs.AppendingLemmas.{cut_reads, no_front_kept, safe_reads}
use Rattle.voy_append.proofs.appending.begin_file.Goals as goal

pub returns-then-start-ne0-clause-ready : goal.returns-then-start-ne0-clause-ready
returns-then-start-ne0-clause-ready g c = safe_reads c.args.name.now c.args.start (g.D.Disk.files c.args.disk.now) c.if-start-ne0.true c.requires.stands

pub returns-then-start-ne0-clause-others : goal.returns-then-start-ne0-clause-others
returns-then-start-ne0-clause-others g c = others_still c.args.name.now _

pub returns-in_err-create-clause-others : goal.returns-in_err-create-clause-others
returns-in_err-create-clause-others g c = others_after_create {T = Unit {0}} (Err c.in_err-create.field-0.0) c.args.name.now _ _ c.in_err-create.ensures.created

pub returns-in_err-create-clause-keeps : goal.returns-in_err-create-clause-keeps
returns-in_err-create-clause-keeps g c =
    no_front_kept c.args.name.now c.args.start _ _ c.if-start-ne0.false (g.met.D.Disk.reads_an_image c.args.disk.now)
    (others_after_create {T = Unit {0}} (Err c.in_err-create.field-0.0) c.args.name.now _ _ c.in_err-create.ensures.created)

pub returns-clause-ready : goal.returns-clause-ready
returns-clause-ready g c = cut_reads c.cut.result c.args.name.now c.args.start _ _ c.if-start-ne0.false c.cut.ensures.cut

pub returns-clause-others : goal.returns-clause-others
returns-clause-others g c =
    others_on (change_weaker c.in_ok-create.ensures.created (λ x y created. created.others)) (others_after _ _ c.cut.result c.args.name.now _ _ c.cut.ensures.cut)

pub returns-clause-keeps : goal.returns-clause-keeps
returns-clause-keeps g c =
    no_front_kept c.args.name.now c.args.start _ _ c.if-start-ne0.false (g.met.D.Disk.reads_an_image c.args.disk.now)
    (others_on (change_weaker c.in_ok-create.ensures.created (λ x y created. created.others)) (others_after _ _ c.cut.result c.args.name.now _ _ c.cut.ensures.cut))
