use Rattle.std.proofs.Common.{◌≡◌, ◌∙◌, ap, subst, sym}
use Rattle.std.proofs.lemmas.Result.{err_from_is_err_and}
use Rattle.voy_disk.specs.CallLaws.{change_stays_told}
use Rattle.voy_disk.specs.Files.{IfTold}
use Rattle.voy_disk.specs.Fronts.{KeepsFront}
use Rattle.voy_disk.specs.Images.{ImagesOf}
use Rattle.voy_disk.specs.Steps.{Follows}
use Rattle.voy_meta.specs.Meta.{meta_state}
use Rattle.voy_queue.specs.Names.{segment_name}
use Rattle.voy_queue.specs.Opening.{IsShort}
use Rattle.voy_queue.specs.Writer.{EndIsSafe}
use Rattle.voy_queue.specs.declared.end.End.{End}
use Rattle.voy_queue.specs.Putting.{recorded_end}
use Rattle.voy_queue.specs.PuttingLaws.{IsOpenWithin}
use Rattle.voy_queue.proofs.OpeningLemmas.{end_kept, end_small, meta_consistent}
use Rattle.voy_queue.proofs.CommitLemmas.{meta_stays}
use Rattle.voy_queue.proofs.writer.Writer.open.Goals as goal

pub returns-in_err-settle_end-clause-images : goal.returns-in_err-settle_end-clause-images
returns-in_err-settle_end-clause-images g c = λ safe.
    let ends : c.recorded_end-end.result ≡ recorded_end (meta_state c.args.meta.now) c.args.role =
    c.recorded_end-end.ensures ∙ ap (λ state. recorded_end state c.args.role) c.state.ensures in
    let few = (meta_consistent c.args.meta.now (g.D.Disk.files c.args.disk.now) c.consistent.ensures.records c.requires.stands).numbered in
    end_kept c.args.meta.now c.args.role (g.D.Disk.files c.args.disk.now) _ c.requires.stands few
    (subst (λ (end : End). Follows (KeepsFront (segment_name end.number) end.bytes) (ImagesOf (g.D.Disk.files c.args.disk.now)) (ImagesOf (g.D.Disk.files c.settle_end.new.disk))) ends
    (c.in_err-settle_end.ensures.keeps (subst (λ (end : End). EndIsSafe end (ImagesOf (g.D.Disk.files c.args.disk.now))) (sym ends) safe)))

pub returns-in_err-settle_end-clause-stands : goal.returns-in_err-settle_end-clause-stands
returns-in_err-settle_end-clause-stands g c =
    meta_stays c.args.meta.now c.recorded_end-end.result.number _ _ c.in_err-settle_end.ensures.others c.requires.stands

pub returns-in_err-settle_end-clause-told : goal.returns-in_err-settle_end-clause-told
returns-in_err-settle_end-clause-told g c = change_stays_told c.in_err-settle_end.ensures.others (g.met.D.Disk.reads_an_image c.settle_end.new.disk)

pub returns-in_err-settle_end-clause-damaged : goal.returns-in_err-settle_end-clause-damaged
returns-in_err-settle_end-clause-damaged g c =
    let ends : c.recorded_end-end.result ≡ recorded_end (meta_state c.args.meta.now) c.args.role =
    c.recorded_end-end.ensures ∙ ap (λ state. recorded_end state c.args.role) c.state.ensures in
    let p = err_from_is_err_and c.from_residual.result c.from_residual.ensures.1 in
    rw (p.1, p.2)
    (λ segment offset is. subst (λ (end : End). IfTold (g.D.Disk.files c.args.disk.now) (IsShort end segment offset)) ends (c.in_err-settle_end.ensures.damaged segment offset is))

pub invariant_of-result-clause-room : goal.invariant_of-result-clause-room
invariant_of-result-clause-room g c =
    let ends : c.recorded_end-end.result ≡ recorded_end (meta_state c.args.meta.now) c.args.role =
    c.recorded_end-end.ensures ∙ ap (λ state. recorded_end state c.args.role) c.state.ensures in
    let consistent = meta_consistent c.args.meta.now (g.D.Disk.files c.args.disk.now) c.consistent.ensures.records c.requires.stands in
    subst (λ end. IsOpenWithin end) (sym ends) (end_small (meta_state c.args.meta.now) c.args.role consistent)

pub returns-clause-images : goal.returns-clause-images
returns-clause-images g c = λ safe.
    let ends : c.recorded_end-end.result ≡ recorded_end (meta_state c.args.meta.now) c.args.role =
    c.recorded_end-end.ensures ∙ ap (λ state. recorded_end state c.args.role) c.state.ensures in
    let few = (meta_consistent c.args.meta.now (g.D.Disk.files c.args.disk.now) c.consistent.ensures.records c.requires.stands).numbered in
    end_kept c.args.meta.now c.args.role (g.D.Disk.files c.args.disk.now) _ c.requires.stands few
    (subst (λ (end : End). Follows (KeepsFront (segment_name end.number) end.bytes) (ImagesOf (g.D.Disk.files c.args.disk.now)) (ImagesOf (g.D.Disk.files c.settle_end.new.disk))) ends
    (c.in_ok-settle_end.ensures.keeps (subst (λ (end : End). EndIsSafe end (ImagesOf (g.D.Disk.files c.args.disk.now))) (sym ends) safe)))

pub returns-clause-stands : goal.returns-clause-stands
returns-clause-stands g c =
    meta_stays c.args.meta.now c.recorded_end-end.result.number _ _ c.in_ok-settle_end.ensures.others c.requires.stands

pub returns-clause-told : goal.returns-clause-told
returns-clause-told g c = change_stays_told c.in_ok-settle_end.ensures.others (g.met.D.Disk.reads_an_image c.settle_end.new.disk)
