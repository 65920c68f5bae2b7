use Rattle.std.proofs.Common.{◌≡◌, ◌∙◌, ap, refl, subst, sym}
use Rattle.voy_disk.specs.CallLaws.{change_stays_told}
use Rattle.voy_disk.specs.FrameLaws.{files_beside_nothing}
use Rattle.voy_disk.specs.Frames.{OneOf}
use Rattle.voy_queue.specs.Putting.{end_of}
use Rattle.voy_queue.specs.PuttingLaws.{IsOpenWithin}
use Rattle.voy_queue.specs.Writer.{names_of}
use Rattle.voy_meta.specs.Meta.{meta_state}
use Rattle.voy_queue.proofs.AllowedLemmas.{commit_allowed}
use Rattle.voy_queue.proofs.CommitLoop.{ends_small}
use Rattle.voy_queue.proofs.writer.Writer.commit.Goals as goal

pub returns-then-is_empty-clause-others : goal.returns-then-is_empty-clause-others
returns-then-is_empty-clause-others g c = files_beside_nothing (OneOf (names_of c.args.self.now.pending)) _ _ refl

pub returns-in_err-commit_all-clause-told : goal.returns-in_err-commit_all-clause-told
returns-in_err-commit_all-clause-told g c = change_stays_told c.in_err-commit_all.ensures.others (g.met.D.Disk.reads_an_image c.commit_all.new.disk)

pub invariant_of-self-2-clause-room : goal.invariant_of-self-2-clause-room
invariant_of-self-2-clause-room g c =
    let old = c.args.self.now in
    let ends : c.end_of-end.result ≡ end_of old.end old.pending = c.end_of-end.ensures ∙ ap (end_of old.end) (c.as_slice.ensures ∙ c.replace-pending.ensures.value) in
    subst (λ end. IsOpenWithin end) (sym ends) (ends_small old.end old.pending old.room old.behind)

pub returns-clause-told : goal.returns-clause-told
returns-clause-told g c = change_stays_told c.in_ok-commit_all.ensures.others (g.met.D.Disk.reads_an_image c.commit_all.new.disk)

pub returns-then-is_empty-clause-allowed : goal.returns-then-is_empty-clause-allowed
returns-then-is_empty-clause-allowed g c =
    let old = c.args.self.now in
    commit_allowed (meta_state c.args.meta.now) old.role old.end old.pending c.requires.stands.version c.requires.recorded old.behind c.requires.snapshot c.requires.may c.requires.asked

pub returns-in_err-commit_all-clause-allowed : goal.returns-in_err-commit_all-clause-allowed
returns-in_err-commit_all-clause-allowed g c =
    let old = c.args.self.now in
    commit_allowed (meta_state c.args.meta.now) old.role old.end old.pending c.requires.stands.version c.requires.recorded old.behind c.requires.snapshot c.requires.may c.requires.asked

pub returns-clause-allowed : goal.returns-clause-allowed
returns-clause-allowed g c =
    let old = c.args.self.now in
    commit_allowed (meta_state c.args.meta.now) old.role old.end old.pending c.requires.stands.version c.requires.recorded old.behind c.requires.snapshot c.requires.may c.requires.asked
