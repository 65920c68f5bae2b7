use Rattle.std.proofs.Common.{◌≡◌, ◌∙◌, List, ℕ, refl, subst, sym, length}
use Rattle.voy_journal.specs.Blocks.{IsBlock}
use Rattle.voy_journal.proofs.Adding.{adds_one, knows_one_more, leaves_prefix, stands_again}
use Rattle.voy_disk.specs.CallLaws.{change_stays_told}
use Rattle.voy_disk.specs.Frames.{KeepsOtherFiles}
use Rattle.voy_disk.specs.ChangeLaws.{no_change}
use Rattle.voy_journal.proofs.ExactBytes.{appends_entry}
use Rattle.voy_journal.proofs.state.Journal.append.Goals as goal

pub returns-then-payload-clause-others : goal.returns-then-payload-clause-others
returns-then-payload-clause-others g c = no_change (KeepsOtherFiles c.args.self.now.name) (λ x other differs. refl) _ _ refl

pub returns-in_err-block-clause-others : goal.returns-in_err-block-clause-others
returns-in_err-block-clause-others g c = no_change (KeepsOtherFiles c.args.self.now.name) (λ x other differs. refl) _ _ refl

pub returns-in_err-put_behind-clause-prefix : goal.returns-in_err-put_behind-clause-prefix
returns-in_err-put_behind-clause-prefix g c =
    leaves_prefix c.args.self.now.name c.args.self.now.gate c.args.payload.now c.deref.result.now _ _ c.requires.stands
    (subst (λ (block : List ℕ). IsBlock c.args.payload.now block) (sym c.deref.ensures.value) c.in_ok-block.ensures)
    c.in_err-put_behind.ensures.either c.in_err-put_behind.ensures.same_but

pub returns-in_err-put_behind-clause-told : goal.returns-in_err-put_behind-clause-told
returns-in_err-put_behind-clause-told g c = change_stays_told c.in_err-put_behind.ensures.others (g.met.D.Disk.reads_an_image c.put_behind.new.disk)

pub returns-clause-all : goal.returns-clause-all
returns-clause-all g c =
    adds_one c.args.self.now.name c.args.self.now.gate c.args.payload.now c.deref.result.now _ _ c.requires.stands
    (subst (λ (block : List ℕ). IsBlock c.args.payload.now block) (sym c.deref.ensures.value) c.in_ok-block.ensures)
    c.in_ok-put_behind.ensures.appends c.in_ok-put_behind.ensures.same_but

pub returns-clause-adds : goal.returns-clause-adds
returns-clause-adds g c =
    let size : c.len.result ≡ length c.deref.result.now = c.len.ensures ∙ sym c.deref.ensures.len in
    rw size (knows_one_more c.args.self.now.name c.args.self.now.gate c.args.payload.now c.deref.result.now _ _ c.requires.stands
    (subst (λ (block : List ℕ). IsBlock c.args.payload.now block) (sym c.deref.ensures.value) c.in_ok-block.ensures)
    c.in_ok-put_behind.ensures.appends c.in_ok-put_behind.ensures.others)

pub returns-clause-prefix : goal.returns-clause-prefix
returns-clause-prefix g c =
    leaves_prefix c.args.self.now.name c.args.self.now.gate c.args.payload.now c.deref.result.now _ _ c.requires.stands
    (subst (λ (block : List ℕ). IsBlock c.args.payload.now block) (sym c.deref.ensures.value) c.in_ok-block.ensures)
    c.in_ok-put_behind.ensures.either c.in_ok-put_behind.ensures.same_but

pub returns-clause-stands : goal.returns-clause-stands
returns-clause-stands g c = λ live.
    let size : c.len.result ≡ length c.deref.result.now = c.len.ensures ∙ sym c.deref.ensures.len in
    rw size (stands_again c.args.self.now.name c.args.self.now.gate c.args.payload.now c.deref.result.now (g.D.Disk.files c.args.disk.now) _ c.requires.stands
    (subst (λ (block : List ℕ). IsBlock c.args.payload.now block) (sym c.deref.ensures.value) c.in_ok-block.ensures)
    c.in_ok-put_behind.ensures.appends c.in_ok-put_behind.ensures.others)

pub returns-clause-told : goal.returns-clause-told
returns-clause-told g c = change_stays_told c.in_ok-put_behind.ensures.others (g.met.D.Disk.reads_an_image c.put_behind.new.disk)

pub returns-clause-exact : goal.returns-clause-exact
returns-clause-exact g c =
    appends_entry c.args.self.now.name c.args.self.now.gate c.args.payload.now c.deref.result.now (g.D.Disk.files c.args.disk.now) _ c.requires.stands
    (subst (λ (block : List ℕ). IsBlock c.args.payload.now block) (sym c.deref.ensures.value) c.in_ok-block.ensures) c.in_ok-put_behind.ensures.exact
