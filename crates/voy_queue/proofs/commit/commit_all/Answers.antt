use Rattle.std.proofs.Common.{take, ◌≡◌, ◌∙◌, ◌+◌, arith, refl, sym, ap, subst, drop}
use Rattle.voy_disk.specs.FrameLaws.{files_beside_nothing}
use Rattle.voy_disk.specs.Frames.{OneOf}
use Rattle.voy_disk.specs.StepLaws.{follows_nothing, follows_weaker}
use Rattle.voy_disk.specs.Files.{IfTold}
use Rattle.voy_meta.specs.Meta.{meta_state}
use Rattle.voy_queue.specs.Putting.{AreBehind, AreShut, recorded_end}
use Rattle.voy_queue.specs.Shelf.{shelf_in}
use Rattle.voy_queue.specs.Writer.{AllStand, StandsIn, names_of}
use Rattle.voy_queue.proofs.CommitLoop.{all_at, done_at, ended_now, asked_on, behind_at, end_more, images_more, may_on, others_more, state_more, stopped_at}
use Rattle.voy_queue.proofs.StandLemmas.{all_stand}
use Rattle.voy_queue.proofs.RecordLemmas.{end_recorded, snapshot_stays}
use Rattle.voy_queue.proofs.commit.commit_all.Goals as goal

pub loop-one-init : goal.loop-one-init
loop-one-init g c = record {
  state = refl;
  end = refl;
  behind = c.requires.behind;
  snapshot = c.requires.snapshot;
  may = λ goes. c.requires.may;
  asked = c.requires.asked;
  stands = c.requires.stands;
  live = c.requires.live;
  file = c.requires.file;
  files = λ fs told. tt;
  images = follows_weaker (follows_nothing _) (λ i j same. ap shelf_in same);
  others = files_beside_nothing (OneOf (names_of c.args.pending.now)) _ _ refl;
  later = omega arith;
  lender = refl;
}

pub commit_one-requires-clause-asked : goal.commit_one-requires-clause-asked
commit_one-requires-clause-asked g c ended =
    c.loop-one.invariant.asked
    (ended_now c.args.pending.now c.loop-one.one-index c.one-item.result c.loop-one-test.true c.one-item.is (recorded_end (meta_state c.loop-one.meta) c.args.role)
    c.loop-one.invariant.behind ended)

pub returns-in_err-commit_one-clause-prefix : goal.returns-in_err-commit_one-clause-prefix
returns-in_err-commit_one-clause-prefix g c =
    stopped_at c.args.pending.now c.loop-one.one-index c.one-item.result c.loop-one-test.true c.one-item.is c.args.role
    c.loop-one.invariant.images c.in_err-commit_one.ensures.prefix

pub returns-in_err-commit_one-clause-others : goal.returns-in_err-commit_one-clause-others
returns-in_err-commit_one-clause-others g c =
    others_more c.args.pending.now c.loop-one.one-index c.one-item.result c.loop-one-test.true c.one-item.is
    c.loop-one.invariant.others c.in_err-commit_one.ensures.others

pub loop-one-preserved : goal.loop-one-preserved
loop-one-preserved g c =
    let all = c.args.pending.now in
    let i = c.loop-one.one-index in
    let one = c.one-item.result in
    let role = c.args.role in
    let within = c.loop-one-test.true in
    let is = c.one-item.is in
    let before = c.loop-one.invariant in
    let now = meta_state c.loop-one.meta in
    let old = meta_state c.args.meta.now in
    let new = meta_state c.commit_one.new.meta in
    let done = c.in_ok-commit_one.ensures in
    let behind = behind_at all i one within is (recorded_end now role) before.behind in
    let may = before.may behind.0.goes_on in
    let ends : recorded_end new role ≡ one.end = ap (λ state. recorded_end state role) done.state ∙ end_recorded now role one may behind.0 in
    record {
      state = state_more all i one within is role old now new before.state done.state;
      end = ends ∙ end_more all i one within is (recorded_end old role) (recorded_end now role) before.end;
      behind = subst (λ end. AreBehind end (drop (i + 1) all)) (sym ends) behind.1;
      snapshot = rw done.state (snapshot_stays now role one before.snapshot);
      may = may_on role now new one done.state ends may;
      asked = asked_on all i one within is role now new done.state ends before.asked;
      stands = done.stands;
      live = done.live;
      file = subst (λ end. IfTold (g.D.Disk.files c.commit_one.new.disk) (StandsIn end)) (sym ends) done.file;
      files = subst (λ done. IfTold (g.D.Disk.files c.commit_one.new.disk) (AllStand done)) (sym (done_at all i one within is))
          (all_stand (recorded_end old role) (take i all) one (drop (i + 1) all) _ _ (subst (λ pending. AreBehind (recorded_end old role) pending) (sym (all_at all i one within is)) c.requires.behind)
          (subst AreShut (sym (all_at all i one within is)) c.requires.shut) done.others before.files done.file);
      images = images_more all i one within is role before.images done.all;
      others = others_more all i one within is before.others done.others;
      later = omega (arith, before.later, done.cause.later);
      lender = done.lender ∙ before.lender;
    }
