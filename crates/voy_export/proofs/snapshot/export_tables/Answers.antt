use Rattle.std.proofs.Common.{◌≡◌, Err, length, refl, ◌∙◌, arith, ◌∷◌}
use Rattle.voy_disk.specs.FrameLaws.{files_beside_again}
use Rattle.voy_disk.specs.Frames.{OneOf}
use Rattle.voy_disk.specs.Images.{now_image}
use Rattle.voy_disk.specs.StepLaws.{stays_told_on, told_nothing}
use Rattle.voy_export.specs.Calls.{snapshot_files}
use Rattle.voy_export.proofs.SnapshotAdds.{no_snapshots, snapshots_on}
use Rattle.voy_export.proofs.SnapshotTurns.{at_end_on}
use Rattle.voy_export.proofs.SnapshotLoop.{finishes}
use Rattle.voy_export.proofs.SnapshotWrites.{none_beside}
use Rattle.voy_meta.specs.Meta.{meta_name, meta_state}
use Rattle.voy_export.proofs.snapshot.export_tables.Goals as goal

pub loop-number-init : goal.loop-number-init
loop-number-init g c = record {
  few = omega arith;
  recorded = omega arith;
  most = c.requires.most;
  leads = λ fs is answer last end behind. behind;
  adds = no_snapshots (meta_state c.args.meta.now);
  tables = c.requires.tables;
  live = c.requires.live;
  stands = c.requires.stands;
  others = none_beside c.args.schema.now.tables _;
  told = told_nothing _;
  same = refl;
  lender_recording = refl;
  lender_export = refl;
  later_recording = omega arith;
  later_export = omega arith;
}

pub returns-in-Err-clause-comes : goal.returns-in-Err-clause-comes
returns-in-Err-clause-comes g c = λ fs is.
    let before = c.loop-number.invariant in
    before.leads fs is (Err c.in-Err.error) (meta_state c.take_table.new.meta) (g.D.Disk.files c.take_table.new.export) (c.in-Err.ensures.turns fs (before.same ∙ is))

pub returns-in-Err-clause-others : goal.returns-in-Err-clause-others
returns-in-Err-clause-others g c =
    files_beside_again (OneOf (meta_name ∷ snapshot_files c.args.schema.now.tables)) c.loop-number.invariant.others c.in-Err.ensures.others

pub loop-number-preserved : goal.loop-number-preserved
loop-number-preserved g c =
    let before = c.loop-number.invariant in
    let done = c.in-Ok.ensures in
    record {
      few = done.few;
      recorded = done.recorded;
      most = done.whole before.most;
      leads = λ fs is answer last end behind. before.leads fs is answer last end (done.turns fs (before.same ∙ is) answer last end behind);
      adds = snapshots_on (meta_state c.args.meta.now) (meta_state c.loop-number.meta) (meta_state c.take_table.new.meta) before.adds done.adds;
      tables = done.tables;
      live = done.live;
      stands = done.stands;
      others = files_beside_again (OneOf (meta_name ∷ snapshot_files c.args.schema.now.tables)) before.others done.others;
      told = stays_told_on before.told done.told;
      same = done.same ∙ before.same;
      lender_recording = done.lender_recording ∙ before.lender_recording;
      lender_export = done.lender_export ∙ before.lender_export;
      later_recording = omega (arith, before.later_recording, done.cause_recording.later);
      later_export = omega (arith, before.later_export, done.cause_export.later);
    }

pub returns-clause-comes : goal.returns-clause-comes
returns-clause-comes g c = λ fs is.
    let before = c.loop-number.invariant in
    let schema = c.args.schema.now.tables in
    let all : c.loop-number.number ≡ length schema = omega (arith, c.loop-number-test.false, c.len-number-end.ensures, before.recorded, before.most) in
    finishes schema (now_image fs) c.loop-number.number c.loop-number.sum (meta_state c.args.meta.now) (meta_state c.loop-number.meta)
    (g.D.Disk.files c.args.export.now) (g.D.Disk.files c.loop-number.export) all (before.leads fs is)

pub returns-in-Err-clause-adds : goal.returns-in-Err-clause-adds
returns-in-Err-clause-adds g c =
    at_end_on (Err c.in-Err.error) (λ more. snapshots_on (meta_state c.args.meta.now) (meta_state c.loop-number.meta) (meta_state c.take_table.new.meta) c.loop-number.invariant.adds more)
    c.in-Err.ensures.adds
