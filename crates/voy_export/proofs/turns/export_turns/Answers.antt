use Rattle.std.proofs.Common.{arith, true, is_some, refl, sym, ap, subst, ◌∙◌, ◌≡◌, Some}
use Rattle.voy_disk.specs.FrameLaws.{files_beside_again, files_beside_nothing}
use Rattle.voy_disk.specs.Files.{Files}
use Rattle.voy_disk.specs.Images.{ImagesOf}
use Rattle.voy_export.proofs.TurnLemmas.{adds_nothing, adds_on, at_end, moves_on, put_nothing, room_at, stop_all, stop_end, stop_is, stop_may, stop_some, tells, turned_next, turned_nothing, turned_on, turned_some}
use Rattle.voy_export.specs.Calls.{IsQueueFile}
use Rattle.voy_export.specs.Turns.{Turned, at_stop, end_left, kept_left, rest_of}
use Rattle.voy_export.specs.Ends.{finished}
use Rattle.voy_export.specs.Errors.{stop_told}
use Rattle.voy_export.specs.declared.plan.Step.{Step}
use Rattle.voy_meta.specs.Meta.{meta_state}
use Rattle.voy_disk.specs.ReachLaws.{goes_nothing}
use Rattle.voy_export.specs.Exports.{exports_in}
use Rattle.voy_export.specs.Steps.{MayExport, export_step}
use Rattle.voy_meta.specs.Allowed.{writes}
use Rattle.voy_meta.specs.Sides.{leads_to, request_of}
use Rattle.voy_queue.specs.Putting.{end_of}
use Rattle.voy_queue.specs.declared.end.End.{End}
use Rattle.voy_tables.specs.declared.change.Role.{Role}
use Rattle.voy_queue.specs.Writer.{closing_size, committed_end, writer_role}
use Rattle.voy_export.proofs.turns.export_turns.Goals as goal

pub returns-in_err-step-clause-others : goal.returns-in_err-step-clause-others
returns-in_err-step-clause-others g c = files_beside_again IsQueueFile c.turns.invariant.others c.take_turn.ensures.others

pub returns-in-Finished-clause-others : goal.returns-in-Finished-clause-others
returns-in-Finished-clause-others g c = files_beside_again IsQueueFile c.turns.invariant.others c.take_turn.ensures.others

pub returns-in-Stopped-clause-others : goal.returns-in-Stopped-clause-others
returns-in-Stopped-clause-others g c = files_beside_again IsQueueFile c.turns.invariant.others c.take_turn.ensures.others

pub returns-in-Finished-clause-adds : goal.returns-in-Finished-clause-adds
returns-in-Finished-clause-adds g c = adds_on (meta_state c.args.meta.now) (meta_state c.turns.meta) (meta_state c.take_turn.new.meta) c.turns.invariant.adds c.in_ok-step.ensures.adds

pub returns-in-Stopped-clause-adds : goal.returns-in-Stopped-clause-adds
returns-in-Stopped-clause-adds g c = at_end _ c.in-Stopped.refusal c.from.result c.from.ensures
    (adds_on (meta_state c.args.meta.now) (meta_state c.turns.meta) (meta_state c.take_turn.new.meta) c.turns.invariant.adds c.in_ok-step.ensures.adds)

pub returns-in_err-step-clause-prefix : goal.returns-in_err-step-clause-prefix
returns-in_err-step-clause-prefix g c = λ fs told.
    turned_some c.turns.invariant.laws c.args.schema.now.tables (writer_role c.args.writer.now) (closing_size c.args.writer.now) (committed_end c.args.writer.now) (committed_end c.turns.writer)
    _ _ c.turns.invariant.room (writer_role c.turns.writer) (closing_size c.turns.writer) c.turns.invariant.role c.turns.invariant.size (c.turns.invariant.turned fs told)
    (c.take_turn.ensures.some fs (c.turns.invariant.same ∙ told))

pub returns-in_err-step-clause-moves : goal.returns-in_err-step-clause-moves
returns-in_err-step-clause-moves g c = λ fs told stated is next sound.
    let turned = c.turns.invariant.turned fs told in
    moves_on c.turns.invariant.keeps stated sound (c.turns.invariant.moves fs told stated is next sound)
    (c.take_turn.ensures.moves fs (c.turns.invariant.same ∙ told) stated is
    (turned_next c.turns.invariant.laws.ends c.args.schema.now.tables (writer_role c.args.writer.now) (closing_size c.args.writer.now) (meta_state c.args.meta.now) (meta_state c.turns.meta)
    (committed_end c.args.writer.now) (committed_end c.turns.writer) _ _ stated c.requires.recorded (writer_role c.turns.writer) c.turns.invariant.recorded turned next))

whole_finished : (g : _) (c : goal.In-Finished g) (fs : Files) → g.D.Disk.files c.args.recording.now ≡ Some fs
    → Turned c.args.schema.now.tables (writer_role c.args.writer.now) (closing_size c.args.writer.now) (committed_end c.args.writer.now) (end_left c.args.schema.now.tables c.args.writer.now c.args.todo (kept_left c.args.schema.now.tables c.args.feed.now c.args.keep.now fs)) (at_stop finished) (committed_end c.take_turn.new.writer)
    (ImagesOf (g.D.Disk.files c.args.export.now)) (ImagesOf (g.D.Disk.files c.take_turn.new.export))
whole_finished g c fs told =
    turned_on c.turns.invariant.laws c.args.schema.now.tables (writer_role c.args.writer.now) (closing_size c.args.writer.now) (committed_end c.args.writer.now) (committed_end c.turns.writer) (committed_end c.take_turn.new.writer)
    (end_left c.args.schema.now.tables c.args.writer.now c.args.todo (kept_left c.args.schema.now.tables c.args.feed.now c.args.keep.now fs)) (end_left c.args.schema.now.tables c.turns.writer c.turns.plan (kept_left c.args.schema.now.tables c.turns.feed c.turns.keep fs)) (at_stop finished) c.turns.invariant.room
    (writer_role c.turns.writer) (closing_size c.turns.writer) c.turns.invariant.role c.turns.invariant.size (c.turns.invariant.turned fs told)
    (subst (λ (s : Step). Turned c.args.schema.now.tables (writer_role c.turns.writer) (closing_size c.turns.writer) (committed_end c.turns.writer) (end_left c.args.schema.now.tables c.turns.writer c.turns.plan (kept_left c.args.schema.now.tables c.turns.feed c.turns.keep fs))
    (rest_of s (end_left c.args.schema.now.tables c.take_turn.new.writer c.take_turn.new.plan (kept_left c.args.schema.now.tables c.take_turn.new.feed c.take_turn.new.keep fs))) (committed_end c.take_turn.new.writer) (ImagesOf (g.D.Disk.files c.turns.export)) (ImagesOf (g.D.Disk.files c.take_turn.new.export)))
    c.in-Finished.is (c.in_ok-step.ensures.turned fs (c.turns.invariant.same ∙ told)))

whole_stopped : (g : _) (c : goal.After-from g) (fs : Files) → g.D.Disk.files c.args.recording.now ≡ Some fs
    → Turned c.args.schema.now.tables (writer_role c.args.writer.now) (closing_size c.args.writer.now) (committed_end c.args.writer.now) (end_left c.args.schema.now.tables c.args.writer.now c.args.todo (kept_left c.args.schema.now.tables c.args.feed.now c.args.keep.now fs)) (at_stop (stop_told c.in-Stopped.refusal)) (committed_end c.take_turn.new.writer)
    (ImagesOf (g.D.Disk.files c.args.export.now)) (ImagesOf (g.D.Disk.files c.take_turn.new.export))
whole_stopped g c fs told =
    turned_on c.turns.invariant.laws c.args.schema.now.tables (writer_role c.args.writer.now) (closing_size c.args.writer.now) (committed_end c.args.writer.now) (committed_end c.turns.writer) (committed_end c.take_turn.new.writer)
    (end_left c.args.schema.now.tables c.args.writer.now c.args.todo (kept_left c.args.schema.now.tables c.args.feed.now c.args.keep.now fs)) (end_left c.args.schema.now.tables c.turns.writer c.turns.plan (kept_left c.args.schema.now.tables c.turns.feed c.turns.keep fs)) (at_stop (stop_told c.in-Stopped.refusal)) c.turns.invariant.room
    (writer_role c.turns.writer) (closing_size c.turns.writer) c.turns.invariant.role c.turns.invariant.size (c.turns.invariant.turned fs told)
    (subst (λ (s : Step). Turned c.args.schema.now.tables (writer_role c.turns.writer) (closing_size c.turns.writer) (committed_end c.turns.writer) (end_left c.args.schema.now.tables c.turns.writer c.turns.plan (kept_left c.args.schema.now.tables c.turns.feed c.turns.keep fs))
    (rest_of s (end_left c.args.schema.now.tables c.take_turn.new.writer c.take_turn.new.plan (kept_left c.args.schema.now.tables c.take_turn.new.feed c.take_turn.new.keep fs))) (committed_end c.take_turn.new.writer) (ImagesOf (g.D.Disk.files c.turns.export)) (ImagesOf (g.D.Disk.files c.take_turn.new.export)))
    c.in-Stopped.is (c.in_ok-step.ensures.turned fs (c.turns.invariant.same ∙ told)))

pub returns-in-Finished-clause-done : goal.returns-in-Finished-clause-done
returns-in-Finished-clause-done g c = λ fs told. stop_is c.args.schema.now.tables (writer_role c.args.writer.now) (closing_size c.args.writer.now) (committed_end c.args.writer.now) (committed_end c.take_turn.new.writer) (end_left c.args.schema.now.tables c.args.writer.now c.args.todo (kept_left c.args.schema.now.tables c.args.feed.now c.args.keep.now fs)) finished (whole_finished g c fs told)

pub returns-in-Finished-clause-all : goal.returns-in-Finished-clause-all
returns-in-Finished-clause-all g c = λ fs told. stop_all c.args.schema.now.tables (writer_role c.args.writer.now) (closing_size c.args.writer.now) (committed_end c.args.writer.now) (committed_end c.take_turn.new.writer) (end_left c.args.schema.now.tables c.args.writer.now c.args.todo (kept_left c.args.schema.now.tables c.args.feed.now c.args.keep.now fs)) finished (whole_finished g c fs told)

pub returns-in-Finished-clause-end : goal.returns-in-Finished-clause-end
returns-in-Finished-clause-end g c = λ fs told. stop_end c.args.schema.now.tables (writer_role c.args.writer.now) (closing_size c.args.writer.now) (committed_end c.args.writer.now) (committed_end c.take_turn.new.writer) (end_left c.args.schema.now.tables c.args.writer.now c.args.todo (kept_left c.args.schema.now.tables c.args.feed.now c.args.keep.now fs)) finished (whole_finished g c fs told)

pub returns-in-Finished-clause-prefix : goal.returns-in-Finished-clause-prefix
returns-in-Finished-clause-prefix g c = λ fs told. stop_some c.args.schema.now.tables (writer_role c.args.writer.now) (closing_size c.args.writer.now) (committed_end c.args.writer.now) (committed_end c.take_turn.new.writer) (end_left c.args.schema.now.tables c.args.writer.now c.args.todo (kept_left c.args.schema.now.tables c.args.feed.now c.args.keep.now fs)) finished (whole_finished g c fs told)

pub returns-in-Finished-clause-moves : goal.returns-in-Finished-clause-moves
returns-in-Finished-clause-moves g c = λ fs told stated is next sound.
    let turned = c.turns.invariant.turned fs told in
    moves_on c.turns.invariant.keeps stated sound (c.turns.invariant.moves fs told stated is next sound)
    (c.take_turn.ensures.moves fs (c.turns.invariant.same ∙ told) stated is
    (turned_next c.turns.invariant.laws.ends c.args.schema.now.tables (writer_role c.args.writer.now) (closing_size c.args.writer.now) (meta_state c.args.meta.now) (meta_state c.turns.meta)
    (committed_end c.args.writer.now) (committed_end c.turns.writer) _ _ stated c.requires.recorded (writer_role c.turns.writer) c.turns.invariant.recorded turned next))

pub returns-in-Stopped-clause-told : goal.returns-in-Stopped-clause-told
returns-in-Stopped-clause-told g c = λ fs told. tells (end_left c.args.schema.now.tables c.args.writer.now c.args.todo (kept_left c.args.schema.now.tables c.args.feed.now c.args.keep.now fs)) c.in-Stopped.refusal c.from.result (stop_is c.args.schema.now.tables (writer_role c.args.writer.now) (closing_size c.args.writer.now) (committed_end c.args.writer.now) (committed_end c.take_turn.new.writer) (end_left c.args.schema.now.tables c.args.writer.now c.args.todo (kept_left c.args.schema.now.tables c.args.feed.now c.args.keep.now fs)) (stop_told c.in-Stopped.refusal) (whole_stopped g c fs told)) c.from.ensures

pub returns-in-Stopped-clause-all : goal.returns-in-Stopped-clause-all
returns-in-Stopped-clause-all g c = at_end _ c.in-Stopped.refusal c.from.result c.from.ensures (λ fs told. stop_all c.args.schema.now.tables (writer_role c.args.writer.now) (closing_size c.args.writer.now) (committed_end c.args.writer.now) (committed_end c.take_turn.new.writer) (end_left c.args.schema.now.tables c.args.writer.now c.args.todo (kept_left c.args.schema.now.tables c.args.feed.now c.args.keep.now fs)) (stop_told c.in-Stopped.refusal) (whole_stopped g c fs told))

pub returns-in-Stopped-clause-end : goal.returns-in-Stopped-clause-end
returns-in-Stopped-clause-end g c = at_end _ c.in-Stopped.refusal c.from.result c.from.ensures (λ fs told. stop_end c.args.schema.now.tables (writer_role c.args.writer.now) (closing_size c.args.writer.now) (committed_end c.args.writer.now) (committed_end c.take_turn.new.writer) (end_left c.args.schema.now.tables c.args.writer.now c.args.todo (kept_left c.args.schema.now.tables c.args.feed.now c.args.keep.now fs)) (stop_told c.in-Stopped.refusal) (whole_stopped g c fs told))

pub returns-in-Stopped-clause-prefix : goal.returns-in-Stopped-clause-prefix
returns-in-Stopped-clause-prefix g c = λ fs told. stop_some c.args.schema.now.tables (writer_role c.args.writer.now) (closing_size c.args.writer.now) (committed_end c.args.writer.now) (committed_end c.take_turn.new.writer) (end_left c.args.schema.now.tables c.args.writer.now c.args.todo (kept_left c.args.schema.now.tables c.args.feed.now c.args.keep.now fs)) (stop_told c.in-Stopped.refusal) (whole_stopped g c fs told)

pub returns-in-Stopped-clause-moves : goal.returns-in-Stopped-clause-moves
returns-in-Stopped-clause-moves g c = λ fs told stated is next sound.
    let turned = c.turns.invariant.turned fs told in
    moves_on c.turns.invariant.keeps stated sound (c.turns.invariant.moves fs told stated is next sound)
    (c.take_turn.ensures.moves fs (c.turns.invariant.same ∙ told) stated is
    (turned_next c.turns.invariant.laws.ends c.args.schema.now.tables (writer_role c.args.writer.now) (closing_size c.args.writer.now) (meta_state c.args.meta.now) (meta_state c.turns.meta)
    (committed_end c.args.writer.now) (committed_end c.turns.writer) _ _ stated c.requires.recorded (writer_role c.turns.writer) c.turns.invariant.recorded turned next))

pub turns-init : goal.turns-init
turns-init g c = record {
  laws = record {
    joins = c.puts_go_on.ensures.pending;
    ends = c.puts_go_on.ensures.ends;
    follows = c.puts_go_on.ensures.follows;
    join = c.puts_join.ensures.join;
    alike = c.puts_join.ensures.alike;
    in_turn = c.puts_join.ensures.turn;
  };
  keeps = c.steps_keep_sound.ensures;
  room = room_at c.puts_join.ensures.room (meta_state c.args.meta.now) (writer_role c.args.writer.now) (committed_end c.args.writer.now) (ImagesOf (g.D.Disk.files c.args.export.now))
      (c.metadata_stand.ensures.state c.args.meta.now (g.D.Disk.files c.args.export.now) c.requires.stands) c.requires.recorded;
  turned = λ fs told. turned_nothing c.args.schema.now.tables (writer_role c.args.writer.now) (closing_size c.args.writer.now) (committed_end c.args.writer.now) (end_left c.args.schema.now.tables c.args.writer.now c.args.todo (kept_left c.args.schema.now.tables c.args.feed.now c.args.keep.now fs))
      (ImagesOf (g.D.Disk.files c.args.export.now)) (put_nothing c.puts_join.ensures.itself c.args.schema.now.tables (writer_role c.args.writer.now) (closing_size c.args.writer.now) (committed_end c.args.writer.now));
  moves = λ fs told stated is next sound. goes_nothing export_step (MayExport stated) (exports_in stated.schema) (ImagesOf (g.D.Disk.files c.args.export.now));
  feed = c.requires.feed;
  place = c.requires.place;
  goes_on = c.requires.goes_on;
  live = c.requires.live;
  nothing = c.requires.nothing;
  recorded = c.requires.recorded;
  writer = c.requires.writer;
  meta = c.requires.meta;
  stands = c.requires.stands;
  snapshot = c.requires.snapshot;
  may = c.requires.may;
  asked = c.requires.asked;
  from = (let same = ap (λ (e : End). e.last_vsn) (c.end-from.ensures ∙ ap (end_of (committed_end c.args.writer.now)) c.requires.nothing) in omega (arith, same));
  rises = omega arith;
  adds = adds_nothing (meta_state c.args.meta.now);
  role = refl;
  size = refl;
  others = files_beside_nothing IsQueueFile (g.D.Disk.files c.args.export.now) (g.D.Disk.files c.args.export.now) refl;
  told_still = record { has = λ i is. (i, is) };
  same = refl;
  lender_recording = refl;
  lender_export = refl;
  later_recording = omega arith;
  later_export = omega arith;
}

whole_put : (g : _) (c : goal.In-Put g) (fs : Files) → g.D.Disk.files c.args.recording.now ≡ Some fs
    → Turned c.args.schema.now.tables (writer_role c.args.writer.now) (closing_size c.args.writer.now) (committed_end c.args.writer.now) (end_left c.args.schema.now.tables c.args.writer.now c.args.todo (kept_left c.args.schema.now.tables c.args.feed.now c.args.keep.now fs)) (end_left c.args.schema.now.tables c.take_turn.new.writer c.take_turn.new.plan (kept_left c.args.schema.now.tables c.take_turn.new.feed c.take_turn.new.keep fs)) (committed_end c.take_turn.new.writer)
    (ImagesOf (g.D.Disk.files c.args.export.now)) (ImagesOf (g.D.Disk.files c.take_turn.new.export))
whole_put g c fs told =
    turned_on c.turns.invariant.laws c.args.schema.now.tables (writer_role c.args.writer.now) (closing_size c.args.writer.now) (committed_end c.args.writer.now) (committed_end c.turns.writer) (committed_end c.take_turn.new.writer)
    (end_left c.args.schema.now.tables c.args.writer.now c.args.todo (kept_left c.args.schema.now.tables c.args.feed.now c.args.keep.now fs)) (end_left c.args.schema.now.tables c.turns.writer c.turns.plan (kept_left c.args.schema.now.tables c.turns.feed c.turns.keep fs)) (end_left c.args.schema.now.tables c.take_turn.new.writer c.take_turn.new.plan (kept_left c.args.schema.now.tables c.take_turn.new.feed c.take_turn.new.keep fs)) c.turns.invariant.room
    (writer_role c.turns.writer) (closing_size c.turns.writer) c.turns.invariant.role c.turns.invariant.size (c.turns.invariant.turned fs told)
    (subst (λ (s : Step). Turned c.args.schema.now.tables (writer_role c.turns.writer) (closing_size c.turns.writer) (committed_end c.turns.writer) (end_left c.args.schema.now.tables c.turns.writer c.turns.plan (kept_left c.args.schema.now.tables c.turns.feed c.turns.keep fs))
    (rest_of s (end_left c.args.schema.now.tables c.take_turn.new.writer c.take_turn.new.plan (kept_left c.args.schema.now.tables c.take_turn.new.feed c.take_turn.new.keep fs))) (committed_end c.take_turn.new.writer) (ImagesOf (g.D.Disk.files c.turns.export)) (ImagesOf (g.D.Disk.files c.take_turn.new.export)))
    c.in-Put.is (c.in_ok-step.ensures.turned fs (c.turns.invariant.same ∙ told)))

pub turns-preserved : goal.turns-preserved
turns-preserved g c = record {
  laws = c.turns.invariant.laws;
  keeps = c.turns.invariant.keeps;
  room = c.turns.invariant.room;
  turned = λ fs told. whole_put g c fs told;
  moves = λ fs told stated is next sound.
      let turned = c.turns.invariant.turned fs told in
      moves_on c.turns.invariant.keeps stated sound (c.turns.invariant.moves fs told stated is next sound)
      (c.take_turn.ensures.moves fs (c.turns.invariant.same ∙ told) stated is
      (turned_next c.turns.invariant.laws.ends c.args.schema.now.tables (writer_role c.args.writer.now) (closing_size c.args.writer.now) (meta_state c.args.meta.now) (meta_state c.turns.meta)
      (committed_end c.args.writer.now) (committed_end c.turns.writer) _ _ stated c.requires.recorded (writer_role c.turns.writer) c.turns.invariant.recorded turned next));
  feed = c.take_turn.ensures.feed;
  place = c.in_ok-step.ensures.place c.in-Put.is;
  goes_on = c.in_ok-step.ensures.goes_on c.in-Put.is;
  live = c.in_ok-step.ensures.live;
  nothing = c.in_ok-step.ensures.nothing;
  recorded = c.in_ok-step.ensures.recorded;
  writer = c.in_ok-step.ensures.writer;
  meta = c.in_ok-step.ensures.meta;
  stands = c.in_ok-step.ensures.stands;
  snapshot = c.in_ok-step.ensures.snapshot;
  may = subst (λ (r : Role). writes (meta_state c.take_turn.new.meta) r ≡ true) (sym c.take_turn.ensures.role) (c.in_ok-step.ensures.may c.in-Put.is);
  asked = λ asked. subst (λ (r : Role). is_some (request_of (leads_to r) (meta_state c.take_turn.new.meta)) ≡ true) (sym c.take_turn.ensures.role)
      (c.in_ok-step.ensures.asked (leads_to (writer_role c.turns.writer)) (c.turns.invariant.asked (sym (c.in_ok-step.ensures.still c.in-Put.is) ∙ asked)));
  from = (let before = c.turns.invariant.from in let rises = c.in_ok-step.ensures.rises in omega (arith, before, rises));
  rises = (let before = c.turns.invariant.rises in let rises = c.in_ok-step.ensures.rises in omega (arith, before, rises));
  adds = adds_on (meta_state c.args.meta.now) (meta_state c.turns.meta) (meta_state c.take_turn.new.meta) c.turns.invariant.adds c.in_ok-step.ensures.adds;
  role = c.take_turn.ensures.role ∙ c.turns.invariant.role;
  size = c.take_turn.ensures.size ∙ c.turns.invariant.size;
  others = files_beside_again IsQueueFile c.turns.invariant.others c.take_turn.ensures.others;
  told_still = record { has = λ i is. (let first = c.turns.invariant.told_still.has i is in c.take_turn.ensures.told_still.has first.0 first.1) };
  same = c.take_turn.ensures.same ∙ c.turns.invariant.same;
  lender_recording = c.take_turn.ensures.lender_recording ∙ c.turns.invariant.lender_recording;
  lender_export = c.take_turn.ensures.lender_export ∙ c.turns.invariant.lender_export;
  later_recording = (let before = c.turns.invariant.later_recording in let later = c.take_turn.ensures.cause_recording.later in omega (arith, before, later));
  later_export = (let before = c.turns.invariant.later_export in let later = c.take_turn.ensures.cause_export.later in omega (arith, before, later));
}

pub returns-in-Finished-clause-follow : goal.returns-in-Finished-clause-follow
returns-in-Finished-clause-follow g c = λ fs told. stop_may c.args.schema.now.tables (writer_role c.args.writer.now) (closing_size c.args.writer.now) (committed_end c.args.writer.now) (committed_end c.take_turn.new.writer) (end_left c.args.schema.now.tables c.args.writer.now c.args.todo (kept_left c.args.schema.now.tables c.args.feed.now c.args.keep.now fs)) finished (whole_finished g c fs told)

pub returns-in-Stopped-clause-follow : goal.returns-in-Stopped-clause-follow
returns-in-Stopped-clause-follow g c = at_end _ c.in-Stopped.refusal c.from.result c.from.ensures (λ fs told. stop_may c.args.schema.now.tables (writer_role c.args.writer.now) (closing_size c.args.writer.now) (committed_end c.args.writer.now) (committed_end c.take_turn.new.writer) (end_left c.args.schema.now.tables c.args.writer.now c.args.todo (kept_left c.args.schema.now.tables c.args.feed.now c.args.keep.now fs)) (stop_told c.in-Stopped.refusal) (whole_stopped g c fs told))
