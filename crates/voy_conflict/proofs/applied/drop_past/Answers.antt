use Rattle.std.specs.Prelude.{◌≡◌, ◌+◌, length}
use Rattle.std.proofs.Common.{ap, arith, sym, ◌∙◌}
use Rattle.voy_link.specs.Arena.{Contents, without}
use Rattle.voy_conflict.specs.Filing.{are_apart, without_past}
use Rattle.voy_conflict.specs.declared.entry.Entry.{Entry}
use Rattle.voy_conflict.proofs.ApartLemmas.{apart_without}
use Rattle.voy_conflict.proofs.DropLemmas.{first_is_there, no_first, past_goes_on, past_shorter, past_stops}
use Rattle.voy_conflict.proofs.applied.drop_past.Goals as goal

pub item-entry-requires : goal.item-entry-requires
item-entry-requires g c =
    first_is_there c.args.events.now c.args.lane c.args.vsn c.loop-id.entries.nodes c.in-Some.id c.loop-id.invariant.apart (sym c.in-Some.is
    ∙ c.first_in_lane.ensures.first)

pub remove-requires : goal.remove-requires
remove-requires g c =
    first_is_there c.args.events.now c.args.lane c.args.vsn c.loop-id.entries.nodes c.in-Some.id c.loop-id.invariant.apart (sym c.in-Some.is
    ∙ c.first_in_lane.ensures.first)

pub returns-then-vsn_at-vsn-clause-nodes : goal.returns-then-vsn_at-vsn-clause-nodes
returns-then-vsn_at-vsn-clause-nodes g c =
    let above = c.if-vsn_at-vsn.true in let is = c.vsn_at.ensures in
    sym (past_stops c.args.events.now c.args.lane c.args.vsn c.loop-id.entries.nodes c.in-Some.id c.item-entry.result c.loop-id.invariant.apart
    (sym c.in-Some.is ∙ c.first_in_lane.ensures.first) c.item-entry.ensures.item (omega (arith, above, is)))
    ∙ c.loop-id.invariant.left

pub loop-id-smaller : goal.loop-id-smaller
loop-id-smaller g c =
    let nodes_are : c.remove.new.self.nodes ≡ without c.loop-id.entries.nodes c.in-Some.id = ap (λ (k : Contents Entry). k.nodes) c.remove.ensures.removed in
    let long : length c.remove.new.self.nodes ≡ length (without c.loop-id.entries.nodes c.in-Some.id) = ap length nodes_are in
    let shorter = past_shorter c.args.events.now c.args.lane c.args.vsn c.loop-id.entries.nodes c.in-Some.id c.loop-id.invariant.apart
    (sym c.in-Some.is ∙ c.first_in_lane.ensures.first) in
    omega (arith, long, shorter)

pub loop-id-preserved : goal.loop-id-preserved
loop-id-preserved g c =
    let nodes_are : c.remove.new.self.nodes ≡ without c.loop-id.entries.nodes c.in-Some.id = ap (λ (k : Contents Entry). k.nodes) c.remove.ensures.removed in
    let long : length c.remove.new.self.nodes ≡ length (without c.loop-id.entries.nodes c.in-Some.id) = ap length nodes_are in
    let spare_is : c.remove.new.self.spare ≡ c.loop-id.entries.spare + 1 = ap (λ (k : Contents Entry). k.spare) c.remove.ensures.removed in
    let shorter = past_shorter c.args.events.now c.args.lane c.args.vsn c.loop-id.entries.nodes c.in-Some.id c.loop-id.invariant.apart
    (sym c.in-Some.is ∙ c.first_in_lane.ensures.first) in
    let room = c.loop-id.invariant.room in
    let fewer = c.loop-id.invariant.fewer in
    let steps = c.loop-id.invariant.steps in
    let few_steps = c.loop-id.invariant.few_steps in
    let first = c.first_in_lane.ensures.step in
    let second = c.item-entry.ensures.step in
    let third = c.remove.ensures.step in
    let low = c.if-vsn_at-vsn.false in
    let is = c.vsn_at.ensures in
    record {
      apart = ap are_apart nodes_are ∙ apart_without c.loop-id.entries.nodes c.in-Some.id c.loop-id.invariant.apart;
      left = ap (without_past c.args.events.now c.args.lane c.args.vsn) nodes_are
          ∙ past_goes_on c.args.events.now c.args.lane c.args.vsn c.loop-id.entries.nodes c.in-Some.id c.item-entry.result c.loop-id.invariant.apart
          (sym c.in-Some.is ∙ c.first_in_lane.ensures.first) c.item-entry.ensures.item (omega (arith, low, is))
          ∙ c.loop-id.invariant.left;
      room = omega (arith, long, spare_is, shorter, room);
      fewer = omega (arith, long, shorter, fewer);
      steps = omega (arith, steps, first, second, third);
      few_steps = omega (arith, long, shorter, fewer, few_steps, first, second, third);
      buckets = ap (λ (k : Contents Entry). k.buckets) c.remove.ensures.removed ∙ c.loop-id.invariant.buckets;
      lanes = ap (λ (k : Contents Entry). k.lanes) c.remove.ensures.removed ∙ c.loop-id.invariant.lanes;
    }

pub returns-clause-nodes : goal.returns-clause-nodes
returns-clause-nodes g c =
    sym (no_first c.args.events.now c.args.lane c.args.vsn c.loop-id.entries.nodes (sym c.in_default.is ∙ c.first_in_lane.ensures.first))
    ∙ c.loop-id.invariant.left
