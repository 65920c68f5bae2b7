use Rattle.std.proofs.Common.{◌≤◌, arith, refl, ◌∙◌}
use Rattle.std.specs.Option.{option_copied}
use Rattle.voy_contents.proofs.ListLemmas.{get_at}
use Rattle.voy_contents.proofs.MoveLemmas.{none_moved, none_taken_more, one_moved, taken_here}
use Rattle.voy_contents.proofs.TraceLemmas.{back_on, same_back}
use Rattle.voy_contents.proofs.mem_table.MemTable.move_tuples.Goals as goal

pub loop-at-init : goal.loop-at-init
loop-at-init c = record {
  back = same_back c.args.table c.args.self.now c.args.self.now c.args.traces.now.items c.args.traces.now.items refl refl;
  rows = refl;
  free = λ n unique index below. absurd (omega (arith, below));
  moved = none_moved c.args.unique_keys.now (option_copied c.args.before) (option_copied c.args.after) c.args.self.now.indexes;
}

pub returns-in_err-move_tuple-clause-back : goal.returns-in_err-move_tuple-clause-back
returns-in_err-move_tuple-clause-back c =
    back_on c.args.table c.args.self.now c.loop-at.self c.move_tuple.new.self c.args.traces.now.items c.loop-at.traces.items c.move_tuple.new.traces.items c.loop-at.invariant.back c.move_tuple.ensures.back

pub returns-then-branch-clause-back : goal.returns-then-branch-clause-back
returns-then-branch-clause-back c =
    back_on c.args.table c.args.self.now c.loop-at.self c.move_tuple.new.self c.args.traces.now.items c.loop-at.traces.items c.move_tuple.new.traces.items c.loop-at.invariant.back c.move_tuple.ensures.back

pub returns-then-branch-clause-misfit : goal.returns-then-branch-clause-misfit
returns-then-branch-clause-misfit c =
    let uniques = c.args.unique_keys.now in
    let at = c.loop-at.at in
    let least : at ≤ at = omega arith in
    let found = get_at uniques at c.index-unique_keys-at.result c.loop-at-test.true c.index-unique_keys-at.is in
    taken_here uniques (option_copied c.args.before) (option_copied c.args.after) at c.args.self.now.indexes c.index-unique_keys-at.result c.loop-at.invariant.free found (omega (arith, c.loop-at-test.true, c.requires.as_many))
    (λ index there. c.in_ok-move_tuple.ensures.taken index (c.loop-at.invariant.moved.others at least ∙ there) ∙ c.if-branch.true)

pub loop-at-preserved : goal.loop-at-preserved
loop-at-preserved c =
    let uniques = c.args.unique_keys.now in
    let at = c.loop-at.at in
    let least : at ≤ at = omega arith in
    let found = get_at uniques at c.index-unique_keys-at.result c.loop-at-test.true c.index-unique_keys-at.is in
    record {
      back = back_on c.args.table c.args.self.now c.loop-at.self c.move_tuple.new.self c.args.traces.now.items c.loop-at.traces.items c.move_tuple.new.traces.items c.loop-at.invariant.back c.move_tuple.ensures.back;
      rows = c.move_tuple.ensures.rows ∙ c.loop-at.invariant.rows;
      free = none_taken_more uniques (option_copied c.args.before) (option_copied c.args.after) at c.args.self.now.indexes c.index-unique_keys-at.result c.loop-at.invariant.free found
          (λ index there. c.in_ok-move_tuple.ensures.taken index (c.loop-at.invariant.moved.others at least ∙ there) ∙ c.if-branch.false);
      moved = one_moved uniques (option_copied c.args.before) (option_copied c.args.after) at c.index-unique_keys-at.result c.args.self.now.indexes c.loop-at.self.indexes c.move_tuple.new.self.indexes
          c.loop-at.invariant.moved found c.in_ok-move_tuple.ensures.moves;
    }
