use Rattle.std.proofs.Common.{ap, refl, subst, sym, true, false, ◌∙◌}
use Rattle.std.specs.Option.{option_copied}
use Rattle.voy_contents.proofs.MoveLemmas.{kept_is_free, kept_moves, listed_moves, taken_is_listed}
use Rattle.voy_contents.proofs.TraceLemmas.{back_on, same_back}
use Rattle.voy_contents.specs.MemTables.{Lists, are_listed}
use Rattle.voy_contents.proofs.mem_table.MemTable.move_tuple.Goals as goal

pub returns-then-keeps_tuple-clause-back : goal.returns-then-keeps_tuple-clause-back
returns-then-keeps_tuple-clause-back c = same_back c.args.table c.args.self.now c.args.self.now c.args.traces.now.items c.args.traces.now.items refl refl

pub returns-then-keeps_tuple-clause-taken : goal.returns-then-keeps_tuple-clause-taken
returns-then-keeps_tuple-clause-taken c = λ index found.
    kept_is_free c.args.unique.now (option_copied c.args.before) (option_copied c.args.after) index (sym c.keeps_tuple.ensures ∙ c.if-keeps_tuple.true)

pub returns-then-keeps_tuple-clause-moves : goal.returns-then-keeps_tuple-clause-moves
returns-then-keeps_tuple-clause-moves c =
    kept_moves c.args.at c.args.unique.now (option_copied c.args.before) (option_copied c.args.after) c.args.self.now.indexes (sym c.keeps_tuple.ensures ∙ c.if-keeps_tuple.true)

pub returns-in_err-to-clause-back : goal.returns-in_err-to-clause-back
returns-in_err-to-clause-back c = same_back c.args.table c.args.self.now c.args.self.now c.args.traces.now.items c.args.traces.now.items refl refl

pub returns-in_err-_listed-clause-back : goal.returns-in_err-_listed-clause-back
returns-in_err-_listed-clause-back c =
    back_on c.args.table c.args.self.now c.list.new.self c.list-2.new.self c.args.traces.now.items c.list.new.traces.items c.list-2.new.traces.items c.list.ensures.back c.list-2.ensures.back

pub returns-clause-back : goal.returns-clause-back
returns-clause-back c =
    back_on c.args.table c.args.self.now c.list.new.self c.list-2.new.self c.args.traces.now.items c.list.new.traces.items c.list-2.new.traces.items c.list.ensures.back c.list-2.ensures.back

pub returns-clause-taken : goal.returns-clause-taken
returns-clause-taken c = λ index found.
    taken_is_listed c.args.unique.now (option_copied c.args.before) (option_copied c.args.after) index (sym c.keeps_tuple.ensures ∙ c.if-keeps_tuple.false)
    ∙ ap (λ tuple. are_listed tuple index) (sym c.in_ok-to.ensures) ∙ c.in_ok-taken.ensures.was index found

pub returns-clause-moves : goal.returns-clause-moves
returns-clause-moves c =
    listed_moves c.args.at c.args.unique.now (option_copied c.args.before) (option_copied c.args.after) c.args.self.now.indexes c.list.new.self.indexes c.list-2.new.self.indexes
    (sym c.keeps_tuple.ensures ∙ c.if-keeps_tuple.false)
    (subst (λ tuple. Lists c.args.at tuple true c.args.self.now.indexes c.list.new.self.indexes) c.in_ok-to.ensures c.in_ok-taken.ensures.lists)
    (subst (λ tuple. Lists c.args.at tuple false c.list.new.self.indexes c.list-2.new.self.indexes) c.in_ok-from.ensures c.in_ok-_listed.ensures.lists)
