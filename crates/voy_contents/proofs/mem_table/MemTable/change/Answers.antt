use Rattle.std.proofs.Common.{◌∙◌, None, Some, refl, sym}
use Rattle.std.specs.Option.{option_copied}
use Rattle.voy_contents.proofs.ChangeLemmas.{IsChanged, change_done, first_same, moves_same, row_misfits, tuples_decide}
use Rattle.voy_contents.proofs.TraceLemmas.{back_on}
use Rattle.voy_contents.proofs.mem_table.MemTable.change.Goals as goal

pub returns-in-Some-clause-refused : goal.returns-in-Some-clause-refused
returns-in-Some-clause-refused c =
    row_misfits c.args.of.now c.args.key (option_copied c.args.before) (option_copied c.args.after) c.args.self.now.rows c.args.self.now.indexes c.requires.stands c.in-Some.misfit
    (sym c.in_ok-misfit.ensures.misfit ∙ c.in-Some.is)

pub returns-in_err-misfit-2-clause-back : goal.returns-in_err-misfit-2-clause-back
returns-in_err-misfit-2-clause-back c =
    back_on c.args.table c.args.self.now c.set_row.new.self c.move_tuples.new.self c.args.traces.now.items c.set_row.new.traces.items c.move_tuples.new.traces.items c.set_row.ensures.back c.move_tuples.ensures.back

pub returns-in-Some-2-clause-back : goal.returns-in-Some-2-clause-back
returns-in-Some-2-clause-back c =
    back_on c.args.table c.args.self.now c.set_row.new.self c.move_tuples.new.self c.args.traces.now.items c.set_row.new.traces.items c.move_tuples.new.traces.items c.set_row.ensures.back c.move_tuples.ensures.back

pub returns-in-Some-2-clause-refused : goal.returns-in-Some-2-clause-refused
returns-in-Some-2-clause-refused c =
    tuples_decide c.args.of.now c.args.key (option_copied c.args.before) (option_copied c.args.after) c.args.self.now.rows c.args.self.now.indexes c.requires.stands
    (sym c.in_ok-misfit.ensures.misfit ∙ c.in_default.is) (Some c.in-Some-2.misfit)
    (first_same c.as_slice-unique_keys.result.now c.args.of.now.unique_keys (option_copied c.args.before) (option_copied c.args.after) c.set_row.new.self.indexes c.args.self.now.indexes _ (Some c.in-Some-2.misfit)
    c.as_slice-unique_keys.ensures c.set_row.ensures.indexes c.in-Some-2.is c.in_ok-misfit-2.ensures.misfit)

pub returns-in-None-clause-back : goal.returns-in-None-clause-back
returns-in-None-clause-back c =
    back_on c.args.table c.args.self.now c.set_row.new.self c.move_tuples.new.self c.args.traces.now.items c.set_row.new.traces.items c.move_tuples.new.traces.items c.set_row.ensures.back c.move_tuples.ensures.back

is_changed : (c : goal.In-None) → IsChanged c.args.of.now c.args.key (option_copied c.args.before) (option_copied c.args.after) c.args.self.now c.move_tuples.new.self
is_changed c =
    change_done c.args.of.now c.args.key (option_copied c.args.before) (option_copied c.args.after) c.args.self.now c.set_row.new.self c.move_tuples.new.self c.requires.stands
    (sym c.in_ok-misfit.ensures.misfit ∙ c.in_default.is) c.set_row.ensures.indexes (c.in_ok-misfit.ensures.set c.in_default.is) c.requires.in_place
    (first_same c.as_slice-unique_keys.result.now c.args.of.now.unique_keys (option_copied c.args.before) (option_copied c.args.after) c.set_row.new.self.indexes c.set_row.new.self.indexes _ None
    c.as_slice-unique_keys.ensures refl c.in-None.is c.in_ok-misfit-2.ensures.misfit)
    (moves_same c.as_slice-unique_keys.result.now c.args.of.now.unique_keys (option_copied c.args.before) (option_copied c.args.after) c.set_row.new.self.indexes c.move_tuples.new.self.indexes
    c.as_slice-unique_keys.ensures (c.in_ok-misfit-2.ensures.moved c.in-None.is)) c.move_tuples.ensures.rows

pub returns-in-None-clause-fits : goal.returns-in-None-clause-fits
returns-in-None-clause-fits c = (is_changed c).fits

pub returns-in-None-clause-stands : goal.returns-in-None-clause-stands
returns-in-None-clause-stands c = (is_changed c).stands

pub returns-in-None-clause-rows : goal.returns-in-None-clause-rows
returns-in-None-clause-rows c = (is_changed c).rows
