use Rattle.std.proofs.Common.{IfOk, ap, subst, sym, None, ◌∙◌}
use Rattle.std.specs.Option.{option_copied}
use Rattle.voy_contents.proofs.ChangeLemmas.{some_misfits, tuples_found}
use Rattle.voy_contents.specs.MemTables.{IsFirstTaken}
use Rattle.voy_tables.specs.Lists.{misfit_by}
use Rattle.voy_contents.proofs.mem_table.MemTable.misfit.Goals as goal

pub returns-then-is_some : goal.returns-then-is_some
returns-then-is_some c =
    some_misfits c.args.of.now c.args.key.now (option_copied c.args.before) (option_copied c.args.after) c.args.self.now.rows c.args.self.now.indexes c.requires.stands c.misfit_beside-misfit.result
    (sym c.is_some.ensures ∙ c.if-is_some.true) (c.misfit_beside-misfit.ensures ∙ ap (λ there. misfit_by (option_copied c.args.before) there None) c.standing.ensures)

pub returns : goal.returns
returns c =
    tuples_found c.args.of.now c.args.key.now (option_copied c.args.before) (option_copied c.args.after) c.args.self.now.rows c.args.self.now.indexes c.requires.stands c.misfit_beside-misfit.result
    (sym c.is_some.ensures ∙ c.if-is_some.false) (c.misfit_beside-misfit.ensures ∙ ap (λ there. misfit_by (option_copied c.args.before) there None) c.standing.ensures)
    c.taken_tuple.result
    (subst (λ keys. IfOk c.taken_tuple.result (IsFirstTaken keys (option_copied c.args.before) (option_copied c.args.after) c.args.self.now.indexes)) c.as_slice.ensures c.taken_tuple.ensures)
