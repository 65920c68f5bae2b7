use Rattle.std.proofs.Common.{refl, subst, sym, ◌∙◌, ap}
use Rattle.std.specs.Option.{option_copied}
use Rattle.voy_contents.proofs.TraceLemmas.{one_more_back, row_back, same_back}
use Rattle.voy_contents.specs.MemTables.{IsRowSet, standing}
use Rattle.voy_contents.specs.declared.traces.Place.TheVariants.{Row}
use Rattle.voy_tables.specs.Lists.{misfit_by}
use Rattle.voy_tables.specs.MisfitLaws.{stands_as_said}
use Rattle.std.specs.Prelude.{None}
use Rattle.voy_contents.proofs.mem_table.MemTable.set_row.Goals as goal

pub returns-in_err-row-clause-back : goal.returns-in_err-row-clause-back
returns-in_err-row-clause-back c = same_back c.args.table c.args.self.now c.args.self.now c.args.traces.now.items c.args.traces.now.items refl refl

pub returns-in_err-reserve-clause-back : goal.returns-in_err-reserve-clause-back
returns-in_err-reserve-clause-back c = same_back c.args.table c.args.self.now c.args.self.now c.args.traces.now.items c.reserve.new.self.items refl c.reserve.ensures.items

pub returns-in_err-held-clause-back : goal.returns-in_err-held-clause-back
returns-in_err-held-clause-back c =
    same_back c.args.table c.args.self.now (record { rows = c.put_row.new.rows; indexes = c.args.self.now.indexes }) c.args.traces.now.items c.reserve.new.self.items
    (λ i. record { rows = c.in_err-held.ensures.err i; indexes = c.args.self.now.indexes }) c.reserve.ensures.items

pub returns-clause-back : goal.returns-clause-back
returns-clause-back c =
    one_more_back c.args.table c.args.self.now (record { rows = c.put_row.new.rows; indexes = c.args.self.now.indexes }) c.args.traces.now.items c.reserve.new.self.items c.push_reserved.new.self.items
    (Row c.args.key c.in_ok-held.held c.is_none-emptied.result) c.reserve.ensures.items c.push_reserved.ensures.items
    (row_back c.args.key c.in_ok-held.held c.is_none-emptied.result c.args.self.now.rows c.put_row.new.rows c.args.self.now.indexes c.in_ok-held.ensures.back)

pub returns-clause-set : goal.returns-clause-set
returns-clause-set c = λ none.
    subst (λ row. IsRowSet c.args.key row c.args.self.now.rows c.put_row.new.rows) c.in_ok-row.ensures
    (c.in_ok-held.ensures.set (stands_as_said (option_copied c.args.before) (standing c.in_ok-held.held)
    (ap (λ there. misfit_by (option_copied c.args.before) there None) (sym c.standing.ensures) ∙ sym c.misfit_beside-misfit.ensures ∙ none)))
