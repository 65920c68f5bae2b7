use Rattle.std.proofs.Common.{IfErr, subst, sym}
use Rattle.std.specs.Option.{option_copied}
use Rattle.voy_contents.proofs.ListLemmas.{get_at}
use Rattle.voy_contents.proofs.TableListLemmas.{changed_if, misfit_at}
use Rattle.voy_contents.specs.Refusals.{IsRefused}
use Rattle.voy_contents.proofs.changes.change_at.Goals as goal

pub change-requires-clause-stands : goal.change-requires-clause-stands
change-requires-clause-stands c = c.requires.stands c.item_mut.result.now (get_at c.args.tables.now c.args.table c.item_mut.result.now c.requires.there c.item_mut.ensures.value)

pub returns-clause-back : goal.returns-clause-back
returns-clause-back c = c.change.ensures.back c.args.tables.now (get_at c.args.tables.now c.args.table c.item_mut.result.now c.requires.there c.item_mut.ensures.value)

pub returns-clause-done : goal.returns-clause-done
returns-clause-done c = λ schema stand found.
    changed_if c.change.result schema (record { row = record { table = c.args.table; key = c.args.key }; before = option_copied c.args.before; after = option_copied c.args.after }) c.args.tables.now c.args.of.now
    c.item_mut.result.now c.change.new.self stand found (get_at c.args.tables.now c.args.table c.item_mut.result.now c.requires.there c.item_mut.ensures.value) c.requires.there
    c.change.ensures.fits c.change.ensures.stands c.change.ensures.rows

pub returns-clause-refused : goal.returns-clause-refused
returns-clause-refused c = λ schema found.
    subst (λ m. IfErr c.change.result (IsRefused m))
    (sym (misfit_at schema (record { row = record { table = c.args.table; key = c.args.key }; before = option_copied c.args.before; after = option_copied c.args.after }) c.args.tables.now c.args.of.now c.item_mut.result.now
    found (get_at c.args.tables.now c.args.table c.item_mut.result.now c.requires.there c.item_mut.ensures.value))) c.change.ensures.refused
