use Rattle.std.proofs.Common.{◌≡◌, ◌+◌, List, length, arith, subst, sym}
use Rattle.voy_schema.specs.declared.table.Table.{Table}
use Rattle.voy_contents.proofs.TableListLemmas.{AreMadeTo, all_made_empty, all_made_stand, one_made}
use Rattle.voy_contents.proofs.ListLemmas.{get_at}
use Rattle.voy_contents.specs.TableLists.{AreMemTables, lists_of}
use Rattle.voy_tables.specs.Lists.{empty_lists}
use Rattle.voy_contents.proofs.changes.empty_tables.Goals as goal

pub loop-table-preserved : goal.loop-table-preserved
loop-table-preserved c =
    let schema = c.as_slice-table-items.result.now in
    let at = c.loop-table.table-index in
    subst (AreMadeTo schema (at + 1)) (sym c.in_ok-push.ensures.ok)
    (one_made schema at c.loop-table.tables c.table-item.result c.in_ok-made.made c.loop-table.invariant (get_at schema at c.table-item.result c.loop-table-test.true c.table-item.is)
    c.in_ok-made.ensures.stands c.in_ok-made.ensures.empty)

pub returns-clause-stand : goal.returns-clause-stand
returns-clause-stand c =
    let all : c.loop-table.table-index ≡ length c.as_slice-table-items.result.now = omega (arith, c.loop-table-test.false, c.loop-table.auto.table-index-end) in
    subst (λ schema. AreMemTables schema c.loop-table.tables) c.as_slice-table-items.ensures
    (all_made_stand c.as_slice-table-items.result.now c.loop-table.table-index c.loop-table.tables c.loop-table.invariant all)

pub returns-clause-empty : goal.returns-clause-empty
returns-clause-empty c =
    let all : c.loop-table.table-index ≡ length c.as_slice-table-items.result.now = omega (arith, c.loop-table-test.false, c.loop-table.auto.table-index-end) in
    subst (λ (schema : List Table). lists_of c.loop-table.tables ≡ empty_lists schema) c.as_slice-table-items.ensures
    (all_made_empty c.as_slice-table-items.result.now c.loop-table.table-index c.loop-table.tables c.loop-table.invariant all)
