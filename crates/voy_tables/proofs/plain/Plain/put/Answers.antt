use Rattle.std.proofs.Common.{sym, ap, ◌∙◌}
use Rattle.std.specs.Prelude.{slice_set}
use Rattle.voy_tables.proofs.TableLemmas.{are_tables-at, are_tables-set, is_table-put, lists_after-insert, rows_there, within_lists}
use Rattle.voy_tables.proofs.plain.Plain.put.Goals as goal

pub item_mut-requires : goal.item_mut-requires
item_mut-requires c = within_lists c.args.self.now.schema.tables c.args.self.now.lists c.args.table c.in-Some.table.now c.args.self.now.stands (sym c.in-Some.ensures.value)

pub invariant_of-self : goal.invariant_of-self
invariant_of-self c =
    let schema = c.args.self.now.schema.tables in
    let lists = c.args.self.now.lists in
    let at = c.args.table in
    let t = c.in-Some.table.now in
    let found = sym c.in-Some.ensures.value in
    let stands = c.args.self.now.stands in
    let there = rows_there lists at c.item_mut.result.now (within_lists schema lists at t stands found) c.item_mut.ensures.value in
    record {
      stands = are_tables-set schema lists at t c.put_row.new.rows stands found
          (is_table-put c.put_row.result t c.args.row c.item_mut.result.now c.put_row.new.rows c.put_row.ensures.ok c.put_row.ensures.err
          (rw found at c.requires) (rw there at (are_tables-at schema lists at t stands found)));
    }

pub returns-in_ok-put_row-clause-ok : goal.returns-in_ok-put_row-clause-ok
returns-in_ok-put_row-clause-ok c =
    let lists = c.args.self.now.lists in
    let schema = c.args.self.now.schema.tables in
    let found = sym c.in-Some.ensures.value in
    let there = rows_there lists c.args.table c.item_mut.result.now (within_lists schema lists c.args.table c.in-Some.table.now c.args.self.now.stands found) c.item_mut.ensures.value in
    ap (slice_set lists c.args.table) c.in_ok-put_row.ensures.ok
    ∙ lists_after-insert schema lists c.args.table c.in-Some.table.now c.args.row c.item_mut.result.now found there
