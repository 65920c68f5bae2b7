use Rattle.std.proofs.Common.{sym, ap, ◌∙◌}
use Rattle.std.specs.Prelude.{slice_set}
use Rattle.voy_tables.proofs.TableLemmas.{are_tables-at, are_tables-set, is_table-without_key, lists_after-delete, rows_there, within_lists}
use Rattle.voy_tables.proofs.plain.Plain.take_out.Goals as goal

pub item_mut-requires : goal.item_mut-requires
item_mut-requires c = within_lists c.args.self.now.schema.tables c.args.self.now.lists c.args.table c.in-Some.table.now c.args.self.now.stands (sym c.in-Some.ensures.value)

pub invariant_of-self : goal.invariant_of-self
invariant_of-self c =
    let schema = c.args.self.now.schema.tables in
    let lists = c.args.self.now.lists in
    let at = c.args.table in
    let t = c.in-Some.table.now in
    let found = sym c.in-Some.ensures.value in
    let stands = c.args.self.now.stands in
    let there = rows_there lists at c.item_mut.result.now (within_lists schema lists at t stands found) c.item_mut.ensures.value in
    record {
      stands = are_tables-set schema lists at t c.take_out_row.new.rows stands found
          (rw c.take_out_row.ensures (is_table-without_key t _ c.item_mut.result.now (rw there at (are_tables-at schema lists at t stands found))));
    }

pub returns-in-Some-clause-lists : goal.returns-in-Some-clause-lists
returns-in-Some-clause-lists c =
    let lists = c.args.self.now.lists in
    let schema = c.args.self.now.schema.tables in
    let found = sym c.in-Some.ensures.value in
    let there = rows_there lists c.args.table c.item_mut.result.now (within_lists schema lists c.args.table c.in-Some.table.now c.args.self.now.stands found) c.item_mut.ensures.value in
    ap (slice_set lists c.args.table) c.take_out_row.ensures
    ∙ lists_after-delete schema lists c.args.table c.in-Some.table.now c.args.like.now c.item_mut.result.now found there
