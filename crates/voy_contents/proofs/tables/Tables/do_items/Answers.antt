use Rattle.std.proofs.Common.{arith}
use Rattle.voy_contents.proofs.ContentsLemmas.{kept_lists, stay_clean}
use Rattle.voy_txn.specs.SizeLaws.{items_are_few, load_is_narrow}
use Rattle.voy_contents.specs.TableLists.{lists_of}
use Rattle.voy_contents.specs.Tables.{schema_in}
use Rattle.voy_contents.proofs.tables.Tables.do_items.Goals as goal

pub go-requires-clause-narrow : goal.go-requires-clause-narrow
unfolding schema_in
go-requires-clause-narrow c = omega (arith, load_is_narrow c.args.self.now.schema.tables c.args.txn.now, c.requires.short)

pub go-requires-clause-few : goal.go-requires-clause-few
unfolding schema_in
go-requires-clause-few c = omega (arith, items_are_few c.args.self.now.schema.tables c.args.txn.now, c.requires.short)

pub invariant_of-self-clause-clean : goal.invariant_of-self-clause-clean
unfolding schema_in
invariant_of-self-clause-clean c =
    stay_clean c.lists_are_tables.ensures c.misfit_is_none_where_it_fits.ensures c.empty_lists_have_no_rows.ensures
    c.go.result c.args.self.now.schema.tables (lists_of c.args.self.now.tables) (lists_of c.go.new.tables) c.args.txn.now c.requires.lawful c.args.self.now.clean
    c.go.ensures.fits c.go.ensures.done (kept_lists c.go.result c.args.self.now.tables c.go.new.tables c.go.ensures.kept)
