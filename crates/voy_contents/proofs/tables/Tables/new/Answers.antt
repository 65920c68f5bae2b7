use Rattle.std.proofs.Common.{subst, sym}
use Rattle.voy_txn.specs.CleanLaws.{empty_are_clean}
use Rattle.voy_txn.specs.Commits.{AreCleanTables}
use Rattle.voy_contents.proofs.tables.Tables.new.Goals as goal

pub invariant_of-result-clause-clean : goal.invariant_of-result-clause-clean
invariant_of-result-clause-clean c =
    let schema = c.args.schema.tables in
    subst (AreCleanTables schema) (sym c.in_ok-tables.ensures.empty) (empty_are_clean c.empty_lists_have_no_rows.ensures schema)
