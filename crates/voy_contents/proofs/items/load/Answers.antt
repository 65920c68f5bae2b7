use Rattle.std.proofs.Common.{List, subst}
use Rattle.std.proofs.lemmas.Result.{err_from_is_err_and}
use Rattle.voy_schema.specs.declared.value.Value.{Value}
use Rattle.voy_contents.proofs.DoneLemmas.{are_loaded, stopped_reason}
use Rattle.voy_tables.specs.Folds.{first_misfit}
use Rattle.voy_txn.specs.Commits.{HasReason}
use Rattle.voy_txn.specs.Items.{inserts_from}
use Rattle.voy_contents.proofs.items.load.Goals as goal

pub returns-in_err-fill-in-Ok-clause-reason : goal.returns-in_err-fill-in-Ok-clause-reason
returns-in_err-fill-in-Ok-clause-reason c =
    let schema = c.args.schema.now.tables in
    let all = inserts_from 0 c.args.lists.now in
    let failed = err_from_is_err_and c.from_residual.result c.from_residual.ensures.1 in
    rw (failed.1, failed.2)
    (subst (λ (lists : List (List (List Value))). HasReason (first_misfit schema lists 0 all) c.in_err-fill-in-Ok.field-0.0) c.in-Ok.ensures.empty
    (stopped_reason schema all c.in-Ok.made c.in_err-fill-in-Ok.field-0.0 c.in_err-fill-in-Ok.ensures.stopped))

pub returns-in_ok-fill-in-Ok-clause-done : goal.returns-in_ok-fill-in-Ok-clause-done
returns-in_ok-fill-in-Ok-clause-done c =
    are_loaded c.args.schema.now.tables (inserts_from 0 c.args.lists.now) c.in-Ok.made c.fill.new.tables c.in-Ok.ensures.empty c.in_ok-fill-in-Ok.ensures.done
