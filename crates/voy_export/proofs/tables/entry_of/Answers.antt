use Rattle.std.proofs.Common.{◌≤◌, length, sym, subst}
use Rattle.voy_export.proofs.SnapshotTexts.{few_rows}
use Rattle.voy_export.proofs.tables.entry_of.Goals as goal

pub returns-clause-few : goal.returns-clause-few
returns-clause-few c = subst (λ text. length c.args.rows.now ≤ length text) (sym c.requires.text) (few_rows c.args.rows.now)
