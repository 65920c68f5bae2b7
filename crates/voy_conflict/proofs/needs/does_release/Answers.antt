use Rattle.std.specs.Prelude.{slice_get}
use Rattle.std.specs.Option.{option_copied}
use Rattle.std.proofs.Common.{ap, sym, ◌∙◌}
use Rattle.voy_tables.specs.Changes.{row_change}
use Rattle.voy_order.specs.RowsLost.{unique_key_at}
use Rattle.voy_conflict.proofs.TupleLemmas.{releases_by_key, releases_none, releases_without}
use Rattle.voy_conflict.proofs.needs.does_release.Goals as goal

pub returns-in_default : goal.returns-in_default
returns-in_default c =
    releases_none c.args.schema.now.tables c.args.unique (row_change c.args.schema.now.tables c.args.change.now) c.args.row.now
    (sym c.released.ensures ∙ ap option_copied c.in_default.is)

pub returns-in-Some-unique_key : goal.returns-in-Some-unique_key
returns-in-Some-unique_key c =
    c.have_same_tuple.ensures
    ∙ releases_by_key c.args.schema.now.tables c.args.unique (row_change c.args.schema.now.tables c.args.change.now) c.in-Some-unique_key.key.now
    c.in-Some.lost.now c.args.row.now (sym c.released.ensures ∙ ap option_copied c.in-Some.is)
    (ap (λ table. unique_key_at (slice_get c.args.schema.now.tables table) c.args.unique) (sym c.table.ensures) ∙ sym c.unique_key.ensures
    ∙ ap option_copied c.in-Some-unique_key.is)

pub returns-in-None : goal.returns-in-None
returns-in-None c =
    releases_without c.args.schema.now.tables c.args.unique (row_change c.args.schema.now.tables c.args.change.now) c.args.row.now
    (ap (λ table. unique_key_at (slice_get c.args.schema.now.tables table) c.args.unique) (sym c.table.ensures) ∙ sym c.unique_key.ensures
    ∙ ap option_copied c.in-None.is)
