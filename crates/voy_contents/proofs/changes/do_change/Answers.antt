use Rattle.std.proofs.Common.{◌≡◌, Some, ap, sym, ◌∙◌}
use Rattle.std.specs.Option.{option_copied}
use Rattle.std.specs.Prelude.{slice_get}
use Rattle.voy_contents.proofs.TableListLemmas.{keeps_key}
use Rattle.voy_tables.specs.Changes.{table_of}
use Rattle.voy_contents.proofs.changes.do_change.Goals as goal

pub change_at-requires-clause-in_place : goal.change_at-requires-clause-in_place
change_at-requires-clause-in_place c =
    let schema = c.args.schema.now.tables in
    let found : slice_get schema (table_of c.args.change.now) ≡ Some c.unwrap-of.result.now = ap (slice_get schema) (sym c.table-table.ensures) ∙ sym c.table.ensures.value ∙ ap option_copied c.unwrap-of.ensures in
    rw (c.in_ok-key.ensures, c.after-after.ensures) (keeps_key schema c.args.change.now c.unwrap-of.result.now found c.requires.well)

pub change_at-requires-clause-stands : goal.change_at-requires-clause-stands
change_at-requires-clause-stands c = λ m there.
    let schema = c.args.schema.now.tables in
    let found : slice_get schema c.table-table.result ≡ Some c.unwrap-of.result.now = sym c.table.ensures.value ∙ ap option_copied c.unwrap-of.ensures in
    c.requires.stand.each c.table-table.result c.unwrap-of.result.now m found there
