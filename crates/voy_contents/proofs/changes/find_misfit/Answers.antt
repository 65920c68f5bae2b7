use Rattle.std.proofs.Common.{◌≡◌, ◌<◌, IfOk, Some, arith, ap, length, subst, sym, ◌∙◌}
use Rattle.std.proofs.lemmas.Option.{slice_get_within}
use Rattle.std.specs.Prelude.{slice_get, slice_index_or}
use Rattle.voy_contents.proofs.ListLemmas.{get_at}
use Rattle.voy_contents.proofs.TableListLemmas.{change_is, misfit_at}
use Rattle.voy_contents.specs.MemTables.{rows_of}
use Rattle.voy_contents.specs.TableLists.{lists_of}
use Rattle.voy_tables.specs.Changes.{RowChange, after_of, before_of, table_of}
use Rattle.voy_tables.specs.Lists.{misfit_by, misfit_of, row_with_key, unique_misfit}
use Rattle.voy_contents.proofs.changes.find_misfit.Goals as goal

pub misfit-requires-clause-stands : goal.misfit-requires-clause-stands
misfit-requires-clause-stands c =
    let schema = c.args.schema.now.tables in
    let at = c.table-at.result in
    let found : slice_get schema at ≡ Some c.in-Some.of.now = sym c.in-Some.ensures.value in
    let within : at < length c.args.tables.now = omega (arith, slice_get_within schema at c.in-Some.of.now found, c.requires.as_many) in
    c.requires.each at c.in-Some.of.now c.index-as_slice-at.result found
    (get_at c.args.tables.now at c.index-as_slice-at.result within (c.index-as_slice-at.is ∙ ap (λ xs. slice_index_or xs at c.index-as_slice-at.result) c.as_slice.ensures))

pub returns-in_ok-key-in-Some : goal.returns-in_ok-key-in-Some
returns-in_ok-key-in-Some c =
    let schema = c.args.schema.now.tables in
    let change = c.args.change.now in
    let at = table_of change in
    let of = c.in-Some.of.now in
    let m = c.index-as_slice-at.result in
    let tables = c.args.tables.now in
    let found : slice_get schema at ≡ Some of = ap (slice_get schema) (sym c.table-at.ensures) ∙ sym c.in-Some.ensures.value in
    let within : at < length tables = omega (arith, slice_get_within schema at of found, c.requires.as_many) in
    let there : slice_get tables at ≡ Some m = get_at tables at m within
    (c.index-as_slice-at.is ∙ ap (λ xs. slice_index_or xs c.table-at.result m) c.as_slice.ensures ∙ ap (λ n. slice_index_or tables n m) c.table-at.ensures) in
    subst (λ x. IfOk c.misfit.result (λ found. found ≡ x))
    ((λ i. misfit_by (c.before-in-Some.ensures i) (row_with_key of c.in_ok-key-in-Some.key (rows_of m.rows)) (unique_misfit of c.in_ok-key-in-Some.key (c.after.ensures i) (rows_of m.rows)))
    ∙ sym (misfit_at schema (record { row = record { table = at; key = c.in_ok-key-in-Some.key }; before = before_of change; after = after_of change }) tables of m found there)
    ∙ ap (λ (rc : RowChange). misfit_of schema rc (lists_of tables)) (change_is schema change of c.in_ok-key-in-Some.key found c.in_ok-key-in-Some.ensures)) c.misfit.ensures
