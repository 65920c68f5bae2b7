use Rattle.std.proofs.Common.{sym, ap, ◌∙◌, subst}
use Rattle.std.specs.Prelude.{slice_index_or}
use Rattle.std.proofs.lemmas.Result.{err_from_is_err_and}
use Rattle.voy_disk.specs.Images.{now_image}
use Rattle.voy_export.specs.Names.{csv_file}
use Rattle.voy_export.specs.Recording.{recording_of}
use Rattle.voy_export.specs.Snapshots.{ReadsTable}
use Rattle.voy_export.proofs.SnapshotTurns.{found_at, has_rows, holds_at_end, one_more, tables_more, turn_exported, turn_failed, turn_not_read}
use Rattle.voy_export.proofs.SnapshotWrites.{none_beside}
use Rattle.voy_meta.specs.Meta.{meta_state}
use Rattle.voy_export.proofs.tables.export_table.Goals as goal

pub returns-in_err-rows-clause-turns : goal.returns-in_err-rows-clause-turns
returns-in_err-rows-clause-turns g c = λ fs is.
    let tables = c.args.schema.now.tables in
    let table = c.index-as_slice-number.result in
    let found = found_at tables c.args.number table table c.requires.within (c.index-as_slice-number.is ∙ ap (λ xs. slice_index_or xs c.args.number table) c.as_slice.ensures) in
    let failed = err_from_is_err_and c.from_residual.result c.from_residual.ensures.1 in
    rw (failed.1, failed.2) (turn_not_read tables (now_image fs) c.args.number c.args.sum c.in_err-rows.field-0.0 table (meta_state c.args.meta.now) (g.D.Disk.files c.args.export.now) found c.requires.next
    (c.in_err-rows.ensures.stops fs is))

pub returns-in_err-rows-clause-tables : goal.returns-in_err-rows-clause-tables
returns-in_err-rows-clause-tables g c = holds_at_end c.from_residual.result c.requires.tables

pub returns-in_err-rows-clause-others : goal.returns-in_err-rows-clause-others
returns-in_err-rows-clause-others g c = none_beside c.args.schema.now.tables _

pub returns-in_err-write_snapshot-clause-turns : goal.returns-in_err-write_snapshot-clause-turns
returns-in_err-write_snapshot-clause-turns g c = λ fs is.
    let tables = c.args.schema.now.tables in
    let table = c.index-as_slice-number.result in
    let rows = c.as_slice-2.result.now in
    let found = found_at tables c.args.number table table c.requires.within (c.index-as_slice-number.is ∙ ap (λ xs. slice_index_or xs c.args.number table) c.as_slice.ensures) in
    let reads : ReadsTable table c.args.sum (now_image fs (csv_file table)) rows c.in_ok-rows.field-0.sum =
    subst (λ rows. ReadsTable table c.args.sum (now_image fs (csv_file table)) rows c.in_ok-rows.field-0.sum) (sym c.as_slice-2.ensures) (c.in_ok-rows.ensures.reads fs is) in
    let failed = err_from_is_err_and c.from_residual-in_err-write_snapshot.result c.from_residual-in_err-write_snapshot.ensures.1 in
    rw (failed.1, failed.2) (turn_failed tables (now_image fs) c.args.number c.args.sum c.in_ok-rows.field-0.sum c.in_err-write_snapshot.field-0.0 table rows (meta_state c.args.meta.now) (meta_state c.write_snapshot.new.meta)
    (g.D.Disk.files c.args.export.now) (g.D.Disk.files c.write_snapshot.new.export) found c.requires.next reads c.in_err-write_snapshot.ensures.unnamed c.in_err-write_snapshot.ensures.prefix
    (c.in_err-write_snapshot.ensures.moves (recording_of tables (now_image fs)) (has_rows tables (now_image fs) c.args.number c.args.sum c.in_ok-rows.field-0.sum table rows found reads)))

pub returns-clause-turns : goal.returns-clause-turns
returns-clause-turns g c = λ fs is.
    let tables = c.args.schema.now.tables in
    let table = c.index-as_slice-number.result in
    let rows = c.as_slice-2.result.now in
    let found = found_at tables c.args.number table table c.requires.within (c.index-as_slice-number.is ∙ ap (λ xs. slice_index_or xs c.args.number table) c.as_slice.ensures) in
    let reads : ReadsTable table c.args.sum (now_image fs (csv_file table)) rows c.in_ok-rows.field-0.sum =
    subst (λ rows. ReadsTable table c.args.sum (now_image fs (csv_file table)) rows c.in_ok-rows.field-0.sum) (sym c.as_slice-2.ensures) (c.in_ok-rows.ensures.reads fs is) in
    let done = c.in_ok-write_snapshot.ensures in
    turn_exported tables (now_image fs) c.args.number c.args.sum c.in_ok-rows.field-0.sum table rows (meta_state c.args.meta.now) (meta_state c.write_snapshot.new.meta)
    (g.D.Disk.files c.args.export.now) (g.D.Disk.files c.write_snapshot.new.export) found c.requires.next reads done.state done.all
    (done.moves (recording_of tables (now_image fs)) (has_rows tables (now_image fs) c.args.number c.args.sum c.in_ok-rows.field-0.sum table rows found reads))

pub returns-clause-counts : goal.returns-clause-counts
returns-clause-counts g c = one_more (meta_state c.args.meta.now) (meta_state c.write_snapshot.new.meta) _ c.args.number _ c.requires.next c.in_ok-write_snapshot.ensures.state

pub returns-clause-tables : goal.returns-clause-tables
returns-clause-tables g c = λ some. tables_more (meta_state c.args.meta.now) (meta_state c.write_snapshot.new.meta) _ c.args.number _ c.in_ok-write_snapshot.ensures.state
