use Rattle.std.proofs.Common.{arith, sym, ap, ◌+◌, ◌∙◌}
use Rattle.std.specs.Prelude.{slice_index_or}
use Rattle.voy_meta.specs.declared.state.SnapshotState.{SnapshotState}
use Rattle.voy_export.proofs.SnapshotLoop.{one_sized, rows_more}
use Rattle.voy_export.proofs.snapshot.rows_in.Goals as goal

pub loop-snapshot-preserved : goal.loop-snapshot-preserved
loop-snapshot-preserved c =
    let none : SnapshotState = record { bytes = 0; rows = 0 } in
    let snaps = c.args.snapshots.now in
    let i = c.loop-snapshot.snapshot-index in
    let within = c.loop-snapshot-test.true in
    let before = c.loop-snapshot.invariant in
    let sized = one_sized snaps i none within c.requires.sized in
    record {
      rows = ap (λ n. n + (slice_index_or snaps i none).rows) before.rows ∙ sym (rows_more snaps i none within);
      few = omega (arith, before.few, sized.rows, sized.bytes);
    }
