use Rattle.std.proofs.Common.{◌≡◌, ◌≤◌, ◌*◌, take}
use Rattle.voy_export.specs.Calls.{all_rows}
use Rattle.voy_export.proofs.snapshot.rows_in.Given as goal

abbrev pub invariant-loop-snapshot : goal.invariant-loop-snapshot
invariant-loop-snapshot l = record {
  rows : l.rows ≡ all_rows (take l.snapshot-index l.snapshots);
  few : l.rows ≤ 1073741824 * l.snapshot-index;
}
