use Rattle.std.proofs.Common.{◌≡◌, ◌≢◌, ◌≤◌, [], ◌∷◌, IsTrue, length}
use Rattle.voy_disk.specs.Calls.{Change}
use Rattle.voy_disk.specs.Files.{IfTold}
use Rattle.voy_disk.specs.Frames.{KeepsBeside, OneOf}
use Rattle.voy_disk.specs.Images.{ImagesOf, now_image}
use Rattle.voy_disk.specs.Steps.{StaysTold}
use Rattle.voy_export.specs.Calls.{snapshot_files}
use Rattle.voy_export.specs.Put.{AddsSnapshotRecords}
use Rattle.voy_export.specs.Snapshots.{LeadsTo, end_from}
use Rattle.voy_export.specs.declared.limits.TheConstants.{MAX_CSV_BYTES}
use Rattle.voy_meta.specs.Meta.{MetaStands, is_live, meta_name, meta_state}
use Rattle.voy_export.proofs.snapshot.export_tables.Given as goal

abbrev pub invariant-loop-number : goal.invariant-loop-number
invariant-loop-number g l =
    let schema = l.schema.tables in
    let old = meta_state l.fn.meta in
    let now = meta_state l.meta in
    record {
      few : l.sum ≤ MAX_CSV_BYTES;
      recorded : l.number ≤ length now.snapshots;
      most : length now.snapshots ≤ length schema;
      leads : IfTold (g.D.Disk.files l.fn.recording) (λ fs. LeadsTo schema (now_image fs) (end_from schema (now_image fs) (length old.snapshots) 0 0)
          (end_from schema (now_image fs) (length now.snapshots) l.number l.sum) old now (g.D.Disk.files l.fn.export) (g.D.Disk.files l.export));
      adds : AddsSnapshotRecords old now;
      tables : now.snapshots ≢ [] → now.tables ≡ length schema;
      live : IsTrue (is_live l.meta);
      stands : MetaStands l.meta (g.D.Disk.files l.export);
      others : Change (KeepsBeside (OneOf (meta_name ∷ snapshot_files schema))) (g.D.Disk.files l.fn.export) (g.D.Disk.files l.export);
      told : StaysTold (ImagesOf (g.D.Disk.files l.fn.export)) (ImagesOf (g.D.Disk.files l.export));
      same : g.D.Disk.files l.recording ≡ g.D.Disk.files l.fn.recording;
      lender_recording : g.D.Disk.lender l.recording ≡ g.D.Disk.lender l.fn.recording;
      lender_export : g.D.Disk.lender l.export ≡ g.D.Disk.lender l.fn.export;
      later_recording : g.D.Disk.faults l.fn.recording ≤ g.D.Disk.faults l.recording;
      later_export : g.D.Disk.faults l.fn.export ≤ g.D.Disk.faults l.export;
    }
