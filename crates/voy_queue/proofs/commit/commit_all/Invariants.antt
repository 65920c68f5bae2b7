use Rattle.std.proofs.Common.{◌≡◌, ◌≤◌, IsTrue, drop, false, is_some, map, take, true}
use Rattle.voy_disk.specs.Calls.{Change}
use Rattle.voy_disk.specs.Files.{IfTold}
use Rattle.voy_disk.specs.Frames.{KeepsBeside, OneOf}
use Rattle.voy_disk.specs.Images.{ImagesOf}
use Rattle.voy_disk.specs.Steps.{Does, Follows}
use Rattle.voy_meta.specs.Allowed.{has_snapshot, writes}
use Rattle.voy_meta.specs.Meta.{MetaStands, is_live, meta_state}
use Rattle.voy_meta.specs.Sides.{leads_to, request_of}
use Rattle.voy_meta.specs.State.{state_after}
use Rattle.voy_queue.specs.Putting.{AreBehind, commit_of, end_of, entry_of, recorded_end}
use Rattle.voy_queue.specs.Shelf.{shelf_after, shelf_in}
use Rattle.voy_queue.specs.Writer.{AllStand, StandsIn, names_of}
use Rattle.voy_queue.proofs.commit.commit_all.Given as goal

abbrev pub invariant-loop-one : goal.invariant-loop-one
invariant-loop-one g l =
    let done = take l.one-index l.pending in
    let left = drop l.one-index l.pending in
    let old = meta_state l.fn.meta in
    let now = meta_state l.meta in
    record {
      state : now ≡ state_after old (map (entry_of l.role) done);
      end : recorded_end now l.role ≡ end_of (recorded_end old l.role) done;
      behind : AreBehind (recorded_end now l.role) left;
      snapshot : IsTrue (has_snapshot now);
      may : (recorded_end now l.role).ended ≡ false → IsTrue (writes now l.role);
      asked : (end_of (recorded_end now l.role) left).ended ≡ true → IsTrue (is_some (request_of (leads_to l.role) now));
      stands : MetaStands l.meta (g.D.Disk.files l.disk);
      live : IsTrue (is_live l.meta);
      file : IfTold (g.D.Disk.files l.disk) (StandsIn (recorded_end now l.role));
      files : IfTold (g.D.Disk.files l.disk) (AllStand done);
      images : Follows (Does shelf_in shelf_after (map (commit_of l.role) done)) (ImagesOf (g.D.Disk.files l.fn.disk)) (ImagesOf (g.D.Disk.files l.disk));
      others : Change (KeepsBeside (OneOf (names_of l.pending))) (g.D.Disk.files l.fn.disk) (g.D.Disk.files l.disk);
      later : g.D.Disk.faults l.fn.disk ≤ g.D.Disk.faults l.disk;
      lender : g.D.Disk.lender l.disk ≡ g.D.Disk.lender l.fn.disk;
    }
