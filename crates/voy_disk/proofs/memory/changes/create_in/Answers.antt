use Rattle.std.proofs.Common.{◌≡◌, [], false, refl, sym}
use Rattle.std.proofs.lemmas.Map.Text.{btree_map_updates_text}
use Rattle.std.specs.BTreeMap.{get_by_text}
use Rattle.std.specs.Prelude.{is_some}
use Rattle.voy_disk.specs.File.{settled}
use Rattle.voy_disk.specs.MemFiles.{file_of}
use Rattle.voy_disk.proofs.Updates.{makes}
use Rattle.voy_disk.proofs.memory.changes.create_in.Goals as goal

pub returns-clause-ok : goal.returns-clause-ok
returns-clause-ok c =
    let empty : file_of c.in_ok-file.file ≡ settled [] = rw (c.in_ok-file.ensures.bytes, c.in_ok-file.ensures.safe, c.in_ok-file.ensures.touched) refl in
    let sets = rw (c.in_ok-key.ensures.ok, c.as_str-2.ensures.text) at (btree_map_updates_text _ c.args.files.now c.insert.new.self _ c.in_ok-insert.ensures.updates) in
    let free : is_some (get_by_text c.args.files.now c.args.name.now) ≡ false = sym (rw c.as_str.ensures.text at c.if-contains_key.ensures) in
    makes c.args.files.now c.insert.new.self c.args.name.now c.in_ok-file.file free sets empty
