use Rattle.std.proofs.Common.{◌≡◌, refl}
use Rattle.std.proofs.lemmas.Map.Text.{btree_map_updates_text}
use Rattle.voy_disk.specs.MemFiles.{file_of}
use Rattle.voy_disk.specs.File.{settled}
use Rattle.voy_disk.proofs.Updates.{puts}
use Rattle.voy_disk.proofs.memory.files.put_in.Goals as goal

pub returns-clause-ok : goal.returns-clause-ok
returns-clause-ok c =
    let file_is : file_of c.in_ok-file.file ≡ settled c.args.bytes.now = rw (c.in_ok-file.ensures.bytes, c.in_ok-file.ensures.safe, c.in_ok-file.ensures.touched) refl in
    let sets = btree_map_updates_text _ c.args.files.now c.insert.new.self _ c.in_ok-insert.ensures.updates in
    puts c.args.files.now c.insert.new.self c.args.name.now c.args.bytes.now c.in_ok-file.file (rw (c.in_ok-key.ensures.ok, c.as_str.ensures.text) at sets) file_is
