use Rattle.std.proofs.Common.{◌≡◌, Some, rules, sym}
use Rattle.std.proofs.lemmas.Map.Text.{btree_map_updates_text}
use Rattle.std.proofs.lemmas.Result.{on_err_weaker, on_ok_weaker}
use Rattle.std.specs.BTreeMap.{get_by_text}
use Rattle.voy_disk.specs.MemFiles.{Overwrote}
use Rattle.voy_disk.proofs.Updates.{changes, put_back}
use Rattle.voy_disk.proofs.memory.changes.write_in.Goals as goal

pub write-requires-clause-at : goal.write-requires-clause-at
write-requires-clause-at c =
    let was : get_by_text c.args.files.now c.args.name.now ≡ Some c.unwrap-file.result.now = sym (rw (c.unwrap-file.ensures, c.as_str.ensures.text) at c.get_mut.ensures.value) in
    rw was at c.requires.there

pub returns-clause-ok : goal.returns-clause-ok
returns-clause-ok c =
    let was : get_by_text c.args.files.now c.args.name.now ≡ Some c.unwrap-file.result.now = sym (rw (c.unwrap-file.ensures, c.as_str.ensures.text) at c.get_mut.ensures.value) in
    let updates = rw c.as_str.ensures.text at (btree_map_updates_text c.as_str.result.now c.args.files.now (c.get_mut.follows.lender c.write.new.self) _ ((c.get_mut.follows.holds c.write.new.self).3 (search rules))) in
    on_ok_weaker c.write.result (λ is. changes (Overwrote c.args.at c.args.bytes.now c.args.count) c.args.files.now (c.get_mut.follows.lender c.write.new.self) c.args.name.now c.unwrap-file.result.now c.write.new.self was updates is) c.write.ensures.ok

pub returns-clause-err : goal.returns-clause-err
returns-clause-err c =
    let was : get_by_text c.args.files.now c.args.name.now ≡ Some c.unwrap-file.result.now = sym (rw (c.unwrap-file.ensures, c.as_str.ensures.text) at c.get_mut.ensures.value) in
    let updates = rw c.as_str.ensures.text at (btree_map_updates_text c.as_str.result.now c.args.files.now (c.get_mut.follows.lender c.write.new.self) _ ((c.get_mut.follows.holds c.write.new.self).3 (search rules))) in
    on_err_weaker c.write.result (λ same. put_back c.args.files.now (c.get_mut.follows.lender c.write.new.self) c.args.name.now c.unwrap-file.result.now c.write.new.self was updates same) c.write.ensures.err
