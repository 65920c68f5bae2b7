use Rattle.std.proofs.Common.{◌≡◌, Some, rules, sym}
use Rattle.std.proofs.lemmas.Map.Text.{btree_map_updates_text}
use Rattle.std.proofs.lemmas.Result.{on_err_weaker, on_ok_weaker}
use Rattle.std.specs.BTreeMap.{get_by_text}
use Rattle.voy_disk.specs.Calls.{Synced}
use Rattle.voy_disk.proofs.Updates.{changes, put_back}
use Rattle.voy_disk.proofs.memory.changes.sync_in.Goals as goal

pub returns-clause-ok : goal.returns-clause-ok
returns-clause-ok c =
    let was : get_by_text c.args.files.now c.args.name.now ≡ Some c.unwrap-file.result.now = sym (rw (c.unwrap-file.ensures, c.as_str.ensures.text) at c.get_mut.ensures.value) in
    let updates = rw c.as_str.ensures.text at (btree_map_updates_text c.as_str.result.now c.args.files.now (c.get_mut.follows.lender c.sync.new.self) _ ((c.get_mut.follows.holds c.sync.new.self).3 (search rules))) in
    on_ok_weaker c.sync.result (λ is. changes (Synced) c.args.files.now (c.get_mut.follows.lender c.sync.new.self) c.args.name.now c.unwrap-file.result.now c.sync.new.self was updates is) c.sync.ensures.ok

pub returns-clause-err : goal.returns-clause-err
returns-clause-err c =
    let was : get_by_text c.args.files.now c.args.name.now ≡ Some c.unwrap-file.result.now = sym (rw (c.unwrap-file.ensures, c.as_str.ensures.text) at c.get_mut.ensures.value) in
    let updates = rw c.as_str.ensures.text at (btree_map_updates_text c.as_str.result.now c.args.files.now (c.get_mut.follows.lender c.sync.new.self) _ ((c.get_mut.follows.holds c.sync.new.self).3 (search rules))) in
    on_err_weaker c.sync.result (λ same. put_back c.args.files.now (c.get_mut.follows.lender c.sync.new.self) c.args.name.now c.unwrap-file.result.now c.sync.new.self was updates same) c.sync.ensures.err
