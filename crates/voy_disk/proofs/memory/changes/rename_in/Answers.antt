use Rattle.std.proofs.Common.{◌∙◌, rules, sym}
use Rattle.std.proofs.lemmas.Map.Text.{btree_map_updates_text}
use Rattle.voy_disk.proofs.Updates.{empty_there, lent_some, renames, still_there}
use Rattle.voy_disk.proofs.memory.changes.rename_in.Goals as goal

pub unwrap-file-requires : goal.unwrap-file-requires
unwrap-file-requires c =
    let put = rw (c.in_ok-key.ensures.ok, c.as_str.ensures.text) at (btree_map_updates_text _ c.args.files.now c.insert.new.self _ c.in_ok-insert.ensures.updates) in
    rw (c.remove.ensures.value, c.as_str-2.ensures.text) (still_there c.args.files.now c.insert.new.self c.remove.new.self c.args.from.now c.args.to.now c.in_ok-empty.empty c.requires.there c.requires.free put)

pub unwrap-requires : goal.unwrap-requires
unwrap-requires c =
    let put = rw (c.in_ok-key.ensures.ok, c.as_str.ensures.text) at (btree_map_updates_text _ c.args.files.now c.insert.new.self _ c.in_ok-insert.ensures.updates) in
    let removed = rw c.as_str-2.ensures.text at (btree_map_updates_text _ c.insert.new.self c.remove.new.self _ c.remove.ensures.updates) in
    let empty = empty_there c.args.files.now c.insert.new.self c.remove.new.self c.args.from.now c.args.to.now c.in_ok-empty.empty c.requires.there c.requires.free put removed in
    lent_some c.get_mut.result c.in_ok-empty.empty (rw c.as_str-3.ensures.text at c.get_mut.ensures.value ∙ empty)

pub returns-clause-ok : goal.returns-clause-ok
returns-clause-ok c =
    let put = rw (c.in_ok-key.ensures.ok, c.as_str.ensures.text) at (btree_map_updates_text _ c.args.files.now c.insert.new.self _ c.in_ok-insert.ensures.updates) in
    let removed = rw c.as_str-2.ensures.text at (btree_map_updates_text _ c.insert.new.self c.remove.new.self _ c.remove.ensures.updates) in
    let set = rw c.as_str-3.ensures.text at (btree_map_updates_text c.as_str-3.result.now c.remove.new.self (c.get_mut.follows.lender c.unwrap-file.result) _ ((c.get_mut.follows.holds c.unwrap-file.result).3 (search rules))) in
    let found = sym (rw c.as_str-2.ensures.text at c.remove.ensures.value) ∙ c.unwrap-file.ensures in
    renames c.args.files.now c.insert.new.self c.remove.new.self c.args.from.now c.args.to.now c.in_ok-empty.empty c.requires.there c.requires.free put (c.get_mut.follows.lender c.unwrap-file.result) c.unwrap-file.result found removed set
