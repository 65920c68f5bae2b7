use Rattle.std.proofs.lemmas.Map.Text.{btree_map_updates_text}
use Rattle.voy_disk.proofs.memory.crash.insert.Goals as goal

pub returns : goal.returns
returns c = btree_map_updates_text _ c.args.files.now c.insert.new.self _ c.in_ok-insert.ensures.updates
