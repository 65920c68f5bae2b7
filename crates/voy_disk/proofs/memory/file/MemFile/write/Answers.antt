use Rattle.voy_disk.specs.FileLaws.{untouched_front}
use Rattle.voy_disk.proofs.Ranges.{written_outside}
use Rattle.std.proofs.Common.{◌∙◌}
use Rattle.voy_disk.proofs.memory.file.MemFile.write.Goals as goal

pub invariant_of-self-2 : goal.invariant_of-self-2
invariant_of-self-2 c = record {
  reads = λ place untouched.
      let apart = untouched_front c.args.self.now.touched.items c.args.at c.args.count place (rw (c.push_reserved.ensures.items, c.reserve.ensures.items) at untouched) in
      rw c.in_ok-overwrite.ensures.ok (written_outside c.args.at c.args.count c.args.self.now.bytes.items c.args.bytes.now c.requires.at c.requires.count place apart.1) ∙ c.args.self.now.reads place apart.0;
}
