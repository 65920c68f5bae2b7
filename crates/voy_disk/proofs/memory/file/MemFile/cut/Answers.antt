use Rattle.std.proofs.Common.{◌∙◌}
use Rattle.voy_disk.specs.FileLaws.{untouched_front}
use Rattle.voy_disk.proofs.Ranges.{cut_outside}
use Rattle.voy_disk.proofs.memory.file.MemFile.cut.Goals as goal

pub invariant_of-self-2 : goal.invariant_of-self-2
invariant_of-self-2 c = record {
  reads = λ place untouched.
      let apart = untouched_front c.args.self.now.touched.items c.args.to _ place (rw (c.push_reserved.ensures.items, c.reserve.ensures.items) at untouched) in
      rw c.truncate.ensures.items (cut_outside c.args.to c.args.keep c.args.self.now.bytes.items c.requires.to c.requires.keep place (rw (c.len.ensures, c.args.self.now.bytes.ok.0) at apart.1)) ∙ c.args.self.now.reads place apart.0;
}
