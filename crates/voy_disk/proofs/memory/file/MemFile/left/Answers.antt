use Rattle.std.proofs.Common.{refl}
use Rattle.std.proofs.lemmas.Result.{IfOk-weaker}
use Rattle.voy_disk.specs.MemFiles.{IsLeftOf, file_of}
use Rattle.voy_disk.proofs.Crashes.{mixed_left}
use Rattle.voy_disk.proofs.memory.file.MemFile.left.Goals as goal

pub returns-then-place-eq0 : goal.returns-then-place-eq0
returns-then-place-eq0 c =
    IfOk-weaker c.mixed.result _ (IsLeftOf (file_of c.args.self.now)) (λ left is. mixed_left c.args.self.now left _ c.args.self.now.bytes.items c.args.self.now.safe.items c.args.self.now.reads (λ place untouched. refl) (rw (c.deref.ensures.value, c.deref-then-place-eq0.ensures.value) at is)) c.mixed.ensures

pub returns-else-place-eq0 : goal.returns-else-place-eq0
returns-else-place-eq0 c =
    IfOk-weaker c.mixed-else-place-eq0.result _ (IsLeftOf (file_of c.args.self.now)) (λ left is. mixed_left c.args.self.now left _ c.args.self.now.safe.items c.args.self.now.bytes.items (λ place untouched. refl) c.args.self.now.reads (rw (c.deref-else-place-eq0.ensures.value, c.deref-else-place-eq0-2.ensures.value) at is)) c.mixed-else-place-eq0.ensures
