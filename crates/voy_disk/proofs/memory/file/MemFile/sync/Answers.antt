use Rattle.std.proofs.Common.{◌≡◌, ◌∙◌, ap, arith, length, refl}
use Rattle.voy_disk.proofs.Ranges.{lowest_below, synced_bytes}
use Rattle.voy_disk.proofs.memory.file.MemFile.sync.Goals as goal

pub slice_bounds-extend_from_slice-count : goal.slice_bounds-extend_from_slice-count
slice_bounds-extend_from_slice-count c =
    omega (arith, lowest_below c.len.result c.deref.result.now, c.lowest-low.ensures, c.len.ensures, c.args.self.now.bytes.ok.0, ap length c.deref-2.ensures.value)

pub slice_bounds-extend_from_slice-start : goal.slice_bounds-extend_from_slice-start
slice_bounds-extend_from_slice-start c =
    omega (arith, lowest_below c.len.result c.deref.result.now, c.lowest-low.ensures, c.len.ensures, c.args.self.now.bytes.ok.0, ap length c.deref-2.ensures.value)

-- what was made safe is what reads
all_safe : (c : goal.After-clear) → c.extend_from_slice.new.self.items ≡ c.args.self.now.bytes.items
all_safe c =
    let low = rw (c.len.ensures, c.args.self.now.bytes.ok.0, c.deref.ensures.value) at c.lowest-low.ensures in
    let joined = rw (c.truncate.ensures.items, c.reserve_exact.ensures.items, c.deref-2.ensures.value) at c.in_ok-extend_from_slice.ensures.items in
    joined ∙ synced_bytes c.args.self.now.bytes.items c.args.self.now.safe.items c.args.self.now.touched.items c.lowest-low.result low c.args.self.now.reads

pub invariant_of-self-2 : goal.invariant_of-self-2
invariant_of-self-2 c = record { reads = λ place untouched. rw (all_safe c) refl }

pub returns-clause-ok : goal.returns-clause-ok
returns-clause-ok c = rw (all_safe c.before, c.clear.ensures.items) refl
