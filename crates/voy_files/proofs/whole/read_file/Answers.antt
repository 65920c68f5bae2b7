use Rattle.std.proofs.Common.{◌<◌, ◌++◌, ◌∙◌, arith, ap, drop, length, length-append, sym, take}
use Rattle.voy_disk.specs.Files.{bytes_now}
use Rattle.voy_files.specs.Bytes.{held}
use Rattle.voy_files.proofs.Pieces.{moved_before}
use Rattle.voy_files.proofs.whole.read_file.Goals as goal

pub returns-in_default-clause-whole : goal.returns-in_default-clause-whole
returns-in_default-clause-whole g c = rw c.in_default.is at c.in_ok-reader.ensures.absent

pub pieces-init : goal.pieces-init
pieces-init g c = record {
  so_far = λ fs is. rw c.new-bytes.ensures.items (sym ((rw c.in-Some.is at c.in_ok-reader.ensures.absent) fs is));
  same = c.in_ok-reader.ensures.same;
  later = c.in_ok-reader.ensures.cause.later;
  lender = c.in_ok-reader.ensures.lender;
}

pub pieces-smaller : goal.pieces-smaller
pieces-smaller g c =
    let read = c.pieces.bytes.items in
    let longer = c.take_held.new.to.items in
    let filled = c.fill.new.self in
    let taken = c.take_held.new.self in
    let clauses = c.in_ok-take_held.ensures in
    let some : 0 < length (held filled) = c.in_ok-fill.ensures.held c.if-not-branch.false in
    omega (
      arith,
      clauses.at,
      clauses.end,
      clauses.count,
      c.in_ok-fill.ensures.fewer,
      ap length clauses.moves,
      length-append longer (held taken),
      length-append read (held filled),
      c.pieces.bytes.ok.0,
      c.take_held.new.to.ok.0,
      some,
    )

pub pieces-preserved : goal.pieces-preserved
pieces-preserved g c =
    let read = c.pieces.bytes.items in
    let longer = c.take_held.new.to.items in
    let filled = c.fill.new.self in
    let taken = c.take_held.new.self in
    let clauses = c.in_ok-take_held.ensures in
    record {
      so_far = λ fs is.
          let all = bytes_now (fs c.args.name.now) in
          c.pieces.invariant.so_far fs is ∙ ap (λ rest. read ++ rest) (sym (c.in_ok-fill.ensures.unread fs (c.pieces.invariant.same ∙ is)))
          ∙ moved_before read longer (held filled) (held taken) (drop filled.at (take filled.end all)) (drop taken.at (take taken.end all))
          clauses.moves (ap (λ at. drop at (take taken.end all)) clauses.at ∙ ap (λ end. drop filled.at (take end all)) clauses.end);
      same = c.in_ok-fill.ensures.same ∙ c.pieces.invariant.same;
      later = omega (arith, c.in_ok-fill.ensures.cause.later, c.pieces.invariant.later);
      lender = c.in_ok-fill.ensures.lender ∙ c.pieces.invariant.lender;
    }
