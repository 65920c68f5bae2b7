use Rattle.std.proofs.Common.{arith, ◌∙◌, ◌++◌, ◌+◌, ap, sym, length, drop, take, length-append, refl, vec_len}
use Rattle.voy_disk.specs.Files.{bytes_now}
use Rattle.voy_files.specs.Bytes.{held}
use Rattle.voy_files.proofs.Pieces.{moved_before}
use Rattle.voy_files.proofs.piece.ByteReader.take.Goals as goal

pub loop-self-preserved : goal.loop-self-preserved
loop-self-preserved g c =
    let part = c.loop-self.part.items in
    let longer = c.take_held.new.to.items in
    let filled = c.fill.new.self in
    let taken = c.take_held.new.self in
    let clauses = c.in_ok-take_held.ensures in
    record {
      so_far = λ fs is.
          let bytes = bytes_now (fs c.args.name.now) in
          c.loop-self.invariant.so_far fs is ∙ ap (λ rest. part ++ rest) (sym (c.in_ok-fill.ensures.unread fs (c.loop-self.invariant.same ∙ is)))
          ∙ moved_before part longer (held filled) (held taken) (drop filled.at (take filled.end bytes)) (drop taken.at (take taken.end bytes))
          clauses.moves (rw (clauses.at, clauses.end) refl);
      size = omega (arith, clauses.count);
      stands = λ offset start.
          let here = c.in_ok-fill.ensures.stands (offset + vec_len c.loop-self.part) (c.loop-self.invariant.stands offset start) in
          omega (
            arith,
            here,
            clauses.at,
            ap length clauses.moves,
            length-append longer (held taken),
            length-append part (held filled),
            c.loop-self.part.ok.0,
            c.take_held.new.to.ok.0,
          );
      fewer = omega (
        arith,
        clauses.at,
        clauses.end,
        c.in_ok-fill.ensures.fewer,
        c.loop-self.invariant.fewer,
        ap length clauses.moves,
        length-append longer (held taken),
        length-append part (held filled),
        c.loop-self.part.ok.0,
        c.take_held.new.to.ok.0,
      );
      same = c.in_ok-fill.ensures.same ∙ c.loop-self.invariant.same;
      later = omega (arith, c.in_ok-fill.ensures.cause.later);
      lender = c.in_ok-fill.ensures.lender ∙ c.loop-self.invariant.lender;
    }

pub returns-clause-stands : goal.returns-clause-stands
returns-clause-stands g c = λ offset stands.
    let here = c.loop-self.invariant.stands offset stands in
    omega (arith, here, c.loop-self.invariant.size, c.loop-self-test.false)
