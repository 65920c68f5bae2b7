use Rattle.std.proofs.Common.{◌∙◌, ap, arith, sym}
use Rattle.voy_disk.specs.Files.{bytes_now}
use Rattle.voy_queue.specs.Opening.{behind_last_line}
use Rattle.voy_queue.proofs.OpeningLemmas.{counted_all}
use Rattle.voy_queue.proofs.last_line.behind_last_line.Goals as goal

pub returns-in_default-clause-offset : goal.returns-in_default-clause-offset
returns-in_default-clause-offset g c = λ fs is.
    sym (ap (λ found. behind_last_line (bytes_now found)) ((rw c.in_default.is at c.in_ok-reader.ensures.absent) fs is))

pub bytes-init : goal.bytes-init
bytes-init g c = record {
  counts = λ fs is.
      let whole = (rw c.in-Some.is at c.in_ok-reader.ensures.absent) fs is in
      sym (counted_all _ ∙ ap behind_last_line whole);
  few = (let few = rw c.in-Some.is at c.in_ok-reader.ensures.few in omega (arith, few));
  same = c.in_ok-reader.ensures.same;
  later = c.in_ok-reader.ensures.cause.later;
  lender = c.in_ok-reader.ensures.lender;
}
