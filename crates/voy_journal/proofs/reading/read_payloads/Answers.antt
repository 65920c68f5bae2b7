use Rattle.std.proofs.Common.{arith, ◌∙◌, subst}
use Rattle.voy_disk.specs.Files.{bytes_now}
use Rattle.voy_files.specs.Bytes.{bytes_left, unread}
use Rattle.voy_journal.specs.Reading.{IsShort, Meets, Takes}
use Rattle.voy_journal.specs.declared.reading.Next.{Next}
use Rattle.voy_journal.proofs.Progress.{one_more, reads_on}
use Rattle.voy_journal.proofs.reading.read_payloads.Goals as goal

pub gates-preserved : goal.gates-preserved
gates-preserved g c =
    let payload = c.in-Payload.payload in
    let old = c.gates.reader in
    let new = c.next_of.new.reader in
    let fewer = subst (λ (next : Next). Takes next (bytes_left old) (bytes_left new)) c.in-Payload.is c.in_ok-payload.ensures.fewer in
    let short = subst IsShort c.in-Payload.is c.in_ok-payload.ensures.short in
    record {
      so_far = λ fs is counts long.
          let bytes = bytes_now (fs c.args.name.now) in
          let read = c.gates.invariant.so_far fs is counts long in
          let met = subst (λ (next : Next). Meets next (unread old bytes) (unread new bytes)) c.in-Payload.is
          (c.in_ok-payload.ensures.meets fs (c.gates.invariant.same ∙ is) read.gate) in
          reads_on c.gates.payloads c.push.new.self bytes (unread old bytes) met.0 payload.items (unread new bytes)
          read met.1 met.2 c.in_ok-push-in-Payload.ensures.ok;
      read = one_more c.gates.payloads c.push.new.self c.gates.gate payload.items c.len.result c.gates.invariant.read
          c.in_ok-push-in-Payload.ensures.ok (c.len.ensures ∙ payload.ok.0) (omega (arith, short, c.len.ensures));
      fewer = omega (arith, c.gates.invariant.fewer, fewer, c.len.ensures);
      same = c.in_ok-payload.ensures.same ∙ c.gates.invariant.same;
      later = omega (arith, c.in_ok-payload.ensures.cause.later);
      lender = c.in_ok-payload.ensures.lender ∙ c.gates.invariant.lender;
    }
