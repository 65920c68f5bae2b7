use Rattle.std.proofs.Common.{◌+◌, arith}
use Rattle.voy_files.proofs.piece.ByteReader.take_number.Goals as goal

pub returns-clause-stands : goal.returns-clause-stands
returns-clause-stands g c = λ offset stands.
    let first = (rw c.in-Some.is at c.in_ok-first.ensures.stands) offset stands in
    let second = (rw c.in-Some-2.is at c.in_ok-second.ensures.stands) (offset + 1) first in
    let third = (rw c.in-Some-3.is at c.in_ok-third.ensures.stands) (offset + 1 + 1) second in
    let fourth = (rw c.in-Some-4.is at c.in_ok-fourth.ensures.stands) (offset + 1 + 1 + 1) third in
    omega (arith, fourth)
