use Rattle.std.proofs.Common.{◌≡◌, ◌<◌, ℕ, get_or, arith}
use Rattle.voy_schema.proofs.AbbreviationLemmas.{abbreviates_of_bytes}
use Rattle.voy_schema.proofs.abbreviating.first_bytes.Goals as goal

pub returns : goal.returns
returns c =
    abbreviates_of_bytes
    c.args.bytes.now
    c.from_be_bytes.result
    (small c.byte_at.result 0 c.byte_at.ensures c.byte_at.type_inv, (small c.byte_at-2.result 1 c.byte_at-2.ensures c.byte_at-2.type_inv, (small c.byte_at-3.result 2 c.byte_at-3.ensures c.byte_at-3.type_inv, (small c.byte_at-4.result 3 c.byte_at-4.ensures c.byte_at-4.type_inv, (small c.byte_at-5.result 4 c.byte_at-5.ensures c.byte_at-5.type_inv, (small c.byte_at-6.result 5 c.byte_at-6.ensures c.byte_at-6.type_inv, (small c.byte_at-7.result 6 c.byte_at-7.ensures c.byte_at-7.type_inv, (small c.byte_at-8.result 7 c.byte_at-8.ensures c.byte_at-8.type_inv, tt))))))))
    (omega (arith, c.from_be_bytes.ensures, c.byte_at.ensures, c.byte_at-2.ensures, c.byte_at-3.ensures, c.byte_at-4.ensures, c.byte_at-5.ensures, c.byte_at-6.ensures, c.byte_at-7.ensures, c.byte_at-8.ensures))
  where
    small : (byte at : ℕ) → byte ≡ get_or c.args.bytes.now at 0 → byte < 256 → get_or c.args.bytes.now at 0 < 256
    small byte at is below = omega (arith, is, below)
