use Rattle.std.proofs.Common.{arith, refl}
use Rattle.voy_link.proofs.Members.{widened}
use Rattle.voy_link.proofs.chains.Chains.widen.Goals as goal

pub returns-in_err-widen-clause-members : goal.returns-in_err-widen-clause-members
returns-in_err-widen-clause-members c =
    λ n k ms had.
    widened n k c.args.self.now _ ms refl refl c.widen.ensures.widened (record { kept = λ at. refl; longer = omega arith })
    (omega (arith, c.widen.ensures.bound, had.ahead_ends, c.ranges.places.fits)) had.back_ends had

pub returns-clause-members : goal.returns-clause-members
returns-clause-members c =
    λ n k ms had.
    widened n k c.args.self.now _ ms refl refl c.widen.ensures.widened c.widen-2.ensures.widened
    (omega (arith, c.widen.ensures.bound, had.ahead_ends, c.ranges.places.fits)) (omega (arith, c.widen-2.ensures.bound, had.back_ends, c.ranges.places.fits)) had
