-- The order of places.
use Rattle.std.proofs.Common.{◌≡◌, true, false, arith}
use Rattle.std.proofs.lemmas.Bool.Decides.{nat_tests}
use Rattle.voy_feed.specs.Kept.{is_before}
use Rattle.voy_tables.specs.declared.change.Spot.{Spot}

-- it is transitive
pub before_on : (a b c : Spot) → is_before a b ≡ true → is_before b c ≡ true → is_before a c ≡ true
before_on a b c first second = grind (arith, nat_tests, first, second)

-- a place that does not stand in front of another, but of a third: that other stands in front of the third
pub before_past : (a b c : Spot) → is_before a b ≡ false → is_before a c ≡ true → is_before b c ≡ true
before_past a b c not_first second = grind (arith, nat_tests, not_first, second)

-- no place stands in front of itself
pub not_before_itself : (a : Spot) → is_before a a ≡ false
not_before_itself a = grind (arith, nat_tests)
