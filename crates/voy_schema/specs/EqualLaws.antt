-- Two values, or two lists of them, compare as equal exactly where they are the same.
use Rattle.std.specs.Prelude.{◌≡◌, List, refl}
use Rattle.std.specs.Bool.{Decides}
use Rattle.std.specs.Cmp.Lexicographic.{bytes_decides, pointwise, pointwise_decides}
use Rattle.std.proofs.Common.{ap}
use Rattle.voy_schema.specs.contracts.value.ValuePartialEq.TheImpl as value_equality
use Rattle.voy_schema.specs.declared.value.Value.{Value}
use Rattle.voy_schema.specs.declared.value.Value.TheVariants.{Null, Text}

pub value_eq-decides : (a b : Value) → Decides (value_equality.ghosts.eq a b) (a ≡ b)
value_eq-decides Null Null = (λ h. refl, λ h. refl)
value_eq-decides Null (Text b) = (λ h. cc, λ h. cc)
value_eq-decides (Text a) Null = (λ h. cc, λ h. cc)
value_eq-decides (Text a) (Text b) = (λ h. ap Text ((bytes_decides a b).0 h), λ h. (bytes_decides a b).1 (cc))

pub values_eq-decides : (a b : List Value) → Decides (pointwise value_equality.ghosts.eq a b) (a ≡ b)
values_eq-decides = pointwise_decides value_eq-decides
