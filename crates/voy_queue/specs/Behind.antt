-- That pending segments stand behind an end, and are closed, are propositions.
use Rattle.std.proofs.Common.{List, [], ◌∷◌}
use Rattle.std.proofs.Props.{props}
use Rattle.voy_queue.specs.Putting.{AreBehind, AreShut}
use Rattle.voy_queue.specs.declared.end.Added.{Added}
use Rattle.voy_queue.specs.declared.end.End.{End}

pub are_behind_prop : (end : End) (pending : List Added) → IsProp (AreBehind end pending)
are_behind_prop end [] = Prim.hlevel props
are_behind_prop end (one ∷ more) = Prim.hlevel (props, are_behind_prop one.end more)

pub are_shut_prop : (pending : List Added) → IsProp (AreShut pending)
are_shut_prop [] = Prim.hlevel props
are_shut_prop (one ∷ []) = Prim.hlevel props
are_shut_prop (one ∷ next ∷ more) = Prim.hlevel (props, are_shut_prop (next ∷ more))
