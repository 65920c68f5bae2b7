use Rattle.std.proofs.Common.{◌≡◌, ◌++◌, take, drop}
use Rattle.voy_event.specs.ByName.{with_place}
use Rattle.voy_event.proofs.by_name.put_place.Given as goal

abbrev pub invariant-loop-at : goal.invariant-loop-at
invariant-loop-at l = record {
  same : l.order ≡ l.fn.order;
  so_far : with_place l.columns l.place l.fn.order ≡ take l.at l.fn.order ++ with_place l.columns l.place (drop l.at l.fn.order);
}
