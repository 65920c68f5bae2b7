use Rattle.std.proofs.Common.{◌≡◌, ◌++◌, drop, option_map}
use Rattle.serde_json.specs.View.{items_view}
use Rattle.voy_schema.specs.Stated.{each}
use Rattle.voy_schema.proofs.json.each.Given as goal

-- what the items state is what those so far stated, and then what the rest states
abbrev pub invariant-loop-item : goal.invariant-loop-item
invariant-loop-item g l =
    each g.T.FromJson.stated (items_view l.items)
    ≡ option_map (λ more. l.found ++ more) (each g.T.FromJson.stated (items_view (drop l.item-index l.items)))
