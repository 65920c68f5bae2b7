use Rattle.std.proofs.Common.{ℕ, List, length, nat_le, rules}
use Rattle.std.proofs.lemmas.List.Folds.{list_all-map}
use Rattle.voy_schema.specs.declared.stated.StatedKey.{StatedKey}
use Rattle.voy_schema.proofs.rules.has_whole_keys.Goals as goal

pub returns-then-has_item : goal.returns-then-has_item
returns-then-has_item c =
    rw (list_all-map (λ (key : List (List ℕ)). nat_le 1 (length key)) (λ (k : StatedKey). k.columns) c.args.stated.now.unique_keys) (search rules)
