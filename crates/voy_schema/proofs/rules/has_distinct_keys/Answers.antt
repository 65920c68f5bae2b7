use Rattle.std.proofs.Common.{rules}
use Rattle.std.specs.Str.{bytes_eq}
use Rattle.std.proofs.lemmas.List.Folds.{list_all-map}
use Rattle.voy_schema.specs.Lawful.{is_distinct}
use Rattle.voy_schema.specs.declared.stated.StatedKey.{StatedKey}
use Rattle.voy_schema.proofs.rules.has_distinct_keys.Goals as goal

pub returns-then-are_distinct : goal.returns-then-are_distinct
returns-then-are_distinct c =
    rw (list_all-map (is_distinct bytes_eq) (λ (k : StatedKey). k.columns) c.args.stated.now.unique_keys) (search rules)
