use Rattle.std.proofs.Common.{rules}
use Rattle.std.specs.List.{list_all}
use Rattle.std.proofs.lemmas.List.Folds.{list_all-map}
use Rattle.voy_schema.specs.Reading.{is_column}
use Rattle.voy_schema.specs.declared.stated.StatedKey.{StatedKey}
use Rattle.voy_schema.proofs.rules.has_known_columns.Goals as goal

pub returns-then-are_columns : goal.returns-then-are_columns
returns-then-are_columns c =
    let stated = c.args.stated.now in
    rw (list_all-map (list_all (is_column stated.columns)) (λ (k : StatedKey). k.columns) stated.unique_keys) (search rules)
