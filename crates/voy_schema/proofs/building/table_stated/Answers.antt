use Rattle.std.proofs.Common.{◌≡◌, ◌∙◌, sym, true}
use Rattle.std.specs.List.{list_all}
use Rattle.std.proofs.lemmas.Bool.{and_parts}
use Rattle.std.proofs.lemmas.List.Folds.{list_all-map}
use Rattle.voy_schema.specs.Reading.{is_column}
use Rattle.voy_schema.specs.declared.stated.StatedKey.{StatedKey}
use Rattle.voy_schema.proofs.building.table_stated.Goals as goal

pub unique_keys_of-requires-clause-keyed : goal.unique_keys_of-requires-clause-keyed
unique_keys_of-requires-clause-keyed c =
    let stated = c.args.stated in
    let known : list_all (λ (k : StatedKey). list_all (is_column stated.columns) k.columns) stated.unique_keys ≡ true =
    sym (list_all-map (list_all (is_column stated.columns)) (λ (k : StatedKey). k.columns) stated.unique_keys) ∙ (and_parts _ _ c.requires.keyed).1 in
    rw (c.as_slice-3.ensures, c.as_slice-among.ensures) known
