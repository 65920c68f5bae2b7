-- Rows of a wrong width.
use Rattle.std.proofs.Common.{◌≡◌, ◌≢◌, refl, ap, false, List, [], ◌∷◌, length, suc}
use Rattle.std.proofs.lemmas.Bool.{and_right}
use Rattle.voy_schema.specs.Rows.{has_lawful_values}
use Rattle.voy_schema.specs.declared.table.Column.{Column}
use Rattle.voy_schema.specs.declared.value.Value.{Value}

pub has_lawful_values-other_width : (cs : List Column) (vs : List Value) → length cs ≢ length vs → has_lawful_values cs vs ≡ false
has_lawful_values-other_width [] [] differ = absurd (differ refl)
has_lawful_values-other_width [] (v ∷ vs) differ = refl
has_lawful_values-other_width (c ∷ cs) [] differ = refl
has_lawful_values-other_width (c ∷ cs) (v ∷ vs) differ =
    and_right _ _ (has_lawful_values-other_width cs vs (λ same. differ (ap suc same)))
