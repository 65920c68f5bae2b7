use Rattle.std.proofs.Common.{rules, tests, ℕ, not, ◌∙◌, sym}
use Rattle.std.proofs.lemmas.Iterator.{YieldsList-from_slice}
use Rattle.std.proofs.lemmas.Iterator.Search.{all_from_yields_List}
use Rattle.std.proofs.lemmas.List.Folds.{list_all-map}
use Rattle.voy_schema.specs.Rows.{is_null, value_at}
use Rattle.voy_schema.proofs.rows.has_no_null.Goals as goal

pub returns : goal.returns
returns c =
    let row = c.args.row.now in
    all_from_yields_List (λ (place : ℕ). not (is_null (value_at row place))) _ _ c.all.result c.all.ensures.ran
    (YieldsList-from_slice c.args.places.now c.iter.ensures.rest) (λ x b q k. search (rules, tests))
    ∙ sym (list_all-map (λ v. not (is_null v)) (value_at row) c.args.places.now)
