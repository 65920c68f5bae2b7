use Rattle.std.proofs.Common.{rules, tests, ◌∙◌, sym}
use Rattle.std.proofs.lemmas.Iterator.{YieldsList-from_slice}
use Rattle.std.proofs.lemmas.Iterator.Search.{all_from_yields_List}
use Rattle.std.proofs.lemmas.List.Folds.{list_all-map}
use Rattle.voy_schema.specs.Lawful.{is_name}
use Rattle.voy_schema.specs.declared.stated.StatedColumn.{StatedColumn}
use Rattle.voy_schema.proofs.rules.have_names.Goals as goal

pub returns : goal.returns
returns c =
    all_from_yields_List (λ (column : StatedColumn). is_name column.name) _ _ c.all.result c.all.ensures.ran
    (YieldsList-from_slice c.args.columns.now c.iter.ensures.rest) (λ x b q k. search (rules, tests))
    ∙ sym (list_all-map is_name (λ (column : StatedColumn). column.name) c.args.columns.now)
