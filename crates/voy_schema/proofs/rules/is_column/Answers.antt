use Rattle.std.proofs.Common.{rules, tests, ◌∙◌, sym}
use Rattle.std.specs.Str.{bytes_eq}
use Rattle.std.proofs.lemmas.Iterator.{YieldsList-from_slice}
use Rattle.std.proofs.lemmas.Iterator.Search.{any_from_yields_List}
use Rattle.voy_json.specs.NameLaws.{list_any-map}
use Rattle.voy_schema.specs.declared.stated.StatedColumn.{StatedColumn}
use Rattle.voy_schema.proofs.rules.is_column.Goals as goal

pub returns : goal.returns
returns c =
    any_from_yields_List (λ (column : StatedColumn). bytes_eq c.args.name.now column.name) _ _ c.any.result c.any.ensures.ran
    (YieldsList-from_slice c.args.columns.now c.iter.ensures.rest) (λ x b q k. search (rules, tests))
    ∙ sym (list_any-map (bytes_eq c.args.name.now) (λ (column : StatedColumn). column.name) c.args.columns.now)
