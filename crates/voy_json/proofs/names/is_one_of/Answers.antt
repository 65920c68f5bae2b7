use Rattle.std.proofs.Common.{rules, tests, Bor, ℕ, List, ◌∙◌, sym, bytes_eq}
use Rattle.std.proofs.lemmas.Iterator.{YieldsList-from_slice}
use Rattle.std.proofs.lemmas.Iterator.Search.{any_from_yields_List}
use Rattle.voy_json.specs.NameLaws.{list_any-map}
use Rattle.voy_json.proofs.names.is_one_of.Goals as goal

pub returns : goal.returns
returns c =
    any_from_yields_List (λ (known : Bor (List ℕ)). bytes_eq c.args.name.now known.now) _ _ c.any.result c.any.ensures.ran
    (YieldsList-from_slice c.args.names.now c.iter.ensures.rest) (λ x b q k. search (rules, tests))
    ∙ sym (list_any-map (bytes_eq c.args.name.now) (λ (known : Bor (List ℕ)). known.now) c.args.names.now)
