use Rattle.std.proofs.Common.{rules, tests, ◌∙◌, sym, String, Global, string_bytes}
use Rattle.std.proofs.lemmas.Iterator.{YieldsList-from_slice}
use Rattle.std.proofs.lemmas.Iterator.Search.{any_from_yields_List}
use Rattle.voy_words.specs.Reading.{is_dashes}
use Rattle.voy_words.proofs.WordLemmas.{list_any-map}
use Rattle.voy_words.proofs.reading.has_dashes.Goals as goal

pub returns : goal.returns
returns c =
    any_from_yields_List (λ (word : String Global). is_dashes (string_bytes word)) _ _ c.any.result c.any.ensures.ran
    (YieldsList-from_slice c.args.words.now c.iter.ensures.rest) (λ x b q k. search (rules, tests))
    ∙ sym (list_any-map is_dashes (λ (word : String Global). string_bytes word) c.args.words.now)
