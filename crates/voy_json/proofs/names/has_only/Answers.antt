use Rattle.std.proofs.Common.{rules, tests, Bor, Bool, ℕ, List, ◌∙◌, sym, ap, bytes_eq, map, String, Global, string_bytes}
use Rattle.std.specs.List.{list_all, list_any}
use Rattle.std.proofs.lemmas.Iterator.Consumers.{YieldsList-from_rest}
use Rattle.std.proofs.lemmas.Iterator.Search.{all_from_yields_List}
use Rattle.voy_json.specs.NameLaws.{all_names, names_of-object, names_of-other}
use Rattle.voy_json.proofs.names.has_only.Goals as goal

pub returns-in-Some : goal.returns-in-Some
returns-in-Some c =
    let is_known : List ℕ → Bool = λ key. list_any (bytes_eq key) (map (λ (name : Bor (List ℕ)). name.now) c.args.names.now) in
    all_from_yields_List (λ (key : String Global). is_known (string_bytes key)) _ _ c.all.result c.all.ensures.ran
    (YieldsList-from_rest _ c.keys.ensures.rest) (λ x b q k. search (rules, tests))
    ∙ sym (all_names is_known c.in-Some.members.now.entries)
    ∙ ap (list_all is_known) (sym (names_of-object _ _ c.in-Some.ensures))

pub returns-in-None : goal.returns-in-None
returns-in-None c = sym (ap (list_all _) (names_of-other _ c.in-None.ensures))
