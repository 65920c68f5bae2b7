use Rattle.std.proofs.Common.{rules, tests, ◌∙◌, sym, ap, String, Global, string_bytes}
use Rattle.std.specs.List.{list_all}
use Rattle.std.proofs.lemmas.Iterator.Consumers.{YieldsList-from_rest}
use Rattle.std.proofs.lemmas.Iterator.Search.{all_from_yields_List}
use Rattle.voy_json.specs.NameLaws.{all_names, names_of-object, names_of-other}
use Rattle.voy_event.specs.Fields.{is_key_column}
use Rattle.voy_event.proofs.fields.has_only_key_columns.Goals as goal

pub returns-in-Some : goal.returns-in-Some
returns-in-Some c =
    all_from_yields_List (λ (key : String Global). is_key_column c.args.table.now (string_bytes key)) _ _ c.all.result c.all.ensures.ran
    (YieldsList-from_rest _ c.keys.ensures.rest) (λ x b q k. search (rules, tests))
    ∙ sym (all_names (is_key_column c.args.table.now) c.in-Some.members.now.entries)
    ∙ ap (list_all (is_key_column c.args.table.now)) (sym (names_of-object _ _ c.in-Some.ensures))

pub returns-in-None : goal.returns-in-None
returns-in-None c = sym (ap (list_all _) (names_of-other _ c.in-None.ensures))
