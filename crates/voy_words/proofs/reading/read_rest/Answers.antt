use Rattle.std.proofs.Common.{◌≡◌, ◌∙◌, false, map, string_bytes, sym}
use Rattle.std.specs.List.{list_any}
use Rattle.clap.specs.Simple.{app_of}
use Rattle.voy_words.specs.Reading.{is_dashes}
use Rattle.voy_words.proofs.CommandLemmas.{words_refused, words_taken}
use Rattle.voy_words.proofs.reading.read_rest.Goals as goal

pub returns-in-Ok : goal.returns-in-Ok
returns-in-Ok c =
    let plain : list_any is_dashes (map string_bytes c.args.rest.now) ≡ false = sym c.has_dashes.ensures ∙ c.if-has_dashes.false in
    c.command_by.ensures
    ∙ words_taken c.args.phrase (app_of c.in_ok-grammar.grammar) (map string_bytes c.args.rest.now) c.in-Ok.values c.in_ok-grammar.ensures plain
    c.in-Ok.ensures.matches c.in-Ok.ensures.kinds

pub returns : goal.returns
returns c =
    let plain : list_any is_dashes (map string_bytes c.args.rest.now) ≡ false = sym c.has_dashes.ensures ∙ c.if-has_dashes.false in
    words_refused c.args.phrase (app_of c.in_ok-grammar.grammar) (map string_bytes c.args.rest.now) c.in-Err.error c.in_ok-grammar.ensures plain
    c.in-Err.ensures.kinds (λ memory. c.in_default.not-OutOfMemory (c.kind.ensures ∙ memory))
