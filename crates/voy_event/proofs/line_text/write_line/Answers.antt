use Rattle.std.proofs.Common.{◌≡◌, ◌++◌, ◌∙◌, ℕ, List, OnOk, ap, subst}
use Rattle.serde_json.specs.Written.{compact_text, has_float}
use Rattle.voy_event.proofs.FloatLemmas.{event_has_no_float}
use Rattle.voy_event.specs.LineText.{line_text}
use Rattle.voy_event.proofs.line_text.write_line.Goals as goal

pub returns-clause-ok : goal.returns-clause-ok
unfolding line_text
returns-clause-ok c =
    let event = c.args.event.now in
    let whole = ap has_float c.in_ok-line.ensures ∙ event_has_no_float c.args.schema.now.tables event.vsn event.role event.what in
    let written : c.as_slice.result.now ≡ line_text c.args.schema.now.tables event =
    c.as_slice.ensures.value ∙ c.in_ok-text.ensures.text whole ∙ ap compact_text c.in_ok-line.ensures in
    subst (λ (bytes : List ℕ). OnOk c.append_slice.result (c.append_slice.new.self ≡ c.args.to.now ++ bytes)) written c.append_slice.ensures.ok
