use Rattle.std.proofs.Common.{◌≡◌, [], ap, drop, sym, ◌∙◌}
use Rattle.std.proofs.lemmas.List.{drop_all}
use Rattle.serde_json.proofs.Views.{view-Object}
use Rattle.serde_json.specs.Data.{object}
use Rattle.serde_json.specs.View.{members_view}
use Rattle.voy_event.specs.LineText.{with_texts}
use Rattle.voy_event.proofs.line_text.key_value.Goals as goal

pub returns : goal.returns
returns c =
    let places = c.as_slice-place-items.result.now in
    let members = members_view c.loop-place.found.entries in
    let done : drop c.loop-place.place-index places ≡ [] = drop_all c.loop-place.place-index places c.loop-place-test.false in
    view-Object c.loop-place.found
    ∙ ap object
    (sym (ap (λ ps. with_texts c.args.table.now c.args.row.now ps _) (sym c.as_slice-place-items.ensures) ∙ c.loop-place.invariant
    ∙ ap (λ ps. with_texts c.args.table.now c.args.row.now ps members) done))
