use Rattle.std.proofs.Common.{◌≡◌, ◌∙◌, ap₂, sym}
use Rattle.serde_json.specs.Data.{no_members}
use Rattle.voy_event.specs.ByName.{members_at, value_in}
use Rattle.voy_event.specs.LineText.{with_texts}
use Rattle.voy_event.proofs.ByNameLemmas.{key_by_name}
use Rattle.voy_event.proofs.PieceLemmas.{same_members}
use Rattle.voy_event.proofs.same_line.behind_key.Goals as goal

pub returns : goal.returns
returns c =
    let t = c.args.table.now in
    let row = c.args.row.now in
    let same : members_at c.as_slice.result.now (value_in row) c.as_slice-2.result.now ≡ with_texts t row t.primary_key no_members =
    ap₂ (λ columns places. members_at columns (value_in row) places) c.as_slice.ensures (c.as_slice-2.ensures ∙ c.requires.order)
    ∙ sym (key_by_name t row c.requires.lawful c.requires.row) in
    same_members c.args.line.now _ _ c.behind_values.result same c.behind_values.ensures
