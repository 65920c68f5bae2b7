use Rattle.std.proofs.Common.{◌≡◌, ℕ, List, [], ◌∷◌, ap, arith, drop, inl, inr, length, min, refl, rules, sym, ◌∙◌}
use Rattle.std.proofs.lemmas.Bool.{cases_lt}
use Rattle.std.proofs.lemmas.List.{drop_all}
use Rattle.std.proofs.lemmas.Slice.Zip.{zip_end}
use Rattle.serde_json.proofs.Views.{view-Object}
use Rattle.serde_json.specs.Data.{object, Members}
use Rattle.serde_json.specs.View.{members_view}
use Rattle.voy_schema.specs.declared.table.Column.{Column}
use Rattle.voy_schema.specs.declared.value.Value.{Value}
use Rattle.voy_event.specs.LineText.{with_columns}
use Rattle.voy_event.proofs.line_text.row_value.Goals as goal

no_value_left : (columns : List Column) (ms : Members) → with_columns columns [] ms ≡ ms
no_value_left [] ms = refl
no_value_left (c ∷ cs) ms = refl

-- nothing is put in where no column or no value is left
none_left : (n : ℕ) (columns : List Column) (row : List Value) (ms : Members) → n ≡ min (length columns) (length row)
    → with_columns (drop n columns) (drop n row) ms ≡ ms
none_left n columns row ms end = elim (cases_lt (length row) (length columns)) [
  | inl fewer ↦
      ap (λ vs. with_columns (drop n columns) vs ms) (drop_all n row (omega arith)) ∙ no_value_left (drop n columns) ms
  | inr enough ↦ ap (λ cs. with_columns cs (drop n row) ms) (drop_all n columns (omega arith))
]

pub returns : goal.returns
returns c =
    let end : length c.loop-column.yielded ≡ min (length c.args.columns.now) (length c.args.row.now) =
    zip_end c.args.columns.now c.args.row.now c.loop-column.yielded c.into_iter-column-iterator.result c.loop-column.column-iterator c.next.new.self
    c.next.result (search rules) (search rules) c.loop-column.yielded_by c.in-None.is c.next.ensures.steps in
    view-Object c.loop-column.found
    ∙ ap object (sym (c.loop-column.invariant ∙ none_left (length c.loop-column.yielded) c.args.columns.now c.args.row.now (members_view c.loop-column.found.entries) end))
