-- Texts of rows, one after the other.
use Rattle.std.proofs.Common.{◌≡◌, ℕ, ◌+◌, ◌<◌, List, [], ◌∷◌, ◌++◌, take, get_or, length, sym, ap, ◌∙◌, append_assoc, append-nil}
use Rattle.std.proofs.lemmas.List.{take_more}
use Rattle.voy_schema.specs.declared.value.Value.{Value}
use Rattle.voy_tables.specs.RowText.{row_line, row_lines}
use Rattle.voy_tables.specs.RowTextLaws.{row_lines-append}
use Rattle.voy_report.specs.Show.{Appends}

-- the texts of one row more
pub row_lines_more : (rows : List (List Value)) (i : ℕ) (row : List Value) → i < length rows → row ≡ get_or rows i row
    → row_lines (take (i + 1) rows) ≡ row_lines (take i rows) ++ row_line row
row_lines_more rows i row within is =
    ap row_lines (take_more rows i row within ∙ ap (λ r. take i rows ++ (r ∷ [])) (sym is))
    ∙ row_lines-append (take i rows) (row ∷ [])
    ∙ ap (λ t. row_lines (take i rows) ++ t) (append-nil (row_line row))

-- something more was put at the end
pub appends_on : (old mid new more : List ℕ) → Appends old mid → new ≡ mid ++ more → Appends old new
appends_on old mid new more so_far is = record { more = so_far.more ++ more; is = is ∙ ap (λ text. text ++ more) so_far.is ∙ append_assoc old so_far.more more }
