-- The texts of rows that are written one after the other.
use Rattle.std.proofs.Common.{◌≡◌, ◌≤◌, ◌<◌, ◌+◌, ℕ, List, [], ◌∷◌, ◌++◌, get_or, length, take, sym, ap, ◌∙◌, arith}
use Rattle.std.proofs.lemmas.List.{append-nil, length-append, take_more}
use Rattle.voy_schema.specs.declared.value.Value.{Value}
use Rattle.voy_tables.specs.RowText.{row_line, row_lines}
use Rattle.voy_tables.specs.RowTextLaws.{row_line-some, row_lines-append}

pub lines_more : (rows : List (List Value)) (i : ℕ) (row : List Value) → i < length rows → row ≡ get_or rows i row
    → row_lines (take (i + 1) rows) ≡ row_lines (take i rows) ++ row_line row
lines_more rows i row within is =
    ap row_lines (take_more rows i row within ∙ ap (λ (x : List Value). take i rows ++ x ∷ []) (sym is)) ∙ row_lines-append (take i rows) (row ∷ [])
    ∙ ap (λ text. row_lines (take i rows) ++ text) (append-nil (row_line row))

-- no row's text is empty
pub few_rows : (rows : List (List Value)) → length rows ≤ length (row_lines rows)
few_rows [] = omega arith
few_rows (row ∷ rows) =
    let some = row_line-some row in
    let size = length-append (row_line row) (row_lines rows) in
    let rest = few_rows rows in
    omega (arith, some, size, rest)
