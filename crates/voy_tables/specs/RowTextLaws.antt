-- The text of rows is put together of the texts of the rows, and none of these is empty.
use Rattle.std.specs.Prelude.{◌≡◌, ◌≤◌, ◌+◌, ℕ, List, [], ◌∷◌, ◌++◌, length, map, if◌then◌else◌}
use Rattle.std.proofs.Common.{append_assoc, ap, arith, refl, sym, ◌∙◌}
use Rattle.std.proofs.lemmas.List.{length-append}
use Rattle.csv.specs.Writing.{default_writer, is_blank, row_body}
use Rattle.voy_schema.specs.declared.value.Value.{Value}
use Rattle.voy_tables.specs.RowText.{field_of, row_line, row_lines}

pub row_lines-append : (first rest : List (List Value)) → row_lines (first ++ rest) ≡ row_lines first ++ row_lines rest
row_lines-append [] rest = refl
row_lines-append (row ∷ first) rest =
    ap (λ text. row_line row ++ text) (row_lines-append first rest) ∙ sym (append_assoc (row_line row) (row_lines first) (row_lines rest))

pub row_line-some : (row : List Value) → 1 ≤ length (row_line row)
unfolding row_line
row_line-some row =
    let body = row_body default_writer (map field_of row) in
    let quotes : List ℕ = if is_blank default_writer (map field_of row) then 34 ∷ 34 ∷ [] else [] in
    let whole : length (row_line row) ≡ length body + (length quotes + 1) = length-append body (quotes ++ 10 ∷ []) ∙ ap (λ n. length body + n) (length-append quotes (10 ∷ [])) in
    omega (arith, whole)
