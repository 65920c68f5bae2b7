-- The texts of tables, one table after the other.
use Rattle.std.proofs.Common.{◌≡◌, ℕ, zero, suc, ◌+◌, ◌<◌, true, List, [], ◌∷◌, ◌++◌, drop, get_or, length, slice_get, sym, ap, ◌∙◌, arith, add-one, append_assoc}
use Rattle.std.proofs.lemmas.Bool.{and_parts}
use Rattle.voy_schema.specs.declared.table.Table.{Table}
use Rattle.voy_schema.specs.declared.value.Value.{Value}
use Rattle.voy_tables.specs.Lists.{rows_in}
use Rattle.voy_tables.specs.Standing.{are_tables, is_table}
use Rattle.voy_report.specs.Show.{table_text, tables_text}

-- the part of the table at this place stands in front of those behind it
pub tables_text_turn : (schema : List Table) (lists : List (List (List Value))) (n : ℕ) (t : Table) → are_tables schema lists ≡ true
    → n < length schema → t ≡ get_or schema n t
    → tables_text (drop n schema) (drop n lists) ≡ table_text t (rows_in (slice_get lists n)) ++ tables_text (drop (n + 1) schema) (drop (n + 1) lists)
tables_text_turn schema lists n t stand within is = rw add-one (turn schema lists n stand within is) where
  turn : (schema : List Table) (lists : List (List (List Value))) (n : ℕ) → are_tables schema lists ≡ true
      → n < length schema → t ≡ get_or schema n t
      → tables_text (drop n schema) (drop n lists) ≡ table_text t (rows_in (slice_get lists n)) ++ tables_text (drop (suc n) schema) (drop (suc n) lists)
  turn [] lists n stand within is = grind arith
  turn (s ∷ schema) [] n stand within is = cc
  turn (s ∷ schema) (rows ∷ lists) zero stand within is = ap (λ table. table_text table rows ++ tables_text schema lists) (sym is)
  turn (s ∷ schema) (rows ∷ lists) (suc n) stand within is = turn schema lists n (and_parts (is_table s rows) (are_tables schema lists) stand).1 (omega arith) is

-- what was left in front stands at the end now
pub part_moved : (whole to left part rest new : List ℕ) → whole ≡ to ++ left → left ≡ part ++ rest → new ≡ to ++ part → whole ≡ new ++ rest
part_moved whole to left part rest new is split added =
    is ∙ ap (λ text. to ++ text) split ∙ sym (append_assoc to part rest) ∙ ap (λ text. text ++ rest) (sym added)
