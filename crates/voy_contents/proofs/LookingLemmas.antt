-- Rows that are copied and counted, and rows that are looked up.
use Rattle.std.proofs.Common.{◌≡◌, ◌+◌, ◌<◌, ℕ, List, [], ◌∷◌, Option, length, map, refl, ap, subst, arith}
use Rattle.std.specs.List.{cons_option, filter_map}
use Rattle.std.specs.Prelude.{◌^◌}
use Rattle.voy_schema.specs.declared.value.Value.{Value}
use Rattle.voy_contents.specs.MemTables.{RowSlots, rows_of}
use Rattle.voy_txn.specs.History.{counted}

-- the rows that stand are those of the values of all places
pub standing_values : (slots : RowSlots) → filter_map (λ row. row) (map (λ s. s.1) slots) ≡ rows_of slots
standing_values [] = refl
standing_values (s ∷ slots) = ap (cons_option s.1) (standing_values slots)

-- a count in 64 bits of all rows is the one that is told
pub all_are_counted : (count : ℕ) (left : List (Option (List Value))) (rows : List (List Value)) → count < 2 ^ 64 → left ≡ []
    → counted (count + length (filter_map (λ row. row) left)) ≡ counted (length rows) → count ≡ counted (length rows)
all_are_counted count left rows small none is = omega (arith, small, subst (λ l. counted (count + length (filter_map (λ row. row) l)) ≡ counted (length rows)) none is)
