-- An event has few entries.
use Rattle.std.specs.Prelude.{◌≡◌, ◌≤◌, ℕ, zero, suc, Bool, true, false, List, [], ◌∷◌, Option, Some, None, is_some, length, map, refl, slice_get, if◌then◌else◌}
use Rattle.std.specs.List.{filter, list_all}
use Rattle.std.proofs.Common.{ap, arith, sym, subst}
use Rattle.std.proofs.lemmas.Bool.{and_parts}
use Rattle.std.proofs.lemmas.List.FromFn.{length-range_with_len}
use Rattle.voy_schema.specs.Lawful.{is_lawful_table}
use Rattle.voy_schema.specs.LawfulLaws.{table_parts}
use Rattle.voy_schema.specs.declared.table.Table.{Table}
use Rattle.voy_order.specs.ChangeEvents.{ChangeEvent}
use Rattle.voy_order.specs.Conflicts.{released, unique_keys_in, unique_keys_of}
use Rattle.voy_conflict.specs.Cache.{change_at, entries_by, released_keys}
use Rattle.voy_conflict.specs.Laws.{EntriesAreFew}
use Rattle.voy_conflict.specs.declared.entry.Entry.{Entry}

filter_shorter : {A : Type 0} (test : A → Bool) (xs : List A) → length (filter test xs) ≤ length xs
filter_shorter test [] = omega arith
filter_shorter test (x ∷ xs) = by (test x) (filter_shorter test xs)
  where
    by : (b : Bool) → length (filter test xs) ≤ length xs → length (if b then x ∷ filter test xs else filter test xs) ≤ suc (length xs)
    by true h = omega arith
    by false h = omega arith

pub length_map : {A B : Type 0} (f : A → B) (xs : List A) → length (map f xs) ≡ length xs
length_map f [] = refl
length_map f (x ∷ xs) = ap suc (length_map f xs)

few_keys : (schema : List Table) (table : ℕ) → list_all is_lawful_table schema ≡ true → unique_keys_in (slice_get schema table) ≤ 8
few_keys [] table lawful = omega arith
few_keys (t ∷ schema) zero lawful = (table_parts t (and_parts _ _ lawful).0).most_unique_keys
few_keys (t ∷ schema) (suc table) lawful = few_keys schema table (and_parts _ _ lawful).1

few_released : (schema : List Table) (e : ChangeEvent) → list_all is_lawful_table schema ≡ true → length (released_keys schema e) ≤ 8
few_released schema e lawful =
    by (length (released_keys schema e)) (length (unique_keys_of schema e.change.row.table)) (unique_keys_in (slice_get schema e.change.row.table))
    (filter_shorter (λ unique. is_some (released schema unique e.change)) (unique_keys_of schema e.change.row.table))
    (length-range_with_len 0 (unique_keys_in (slice_get schema e.change.row.table)))
    (few_keys schema e.change.row.table lawful)
  where
    by : (a b c : ℕ) → a ≤ b → b ≡ c → c ≤ 8 → a ≤ 8
    by a b c first same few = omega arith

few_by : (schema : List Table) (at : ℕ) (e : Option ChangeEvent) → list_all is_lawful_table schema ≡ true → length (entries_by schema at e) ≤ 8
few_by schema at None lawful = omega arith
few_by schema at (Some e) lawful =
    subst (λ n. n ≤ 8) (sym (length_map (λ unique. entry at unique) (released_keys schema e))) (few_released schema e lawful)
  where
    entry : ℕ → ℕ → Entry
    entry at unique = record { at = at; unique = unique }

-- an event has at most eight entries, by a lawful schema
pub entries_few : EntriesAreFew
entries_few schema events at lawful = few_by schema at (change_at schema events at) (and_parts _ _ (and_parts _ _ lawful).0).1
