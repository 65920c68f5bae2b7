-- The names of the files of a disk in memory.
use Rattle.std.proofs.Common.{◌≡◌, ◌∙◌, refl, subst, ℕ, List, [], ◌∷◌, ◌++◌, Bool, true, false, map, append_assoc, is_some, Less}
use Rattle.std.proofs.lemmas.List.Kept.{IsStrictlySortedBy-filter}
use Rattle.std.proofs.lemmas.Map.Text.{is_eq-slice_cmp}
use Rattle.std.proofs.lemmas.Map.Views.{any-filter_same}
use Rattle.std.proofs.lemmas.Slice.Eq.{bytes_eq-Decides}
use Rattle.std.specs.BTreeMap.{BTreeMap, IsOrdered, is_at, keys}
use Rattle.std.specs.Cmp.Lexicographic.{slice_cmp}
use Rattle.std.specs.List.{AllByRecursion, filter, list_all, list_any}
use Rattle.std.specs.List.Sorted.{IsStrictlySortedBy}
use Rattle.std.specs.Map.{keys_of, lookup}
use Rattle.std.specs.Option.{option_map}
use Rattle.std.specs.Ordering.{nat_cmp}
use Rattle.std.specs.Prelude.{String, string_bytes}
use Rattle.std.specs.Str.{bytes_eq}
use Rattle.std.specs.String.{string_cmp}
use Rattle.voy_disk.specs.Calls.{Lists}
use Rattle.voy_disk.specs.MemFiles.{file_of, files_of}
use Rattle.voy_disk.specs.Name.{is_name}
use Rattle.voy_disk.specs.declared.memory.file.MemFile.{MemFile}

-- the next text is a name
pub names_more : (names all rest : List (List ℕ)) (text : List ℕ) → is_name text ≡ true → names ++ filter is_name (text ∷ rest) ≡ all → (names ++ (text ∷ [])) ++ filter is_name rest ≡ all
names_more names all rest text valid so_far = append_assoc names (text ∷ []) (filter is_name rest) ∙ (rw valid at so_far)

-- or it is none
pub names_less : (names all rest : List (List ℕ)) (text : List ℕ) → is_name text ≡ false → names ++ filter is_name (text ∷ rest) ≡ all → names ++ filter is_name rest ≡ all
names_less names all rest text other so_far = rw other at so_far

-- with all others left out, only names are left
names_only : (texts : List (List ℕ)) → list_all is_name (filter is_name texts) ≡ true
names_only [] = refl
names_only (text ∷ texts) = by_test (is_name text) refl (names_only texts)
  where
    by_test : (valid : Bool) → is_name text ≡ valid → list_all is_name (filter is_name texts) ≡ true → list_all is_name (filter is_name (text ∷ texts)) ≡ true
    by_test true is rest = rw (is, is) rest
    by_test false is rest = rw is rest

module _ {Y : Type 0} where
  -- a text is among the keys where a file is found at it
  any_found : (name : List ℕ) (entries : List (String Y × MemFile)) → list_any (bytes_eq name) (map string_bytes (keys_of entries)) ≡ is_some (option_map file_of (lookup (is_at (λ k. slice_cmp nat_cmp name (string_bytes k))) entries))
  any_found name [] = refl
  any_found name (entry ∷ entries) = by_key (bytes_eq name (string_bytes entry.0)) refl (any_found name entries)
    where
      by_key : (same : Bool) → bytes_eq name (string_bytes entry.0) ≡ same → list_any (bytes_eq name) (map string_bytes (keys_of entries)) ≡ is_some (option_map file_of (lookup (is_at (λ k. slice_cmp nat_cmp name (string_bytes k))) entries)) → list_any (bytes_eq name) (map string_bytes (keys_of (entry ∷ entries))) ≡ is_some (option_map file_of (lookup (is_at (λ k. slice_cmp nat_cmp name (string_bytes k))) (entry ∷ entries)))
      by_key true here rest = rw (is_eq-slice_cmp name (string_bytes entry.0), here) refl
      by_key false apart rest = rw (is_eq-slice_cmp name (string_bytes entry.0), apart) rest

  all_above : (key : String Y) (keys : List (String Y)) → AllByRecursion (λ other. string_cmp key other ≡ Less) keys → AllByRecursion (λ other. slice_cmp nat_cmp (string_bytes key) other ≡ Less) (map string_bytes keys)
  all_above key [] above = tt
  all_above key (other ∷ others) above = (above.0, all_above key others above.1)

  texts_ascend : (keys : List (String Y)) → IsStrictlySortedBy string_cmp keys → IsStrictlySortedBy (slice_cmp nat_cmp) (map string_bytes keys)
  unfolding IsStrictlySortedBy
  texts_ascend [] ascend = tt
  texts_ascend (key ∷ keys) ascend = (all_above key keys ascend.0, texts_ascend keys ascend.1)

  -- the keys that are names are the names of all files, in byte order
  pub listed : (files : BTreeMap (String Y) MemFile) (names : List (List ℕ)) → IsOrdered string_cmp files → names ≡ filter is_name (map string_bytes (keys files)) → Lists (files_of files) names
  listed files names ordered are = record {
    has = λ name valid. rw are (any-filter_same (bytes_eq name) is_name true (λ text same. subst (λ n. is_name n ≡ true) ((bytes_eq-Decides name text).0 same) valid) (map string_bytes (keys files)) ∙ any_found name files.entries);
    valid = rw are (names_only (map string_bytes (keys files)));
    ascend = rw are (IsStrictlySortedBy-filter (slice_cmp nat_cmp) is_name (map string_bytes (keys files)) (texts_ascend (keys files) ordered));
  }
