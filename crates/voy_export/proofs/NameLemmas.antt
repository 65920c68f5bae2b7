-- The files of tables: their names are file names, and are those of no other table and of no part of the queue.
use Rattle.std.proofs.Common.{◌≡◌, ◌≢◌, ◌≤◌, ◌+◌, ℕ, true, List, [], ◌∷◌, ◌++◌, length, refl, sym, ap, ◌∙◌, arith, rules, codes}
use Rattle.std.specs.List.{list_all}
use Rattle.std.proofs.lemmas.Bool.{and_parts, and_from, le-leb, leb-true}
use Rattle.std.proofs.lemmas.Bool.Decides.{nat_tests}
use Rattle.std.proofs.lemmas.List.{append_cancel_left, append_cancel_right, length-append}
use Rattle.voy_disk.specs.Name.{is_name, is_name_byte}
use Rattle.voy_export.specs.Names.{csv_file, snapshot_file}
use Rattle.voy_meta.specs.Meta.{meta_name}
use Rattle.voy_queue.specs.Names.{segment_name}
use Rattle.voy_schema.specs.Lawful as lawful
use Rattle.voy_schema.specs.Lawful.{is_byte_of_name, is_first_of_name, is_lawful_table}
use Rattle.voy_schema.specs.LawfulLaws.{table_parts}
use Rattle.voy_schema.specs.declared.table.Table.{Table}

byte_in_name : (b : ℕ) → is_byte_of_name b ≡ true → is_name_byte b ≡ true
byte_in_name b byte = grind (arith, nat_tests, byte)

first_in_name : (b : ℕ) → is_first_of_name b ≡ true → is_byte_of_name b ≡ true
first_in_name b first = grind (arith, nat_tests, first)

-- what a name of a schema is
pub record IsWord (word : List ℕ) : Type 0 where
  pub bytes : list_all is_byte_of_name word ≡ true
  pub some : 1 ≤ length word
  pub few : length word ≤ 63

pub word_of : (word : List ℕ) → lawful.is_name word ≡ true → IsWord word
word_of [] is = cc
word_of (b ∷ word) is =
    let outer = and_parts _ _ is in
    let inner = and_parts _ _ outer.0 in
    record {
      bytes = and_from _ _ (first_in_name b inner.0) inner.1;
      some = omega arith;
      few = leb-true _ _ outer.1;
    }

word_in_name : (word behind : List ℕ) → list_all is_byte_of_name word ≡ true → list_all is_name_byte behind ≡ true → list_all is_name_byte (word ++ behind) ≡ true
word_in_name [] behind bytes rest = rest
word_in_name (b ∷ word) behind bytes rest =
    let parts = and_parts _ _ bytes in
    and_from _ _ (byte_in_name b parts.0) (word_in_name word behind parts.1 rest)

csv_bytes : (a b : List ℕ) → IsWord a → IsWord b → list_all is_name_byte (a ++ (codes "." ++ (b ++ codes ".csv"))) ≡ true
csv_bytes a b first second = word_in_name a (codes "." ++ (b ++ codes ".csv")) first.bytes (word_in_name b (codes ".csv") second.bytes refl)

csv_length : (a b : List ℕ) → length (a ++ (codes "." ++ (b ++ codes ".csv"))) ≡ length a + (1 + (length b + 4))
csv_length a b =
    let outer = length-append a (codes "." ++ (b ++ codes ".csv")) in
    let inner = length-append b (codes ".csv") in
    omega (arith, outer, inner)

few_bytes : (bytes : List ℕ) → length bytes ≤ 255 → 3 ≤ length bytes → list_all is_name_byte bytes ≡ true → is_name bytes ≡ true
few_bytes [] few some all = absurd (omega (arith, some))
few_bytes (b ∷ []) few some all = absurd (omega (arith, some))
few_bytes (b ∷ c ∷ []) few some all = absurd (omega (arith, some))
few_bytes (b ∷ c ∷ d ∷ bytes) few some all =
    and_from _ _ (and_from _ _ (and_from _ _ (le-leb _ _ (omega (arith, some))) (le-leb _ _ few)) all) (search rules)

pub csv_is_named : (table : Table) → is_lawful_table table ≡ true → is_name (csv_file table) ≡ true
unfolding csv_file
csv_is_named table is =
    let parts = table_parts table is in
    let first = word_of table.schema_name parts.schema_name in
    let second = word_of table.table_name parts.table_name in
    let size = csv_length table.schema_name table.table_name in
    few_bytes (table.schema_name ++ (codes "." ++ (table.table_name ++ codes ".csv"))) (omega (arith, size, first.few, second.few)) (omega (arith, size, first.some, second.some)) (csv_bytes table.schema_name table.table_name first second)

pub snapshot_is_named : (table : Table) → is_lawful_table table ≡ true → is_name (snapshot_file table) ≡ true
unfolding snapshot_file csv_file
snapshot_is_named table is =
    let parts = table_parts table is in
    let first = word_of table.schema_name parts.schema_name in
    let second = word_of table.table_name parts.table_name in
    let size = csv_length table.schema_name table.table_name in
    let whole = length-append (codes "snapshot.") (table.schema_name ++ (codes "." ++ (table.table_name ++ codes ".csv"))) in
    few_bytes (codes "snapshot." ++ (table.schema_name ++ (codes "." ++ (table.table_name ++ codes ".csv")))) (omega (arith, whole, size, first.few, second.few)) (omega (arith, whole)) (csv_bytes table.schema_name table.table_name first second)

-- ---- one file, one table

heads : {x y : ℕ} {xs ys : List ℕ} → x ∷ xs ≡ y ∷ ys → x ≡ y
heads {x} {y} {xs} {ys} is = cc

tails : {x y : ℕ} {xs ys : List ℕ} → x ∷ xs ≡ y ∷ ys → xs ≡ ys
tails {x} {y} {xs} {ys} is = cc

no_dot : is_byte_of_name 46 ≡ true → ⊥
no_dot is = cc

-- up to its first dot a text is one word
pub word_is_one : (a b p q : List ℕ) → list_all is_byte_of_name a ≡ true → list_all is_byte_of_name b ≡ true → a ++ 46 ∷ p ≡ b ++ 46 ∷ q → (a ≡ b) × (p ≡ q)
word_is_one [] [] p q in_a in_b same = (refl, tails same)
word_is_one [] (y ∷ b) p q in_a in_b same =
    absurd (no_dot (ap is_byte_of_name (heads same) ∙ (and_parts _ _ in_b).0))
word_is_one (x ∷ a) [] p q in_a in_b same =
    absurd (no_dot (ap is_byte_of_name (sym (heads same)) ∙ (and_parts _ _ in_a).0))
word_is_one (x ∷ a) (y ∷ b) p q in_a in_b same =
    let rest = word_is_one a b p q (and_parts _ _ in_a).1 (and_parts _ _ in_b).1 (tails same) in
    (ap (λ head. head ∷ a) (heads same) ∙ ap (λ tail. y ∷ tail) rest.0, rest.1)

-- tables of one snapshot file have one name
pub one_snapshot_file : (a b : Table) → is_lawful_table a ≡ true → is_lawful_table b ≡ true → snapshot_file a ≡ snapshot_file b
    → (a.schema_name ≡ b.schema_name) × (a.table_name ≡ b.table_name)
unfolding snapshot_file csv_file
one_snapshot_file a b lawful_a lawful_b same =
    let parts_a = table_parts a lawful_a in
    let parts_b = table_parts b lawful_b in
    let behind : a.schema_name ++ (codes "." ++ (a.table_name ++ codes ".csv")) ≡ b.schema_name ++ (codes "." ++ (b.table_name ++ codes ".csv")) = append_cancel_left (codes "snapshot.") _ _ same in
    let names = word_is_one a.schema_name b.schema_name (a.table_name ++ codes ".csv") (b.table_name ++ codes ".csv")
    (word_of a.schema_name parts_a.schema_name).bytes (word_of b.schema_name parts_b.schema_name).bytes behind in
    (names.0, append_cancel_right a.table_name b.table_name (codes ".csv") names.1)

pub snapshot_is_no_meta : (table : Table) → snapshot_file table ≢ meta_name
unfolding snapshot_file meta_name
snapshot_is_no_meta table same = omega (arith, heads same)

pub snapshot_is_no_segment : (table : Table) (number : ℕ) → snapshot_file table ≢ segment_name number
unfolding snapshot_file segment_name
snapshot_is_no_segment table number same = omega (arith, heads (tails same))

pub segment_is_no_meta : (number : ℕ) → segment_name number ≢ meta_name
unfolding segment_name meta_name
segment_is_no_meta number same = omega (arith, heads same)
