-- The tests for the same key, value, tuple and row say exactly that both are equal.
use Rattle.std.specs.Prelude.{◌≡◌, ◌&&◌, ◌==◌, ℕ, Bool, true, false, List, Option, Some, None, if◌then◌else◌, not, refl}
use Rattle.std.specs.Bool.{Decides}
use Rattle.std.specs.Cmp.Lexicographic.{bytes_decides, pointwise_decides}
use Rattle.std.proofs.Common.{ap, sym}
use Rattle.std.proofs.lemmas.Bool.{and_from, and_parts, eqb-true, eq-eqb}
use Rattle.std.proofs.lemmas.Bool.Decides.{same_from_decides}
use Rattle.std.proofs.lemmas.Option.{same_Some}
use Rattle.voy_schema.specs.declared.value.Value.{Value}
use Rattle.voy_schema.specs.declared.value.Value.TheVariants.{Null, Text}
use Rattle.voy_tables.specs.Changes.{RowId}
use Rattle.voy_tables.specs.Keys.{same_key, same_tuple, same_value, same_values}
use Rattle.voy_tables.specs.Tables.{same_row_id}

pub same_key-decides : (a b : List (List ℕ)) → Decides (same_key a b) (a ≡ b)
unfolding same_key
same_key-decides = pointwise_decides bytes_decides

pub same_key-sym : (a b : List (List ℕ)) → same_key a b ≡ same_key b a
same_key-sym a b = same_from_decides (same_key a b) (same_key b a) (same_key-decides a b) (λ h. sym ((same_key-decides b a).0 h), λ e. (same_key-decides b a).1 (sym e))

pub same_value-decides : (a b : Value) → Decides (same_value a b) (a ≡ b)
same_value-decides Null Null = (λ h. refl, λ h. refl)
same_value-decides Null (Text b) = (λ h. cc, λ h. cc)
same_value-decides (Text a) Null = (λ h. cc, λ h. cc)
same_value-decides (Text a) (Text b) = (λ h. ap Text ((bytes_decides a b).0 h), λ h. (bytes_decides a b).1 (cc))

pub same_values-decides : (a b : List Value) → Decides (same_values a b) (a ≡ b)
same_values-decides = pointwise_decides same_value-decides

-- what two rows hold of one unique key is the same exactly where it is equal, a tuple or none
pub same_tuple-decides : (a b : Option (List Value)) → Decides (same_tuple a b) (a ≡ b)
unfolding same_tuple
same_tuple-decides None None = (λ h. refl, λ h. refl)
same_tuple-decides None (Some b) = (λ h. cc, λ h. cc)
same_tuple-decides (Some a) None = (λ h. cc, λ h. cc)
same_tuple-decides (Some a) (Some b) = (λ h. ap Some ((same_values-decides a b).0 h), λ h. (same_values-decides a b).1 (same_Some a b h))

-- what two rows hold, by whether their tuples count
pub same_tuple-by_counts : (a b : Bool) (us vs : List Value)
    → same_tuple (if a then Some us else None) (if b then Some vs else None) ≡ (if a then b && same_values us vs else not b)
unfolding same_tuple
same_tuple-by_counts true true us vs = refl
same_tuple-by_counts true false us vs = refl
same_tuple-by_counts false true us vs = refl
same_tuple-by_counts false false us vs = refl

pub same_row_id-decides : (p q : RowId) → Decides (same_row_id p q) (p ≡ q)
unfolding same_row_id
same_row_id-decides p q = (there, back) where
  there : same_row_id p q ≡ true → p ≡ q
  there h = λ i. record { table = eqb-true p.table q.table (and_parts (p.table == q.table) (same_key p.key q.key) h).0 i; key = (same_key-decides p.key q.key).0 (and_parts (p.table == q.table) (same_key p.key q.key) h).1 i }

  back : p ≡ q → same_row_id p q ≡ true
  back e = and_from (p.table == q.table) (same_key p.key q.key) (eq-eqb p.table q.table (ap (λ (r : RowId). r.table) e)) ((same_key-decides p.key q.key).1 (ap (λ (r : RowId). r.key) e))
