-- The parts that a misfit is found by.
use Rattle.std.proofs.Common.{◌≡◌, ◌<◌, ◌+◌, ℕ, zero, suc, cond, sym, Bool, true, false, not, List, [], ◌∷◌, length, Option, Some, None, option_map, refl, ap, ◌∙◌, ltb, arith}
use Rattle.std.proofs.lemmas.Bool.{cond-false, cond-true, false_from_ne_true, le-ltb, lt-ltb}
use Rattle.std.proofs.lemmas.Option.{none-some, same_Some}
use Rattle.std.specs.List.{position, prefix_len}
use Rattle.std.specs.Prelude.{if◌then◌else◌, slice_get}
use Rattle.voy_schema.specs.declared.table.Table.{Table}
use Rattle.voy_schema.specs.declared.value.Value.{Value}
use Rattle.voy_schema.specs.declared.table.UniqueKey.{UniqueKey}
use Rattle.voy_tables.specs.Keys.{same_values}
use Rattle.voy_tables.specs.Lists.{is_taken, misfit_by, unique_misfit}
use Rattle.voy_tables.specs.SameLaws.{same_values-decides}
use Rattle.voy_tables.specs.declared.change.Misfit.{Misfit}
use Rattle.voy_tables.specs.declared.change.Misfit.TheVariants.{OtherRow, Unique}

-- a row that is gone takes no tuple
pub is_taken-None : (t : Table) (key : List (List ℕ)) (rows : List (List Value)) (u : UniqueKey) → is_taken t key None rows u ≡ false
is_taken-None t key rows u = refl

-- where no item passes, there is no first one
abbrev pub NonePasses : {X : Type 0} → (X → Bool) → List X → Type 0
NonePasses {X} p xs = (at : ℕ) (x : X) → slice_get xs at ≡ Some x → p x ≡ false

prefix_len-all : {X : Type 0} (p : X → Bool) (xs : List X) → NonePasses p xs → prefix_len (λ x. not (p x)) xs ≡ length xs
prefix_len-all p [] none = refl
prefix_len-all p (x ∷ xs) none = rw (none zero x refl, prefix_len-all p xs (λ at. none (suc at))) (omega arith)

pub position-none : {X : Type 0} (p : X → Bool) (xs : List X) → NonePasses p xs → position p xs ≡ None
position-none p xs none = cond-false _ _ _ (ap (λ n. ltb n (length xs)) (prefix_len-all p xs none) ∙ le-ltb _ _ (omega arith))

prefix_len-some : {X : Type 0} (p : X → Bool) (xs : List X) (at : ℕ) (x : X) → slice_get xs at ≡ Some x → p x ≡ true → prefix_len (λ x. not (p x)) xs < length xs
prefix_len-some p [] at x found passes = absurd (none-some x found)
prefix_len-some p (y ∷ xs) zero x found passes =
    let here : p y ≡ true = ap p (same_Some y x found) ∙ passes in
    rw here (omega arith)
prefix_len-some p (y ∷ xs) (suc at) x found passes = by (p y) (prefix_len-some p xs at x found passes)
  where
    by : (b : Bool) → prefix_len (λ x. not (p x)) xs < length xs → cond (not b) (1 + prefix_len (λ x. not (p x)) xs) 0 < suc (length xs)
    by true rest = omega arith
    by false rest = omega arith

pub position-none_passes : {X : Type 0} (p : X → Bool) (xs : List X) → position p xs ≡ None → NonePasses p xs
position-none_passes p xs none at x found = false_from_ne_true (p x) (λ passes.
    none-some _ (sym none ∙ cond-true _ _ _ (lt-ltb _ _ (prefix_len-some p xs at x found passes))))

pub unique_misfit-None : (t : Table) (key : List (List ℕ)) (rows : List (List Value)) → unique_misfit t key None rows ≡ None
unique_misfit-None t key rows = ap (option_map Unique) (position-none (is_taken t key None rows) t.unique_keys (λ _ u _. is_taken-None t key rows u))

-- the unique keys give no misfit exactly where none of their tuples is taken
pub unique_misfit-free : (t : Table) (key : List (List ℕ)) (after : Option (List Value)) (rows : List (List Value))
    → NonePasses (is_taken t key after rows) t.unique_keys → unique_misfit t key after rows ≡ None
unique_misfit-free t key after rows none = ap (option_map Unique) (position-none (is_taken t key after rows) t.unique_keys none)

option_map-none : {A B : Type 0} (f : A → B) (o : Option A) → option_map f o ≡ None → o ≡ None
option_map-none f None h = refl
option_map-none f (Some x) h = cc

pub unique_misfit-none : (t : Table) (key : List (List ℕ)) (after : Option (List Value)) (rows : List (List Value))
    → unique_misfit t key after rows ≡ None → NonePasses (is_taken t key after rows) t.unique_keys
unique_misfit-none t key after rows none =
    position-none_passes (is_taken t key after rows) t.unique_keys (option_map-none Unique (position (is_taken t key after rows) t.unique_keys) none)

-- a row that does not stand as it is said to has that misfit, whatever the unique keys say
pub misfit_by-first : (before there : Option (List Value)) (rest : Option Misfit) (m : Misfit) → misfit_by before there None ≡ Some m → misfit_by before there rest ≡ Some m
misfit_by-first None None rest m h = cc
misfit_by-first None (Some there) rest m h = h
misfit_by-first (Some before) None rest m h = h
misfit_by-first (Some before) (Some row) rest m h = or_other (same_values row before) h
  where
    or_other : (same : Bool) → (if same then None else Some OtherRow) ≡ Some m → (if same then rest else Some OtherRow) ≡ Some m
    or_other true h = cc
    or_other false h = h

-- and otherwise that of the unique keys
pub misfit_by-rest : (before there : Option (List Value)) (rest : Option Misfit) → misfit_by before there None ≡ None → misfit_by before there rest ≡ rest
misfit_by-rest None None rest h = refl
misfit_by-rest None (Some there) rest h = cc
misfit_by-rest (Some before) None rest h = cc
misfit_by-rest (Some before) (Some row) rest h = or_other (same_values row before) h
  where
    or_other : (same : Bool) → (if same then None else Some OtherRow) ≡ None → (if same then rest else Some OtherRow) ≡ rest
    or_other true h = refl
    or_other false h = cc

pub misfit_by-same : (before there : List Value) → there ≡ before → misfit_by (Some before) (Some there) None ≡ None
misfit_by-same before there h = rw ((same_values-decides there before).1 h) refl

pub misfit_by-other : (before there : List Value) → (there ≡ before → ⊥) → misfit_by (Some before) (Some there) None ≡ Some OtherRow
misfit_by-other before there h = rw (false_from_ne_true (same_values there before) (λ e. h ((same_values-decides there before).0 e))) refl

-- where the row that stands is no misfit, it is the one that is said
pub stands_as_said : (before there : Option (List Value)) → misfit_by before there None ≡ None → there ≡ before
stands_as_said None None h = refl
stands_as_said None (Some there) h = cc
stands_as_said (Some before) None h = cc
stands_as_said (Some before) (Some there) h = by (same_values there before) refl h where
  by : (same : Bool) → same_values there before ≡ same → (if same then None else Some OtherRow) ≡ None → (◌≡◌ {A = Option (List Value)} (Some there) (Some before))
  by true e g = ap Some ((same_values-decides there before).0 e)
  by false e g = cc

-- there is no misfit where the row stands as the change says and no tuple of its new row is taken
pub misfit_by-none : (before there : Option (List Value)) (rest : Option Misfit) → misfit_by before there rest ≡ None → (there ≡ before) × (rest ≡ None)
misfit_by-none None None rest h = (refl, h)
misfit_by-none None (Some there) rest h = cc
misfit_by-none (Some before) None rest h = cc
misfit_by-none (Some before) (Some there) rest h = by (same_values there before) refl h
  where
    by : (same : Bool) → same_values there before ≡ same → (if same then rest else Some OtherRow) ≡ None → (◌≡◌ {A = Option (List Value)} (Some there) (Some before)) × (rest ≡ None)
    by true e g = (ap Some ((same_values-decides there before).0 e), g)
    by false e g = cc

pub misfit_by-fits : (before there : Option (List Value)) → there ≡ before → misfit_by before there None ≡ None
misfit_by-fits None None h = refl
misfit_by-fits None (Some there) h = cc
misfit_by-fits (Some before) None h = cc
misfit_by-fits (Some before) (Some there) h = misfit_by-same before there (same_Some there before h)
