-- Each record of a text takes a byte of it, so there are turns enough to read them all.
use Rattle.std.proofs.Common.{◌≡◌, ℕ, zero, suc, ◌+◌, ◌≤◌, ◌<◌, Bool, true, false, ◌||◌, List, [], ◌∷◌, ◌++◌, length, Option, Some, None, add-one, arith, refl, ap, subst}
use Rattle.std.specs.Prelude.{◌==◌, if◌then◌else◌}
use Rattle.std.proofs.lemmas.Option.{none-some, same_Some}
use Rattle.csv.specs.Machine.{Read, ends_at_end, field_after, fields_after, in_field, is_end, next_record, start_field, start_record, step}
use Rattle.csv.specs.Reading.{default_config, records_from, records_next}
use Rattle.csv.specs.declared.parser.Action.{Action}
use Rattle.csv.specs.declared.parser.Action.TheVariants as act
use Rattle.csv.specs.declared.parser.State.{State}
use Rattle.csv.specs.declared.parser.State.TheVariants as st
use Rattle.voy_tables.specs.Unread.{records_in}

-- a byte that ends a record leads to a state between records
abbrev EndsBetween : State × Action → Type 0
EndsBetween next = is_end next.1 ≡ true → ends_at_end next.0 ≡ false

choice : (b : Bool) (first rest : State × Action) → EndsBetween first → EndsBetween rest → EndsBetween (if b then first else rest)
choice true first rest f r = f
choice false first rest f r = r

in_field-ends : (c : ℕ) → EndsBetween (in_field default_config c)
in_field-ends c =
    choice (c == 44) _ _ (λ h. cc)
    (choice ((c == 13) || (c == 10)) _ _ (by (c == 13)) (λ h. cc))
  where
    by : (b : Bool) → EndsBetween (if b then st.AfterCr else st.StartRecord, act.EndRecord)
    by true h = refl
    by false h = refl

start_field-ends : (c : ℕ) → EndsBetween (start_field default_config c)
start_field-ends c = choice (c == 34) _ _ (λ h. cc) (in_field-ends c)

start_record-ends : (c : ℕ) → EndsBetween (start_record default_config c)
start_record-ends c = choice ((c == 13) || (c == 10)) _ _ (λ h. cc) (start_field-ends c)

step-ends : (s : State) (c : ℕ) → EndsBetween (step default_config s c)
step-ends st.StartRecord c = start_record-ends c
step-ends st.StartField c = start_field-ends c
step-ends st.InField c = in_field-ends c
step-ends st.InQuoted c = choice (c == 34) _ _ (λ h. cc) (λ h. cc)
step-ends st.InEscape c = λ h. cc
step-ends st.AfterQuote c = choice (c == 34) _ _ (λ h. cc) (in_field-ends c)
step-ends st.InComment c = choice (c == 10) _ _ (λ h. cc) (λ h. cc)
step-ends st.AfterCr c = choice (c == 10) _ _ (λ h. cc) (start_record-ends c)

-- what a record leaves: a state between records, and no more bytes than there were
pub record Leaves (bytes : List ℕ) (p : Read) : Type 0 where
  pub between : ends_at_end p.1 ≡ false
  pub fewer : length p.2 ≤ length bytes

pub next_record-leaves : (s : State) (fields : List (List ℕ)) (field bytes : List ℕ) (p : Read) → next_record default_config s fields field bytes ≡ Some p → Leaves bytes p
unfolding next_record
next_record-leaves s fields field [] p found = by (ends_at_end s) found
  where
    by : (b : Bool) → (if b then Some (fields ++ (field ∷ []), st.StartRecord, []) else None) ≡ Some p → Leaves [] p
    by true found = let same = same_Some _ p found in subst (Leaves []) same (record { between = refl; fewer = omega arith })
    by false found = absurd (none-some p found)
next_record-leaves s fields field (c ∷ rest) p found =
    by (is_end (step default_config s c).1) refl found
    (next_record-leaves (step default_config s c).0 (fields_after (step default_config s c).1 fields field) (field_after (step default_config s c).1 c field) rest p)
  where
    next : Option Read
    next = next_record default_config (step default_config s c).0 (fields_after (step default_config s c).1 fields field) (field_after (step default_config s c).1 c field) rest

    by : (b : Bool) → is_end (step default_config s c).1 ≡ b
        → (if b then Some (fields_after (step default_config s c).1 fields field, (step default_config s c).0, rest) else next) ≡ Some p
        → (next ≡ Some p → Leaves rest p) → Leaves (c ∷ rest) p
    by true e found more = subst (Leaves (c ∷ rest)) (same_Some _ p found) (record { between = step-ends s c e; fewer = omega arith })
    by false e found more = let left = more found in record { between = left.between; fewer = omega arith }

-- and fewer, where it began between records
next_record-shorter : (s : State) (bytes : List ℕ) (p : Read) → ends_at_end s ≡ false → next_record default_config s [] [] bytes ≡ Some p → length p.2 < length bytes
unfolding next_record
next_record-shorter s [] p between found = absurd (none-some p (rw between at found))
next_record-shorter s (c ∷ rest) p between found = by (is_end (step default_config s c).1) found
  where
    next : Option Read
    next = next_record default_config (step default_config s c).0 (fields_after (step default_config s c).1 [] []) (field_after (step default_config s c).1 c []) rest

    by : (b : Bool) → (if b then Some (fields_after (step default_config s c).1 [] [], (step default_config s c).0, rest) else next) ≡ Some p → length p.2 < suc (length rest)
    by true found = subst (λ (q : Read). length q.2 < suc (length rest)) (same_Some _ p found) (omega arith)
    by false found = let left = next_record-leaves _ _ _ rest p found in omega arith

-- more turns than bytes are enough
records_from-turns : (n m : ℕ) (s : State) (bytes : List ℕ) → ends_at_end s ≡ false → length bytes < n → length bytes < m
    → records_from default_config n s bytes ≡ records_from default_config m s bytes
unfolding records_from
records_from-turns zero m s bytes between few many = absurd (omega arith)
records_from-turns (suc n) zero s bytes between few many = absurd (omega arith)
records_from-turns (suc n) (suc m) s bytes between few many = by (next_record default_config s [] [] bytes) refl
    (λ p found. records_from-turns n m p.1 p.2 (next_record-leaves s [] [] bytes p found).between
    (let shorter = next_record-shorter s bytes p between found in omega arith) (let shorter = next_record-shorter s bytes p between found in omega arith))
  where
    by : (next : Option Read) → next_record default_config s [] [] bytes ≡ next
        → ((p : Read) → next_record default_config s [] [] bytes ≡ Some p → records_from default_config n p.1 p.2 ≡ records_from default_config m p.1 p.2)
        → records_next (records_from default_config n) next ≡ records_next (records_from default_config m) next
    by None e more = refl
    by (Some p) e more = ap (λ rest. p.0 ∷ rest) (more p e)

-- the first of the records that are left, and those behind it
pub records_in-next : (s : State) (bytes : List ℕ) (p : Read) → ends_at_end s ≡ false → next_record default_config s [] [] bytes ≡ Some p
    → records_in s (Some bytes) ≡ p.0 ∷ records_in p.1 (Some p.2)
unfolding records_from
records_in-next s bytes p between found =
    let shorter = next_record-shorter s bytes p between found in
    let leaves = next_record-leaves s [] [] bytes p found in
    rw (add-one (length bytes), found) (ap (λ rest. p.0 ∷ rest) (records_from-turns (length bytes) (length p.2 + 1) p.1 p.2 leaves.between (omega arith) (omega arith)))

pub records_in-none : (s : State) (bytes : List ℕ) → next_record default_config s [] [] bytes ≡ None → records_in s (Some bytes) ≡ []
unfolding records_from
records_in-none s bytes none = rw (add-one (length bytes), none)
