-- Records behind records: what they read as, whether they are allowed, and what they come to.
use Rattle.std.specs.Prelude.{◌≡◌, ℕ, true, List, [], ◌∷◌, ◌++◌, Option, Some, None}
use Rattle.std.proofs.Common.{refl, ap, ◌∙◌}
use Rattle.std.proofs.lemmas.Bool.{and_parts}
use Rattle.std.specs.Option.{option_and_then, option_map}
use Rattle.voy_meta.specs.Allowed.{allowed_after, is_allowed}
use Rattle.voy_meta.specs.Meta.{records_of, records_told}
use Rattle.voy_meta.specs.Reading.{record_reading}
use Rattle.voy_meta.specs.State.{after_record, state_after}
use Rattle.voy_meta.specs.declared.record.MetaRecord.{MetaRecord}
use Rattle.voy_meta.specs.declared.state.MetaState.{MetaState}

-- told records with these more
abbrev pub more : List MetaRecord → Option (List MetaRecord) → Option (List MetaRecord)
more added told = option_map (λ (entries : List MetaRecord). entries ++ added) told

-- the records of payloads with more behind them
pub records_more : (payloads added : List (List ℕ)) (entries : List MetaRecord) → records_of added ≡ Some entries
    → records_of (payloads ++ added) ≡ more entries (records_of payloads)
records_more [] added entries are = are
records_more (payload ∷ payloads) added entries are = by (records_more payloads added entries are) (record_reading payload) where
  onto : (entry : MetaRecord) (told : Option (List MetaRecord))
      → option_map (λ (found : List MetaRecord). entry ∷ found) (more entries told) ≡ more entries (option_map (λ (found : List MetaRecord). entry ∷ found) told)
  onto entry None = refl
  onto entry (Some found) = refl

  by : records_of (payloads ++ added) ≡ more entries (records_of payloads) → (read : Option MetaRecord)
      → option_and_then (λ entry. option_map (λ (found : List MetaRecord). entry ∷ found) (records_of (payloads ++ added))) read
      ≡ more entries (option_and_then (λ entry. option_map (λ (found : List MetaRecord). entry ∷ found) (records_of payloads)) read)
  by behind None = refl
  by behind (Some entry) = ap (option_map (λ (found : List MetaRecord). entry ∷ found)) behind ∙ onto entry (records_of payloads)

pub told_more : (payloads : Option (List (List ℕ))) (added : List (List ℕ)) (entries : List MetaRecord) → records_of added ≡ Some entries
    → records_told (option_map (λ (found : List (List ℕ)). found ++ added) payloads) ≡ more entries (records_told payloads)
told_more None added entries are = refl
told_more (Some payloads) added entries are = records_more payloads added entries are

pub record_of_one : (payload : List ℕ) (entry : MetaRecord) → record_reading payload ≡ Some entry → records_of (payload ∷ []) ≡ Some (entry ∷ [])
record_of_one payload entry reads = rw reads refl

-- records behind others are allowed where these are, and those behind them
pub allowed_on : (state : MetaState) (entries behind : List MetaRecord) → allowed_after state entries ≡ true
    → allowed_after (state_after state entries) behind ≡ true → allowed_after state (entries ++ behind) ≡ true
allowed_on state [] behind first second = second
allowed_on state (entry ∷ entries) behind first second =
    let parts = and_parts (is_allowed state entry) (allowed_after (after_record state entry) entries) first in
    rw parts.0 (allowed_on (after_record state entry) entries behind parts.1 second)

-- what they come to
pub state_on : (state : MetaState) (entries behind : List MetaRecord)
    → state_after state (entries ++ behind) ≡ state_after (state_after state entries) behind
state_on state [] behind = refl
state_on state (entry ∷ entries) behind = state_on (after_record state entry) entries behind

pub allowed_one : (state : MetaState) (entry : MetaRecord) → is_allowed state entry ≡ true → allowed_after state (entry ∷ []) ≡ true
allowed_one state entry is = rw is refl
