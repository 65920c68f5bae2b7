-- A payload reads as its record, and bytes that read as a record are its payload.
use Rattle.std.proofs.Common.{◌≡◌, ℕ, ◌^◌, ◌<◌, Bool, true, false, cond, eqb, List, [], ◌∷◌, ◌++◌, length, Option, Some, None, refl, sym, ap, subst, ◌∙◌, arith}
use Rattle.std.proofs.lemmas.Bool.{eqb-true}
use Rattle.std.proofs.lemmas.List.{append-nil, length-append}
use Rattle.voy_tables.specs.declared.change.Role.{Role}
use Rattle.voy_tables.specs.declared.change.Side.{Side}
use Rattle.voy_tables.specs.declared.change.Spot.{Spot}
use Rattle.voy_meta.specs.PayloadLaws.{IsRecord, PayloadsAreShort}
use Rattle.voy_meta.specs.Reading.{◌>>=◌, Read, byte_at, channels_of, done_of, finished_of, long_at, number_at, place_at, queue_of, record_reading, request_of, role_of, said_at, snapshot_of, truth_of, version_of, whole}
use Rattle.voy_meta.specs.Records.{long, number, payload_of, place_bytes, role_byte, side_byte, truth_byte}
use Rattle.voy_meta.specs.declared.record.MetaRecord.{MetaRecord}
use Rattle.voy_meta.specs.declared.record.MetaRecord.TheVariants.{Version, Snapshot, Queue, Request, Channels, Finished, Done, Loaded}
use Rattle.voy_meta.proofs.FieldLemmas.{AreBytes, AreBytes-behind, IsField, bind_some, byte_field, long_field, long_length, number_field, number_length, place_field, role_field, side_field, truth_field}

-- ---- what was read is a payload

-- these bytes are the payload of a record, whose numbers are in their ranges
abbrev Was : MetaRecord → List ℕ → Type 0
Was entry bytes = (payload_of entry ≡ bytes) × IsRecord entry

-- one field in front of the others: `front` stands in front of it
took : {A : Type 0} {at : List ℕ → Read A} {text : A → List ℕ} {InRange : A → Type 0} → IsField at text InRange
    → (bytes : List ℕ) → AreBytes bytes → (behind : A × List ℕ → Option MetaRecord) (entry : MetaRecord) → (at bytes >>= behind) ≡ Some entry
    → (front : List ℕ → List ℕ)
    → ((x : A) (rest : List ℕ) → InRange x → AreBytes rest → behind (x, rest) ≡ Some entry → Was entry (front (text x ++ rest)))
    → Was entry (front bytes)
took {A} {at} field bytes are behind entry read front then =
    let first = bind_some (at bytes) behind entry read in
    let made = then first.0.0 first.0.1 (field.range bytes first.0 are first.1) (field.fit bytes first.0 are first.1) first.2 in
    (made.0 ∙ ap front (sym (field.parts bytes first.0 are first.1)), made.1)

-- nothing behind the last one
took_all : (record_is : MetaRecord) (rest : List ℕ) (entry : MetaRecord) → whole record_is rest ≡ Some entry → (front : List ℕ → List ℕ)
    → Was record_is (front []) → Was entry (front rest)
took_all record_is [] entry read front was = let same : record_is ≡ entry = cc in subst (λ (e : MetaRecord). Was e (front [])) same was
took_all record_is (byte ∷ rest) entry read front was = absurd cc

version_taken : (fields : List ℕ) (entry : MetaRecord) → AreBytes fields → version_of fields ≡ Some entry → Was entry (1 ∷ fields)
unfolding version_of payload_of
version_taken fields entry are read =
    took byte_field fields are (λ version. whole (Version version.0) version.1) entry read (λ b. 1 ∷ b) (λ version rest range are read.
    took_all (Version version) rest entry read (λ b. 1 ∷ version ∷ b) (refl, omega (arith, range)))

snapshot_taken : (fields : List ℕ) (entry : MetaRecord) → AreBytes fields → snapshot_of fields ≡ Some entry → Was entry (2 ∷ fields)
unfolding snapshot_of payload_of
snapshot_taken fields entry are read =
    took number_field fields are (λ table. number_at table.1 >>= λ of. long_at of.1 >>= λ size. long_at size.1 >>= λ rows. whole (Snapshot table.0 of.0 size.0 rows.0) rows.1)
    entry read (λ b. 2 ∷ b) (λ table rest r1 are read.
    took number_field rest are (λ of. long_at of.1 >>= λ size. long_at size.1 >>= λ rows. whole (Snapshot table of.0 size.0 rows.0) rows.1)
    entry read (λ b. 2 ∷ (number table ++ b)) (λ of rest r2 are read.
    took long_field rest are (λ size. long_at size.1 >>= λ rows. whole (Snapshot table of size.0 rows.0) rows.1)
    entry read (λ b. 2 ∷ (number table ++ (number of ++ b))) (λ size rest r3 are read.
    took long_field rest are (λ rows. whole (Snapshot table of size rows.0) rows.1)
    entry read (λ b. 2 ∷ (number table ++ (number of ++ (long size ++ b)))) (λ rows rest r4 are read.
    took_all (Snapshot table of size rows) rest entry read (λ b. 2 ∷ (number table ++ (number of ++ (long size ++ (long rows ++ b)))))
    (ap (λ (t : List ℕ). 2 ∷ (number table ++ (number of ++ (long size ++ t)))) (sym (append-nil (long rows))), (r1, r2, r3, r4))))))

queue_taken : (fields : List ℕ) (entry : MetaRecord) → AreBytes fields → queue_of fields ≡ Some entry → Was entry (3 ∷ fields)
unfolding queue_of payload_of
queue_taken fields entry are read =
    took number_field fields are (λ segment. long_at segment.1 >>= λ size. long_at size.1 >>= λ last_vsn. said_at role_of last_vsn.1 >>= λ role. place_at role.1 >>= λ place. said_at truth_of place.1 >>= λ closed. said_at truth_of closed.1 >>= λ ended. whole (Queue segment.0 size.0 last_vsn.0 role.0 place.0 closed.0 ended.0) ended.1)
    entry read (λ b. 3 ∷ b) (λ segment rest r1 are read.
    took long_field rest are (λ size. long_at size.1 >>= λ last_vsn. said_at role_of last_vsn.1 >>= λ role. place_at role.1 >>= λ place. said_at truth_of place.1 >>= λ closed. said_at truth_of closed.1 >>= λ ended. whole (Queue segment size.0 last_vsn.0 role.0 place.0 closed.0 ended.0) ended.1)
    entry read (λ b. 3 ∷ (number segment ++ b)) (λ size rest r2 are read.
    took long_field rest are (λ last_vsn. said_at role_of last_vsn.1 >>= λ role. place_at role.1 >>= λ place. said_at truth_of place.1 >>= λ closed. said_at truth_of closed.1 >>= λ ended. whole (Queue segment size last_vsn.0 role.0 place.0 closed.0 ended.0) ended.1)
    entry read (λ b. 3 ∷ (number segment ++ (long size ++ b))) (λ last_vsn rest r3 are read.
    took role_field rest are (λ role. place_at role.1 >>= λ place. said_at truth_of place.1 >>= λ closed. said_at truth_of closed.1 >>= λ ended. whole (Queue segment size last_vsn role.0 place.0 closed.0 ended.0) ended.1)
    entry read (λ b. 3 ∷ (number segment ++ (long size ++ (long last_vsn ++ b)))) (λ role rest r4 are read.
    took place_field rest are (λ place. said_at truth_of place.1 >>= λ closed. said_at truth_of closed.1 >>= λ ended. whole (Queue segment size last_vsn role place.0 closed.0 ended.0) ended.1)
    entry read (λ b. 3 ∷ (number segment ++ (long size ++ (long last_vsn ++ (role_byte role ∷ b))))) (λ place rest r5 are read.
    took truth_field rest are (λ closed. said_at truth_of closed.1 >>= λ ended. whole (Queue segment size last_vsn role place closed.0 ended.0) ended.1)
    entry read (λ b. 3 ∷ (number segment ++ (long size ++ (long last_vsn ++ (role_byte role ∷ (place_bytes place ++ b)))))) (λ closed rest r6 are read.
    took truth_field rest are (λ ended. whole (Queue segment size last_vsn role place closed ended.0) ended.1)
    entry read (λ b. 3 ∷ (number segment ++ (long size ++ (long last_vsn ++ (role_byte role ∷ (place_bytes place ++ truth_byte closed ∷ b)))))) (λ ended rest r7 are read.
    took_all (Queue segment size last_vsn role place closed ended) rest entry read
    (λ b. 3 ∷ (number segment ++ (long size ++ (long last_vsn ++ (role_byte role ∷ (place_bytes place ++ truth_byte closed ∷ truth_byte ended ∷ b))))))
    (refl, (r1, r2, r3, r5)))))))))

request_taken : (fields : List ℕ) (entry : MetaRecord) → AreBytes fields → request_of fields ≡ Some entry → Was entry (4 ∷ fields)
unfolding request_of payload_of
request_taken fields entry are read =
    took side_field fields are (λ side. said_at truth_of side.1 >>= λ fall_back. whole (Request side.0 fall_back.0) fall_back.1)
    entry read (λ b. 4 ∷ b) (λ side rest r1 are read.
    took truth_field rest are (λ fall_back. whole (Request side fall_back.0) fall_back.1)
    entry read (λ b. 4 ∷ side_byte side ∷ b) (λ fall_back rest r2 are read.
    took_all (Request side fall_back) rest entry read (λ b. 4 ∷ side_byte side ∷ truth_byte fall_back ∷ b) (refl, tt)))

channels_taken : (fields : List ℕ) (entry : MetaRecord) → AreBytes fields → channels_of fields ≡ Some entry → Was entry (5 ∷ fields)
unfolding channels_of payload_of
channels_taken fields entry are read =
    took side_field fields are (λ side. number_at side.1 >>= λ count. whole (Channels side.0 count.0) count.1)
    entry read (λ b. 5 ∷ b) (λ side rest r1 are read.
    took number_field rest are (λ count. whole (Channels side count.0) count.1)
    entry read (λ b. 5 ∷ side_byte side ∷ b) (λ count rest r2 are read.
    took_all (Channels side count) rest entry read (λ b. 5 ∷ side_byte side ∷ (number count ++ b))
    (ap (λ (t : List ℕ). 5 ∷ side_byte side ∷ t) (sym (append-nil (number count))), r2)))

finished_taken : (fields : List ℕ) (entry : MetaRecord) → AreBytes fields → finished_of fields ≡ Some entry → Was entry (6 ∷ fields)
unfolding finished_of payload_of
finished_taken fields entry are read =
    took side_field fields are (λ side. number_at side.1 >>= λ segment. whole (Finished side.0 segment.0) segment.1)
    entry read (λ b. 6 ∷ b) (λ side rest r1 are read.
    took number_field rest are (λ segment. whole (Finished side segment.0) segment.1)
    entry read (λ b. 6 ∷ side_byte side ∷ b) (λ segment rest r2 are read.
    took_all (Finished side segment) rest entry read (λ b. 6 ∷ side_byte side ∷ (number segment ++ b))
    (ap (λ (t : List ℕ). 6 ∷ side_byte side ∷ t) (sym (append-nil (number segment))), r2)))

done_taken : (fields : List ℕ) (entry : MetaRecord) → AreBytes fields → done_of fields ≡ Some entry → Was entry (7 ∷ fields)
unfolding done_of payload_of
done_taken fields entry are read =
    took side_field fields are (λ side. whole (Done side.0) side.1)
    entry read (λ b. 7 ∷ b) (λ side rest r1 are read.
    took_all (Done side) rest entry read (λ b. 7 ∷ side_byte side ∷ b) (refl, tt))

loaded_taken : (fields : List ℕ) (entry : MetaRecord) → whole Loaded fields ≡ Some entry → Was entry (8 ∷ fields)
unfolding payload_of
loaded_taken fields entry read = took_all Loaded fields entry read (λ b. 8 ∷ b) (refl, tt)

-- by the first byte
pub reading_taken : (bytes : List ℕ) (entry : MetaRecord) → AreBytes bytes → record_reading bytes ≡ Some entry → (payload_of entry ≡ bytes) × IsRecord entry
unfolding record_reading
reading_taken [] entry are read = absurd cc
reading_taken (kind ∷ fields) entry are read =
    by_kind 1 (version_of fields) (from_2 kind) (version_taken fields entry rest)
    (by_kind 2 (snapshot_of fields) (from_3 kind) (snapshot_taken fields entry rest)
    (by_kind 3 (queue_of fields) (from_4 kind) (queue_taken fields entry rest)
    (by_kind 4 (request_of fields) (from_5 kind) (request_taken fields entry rest)
    (by_kind 5 (channels_of fields) (from_6 kind) (channels_taken fields entry rest)
    (by_kind 6 (finished_of fields) (from_7 kind) (finished_taken fields entry rest)
    (by_kind 7 (done_of fields) (from_8 kind) (done_taken fields entry rest)
    (by_kind 8 (whole Loaded fields) None (loaded_taken fields entry) (λ none. absurd (nothing none))))))))) read
  where
    from_8 : ℕ → Option MetaRecord
    from_8 k = cond (eqb k 8) (whole Loaded fields) None

    from_7 : ℕ → Option MetaRecord
    from_7 k = cond (eqb k 7) (done_of fields) (from_8 k)

    from_6 : ℕ → Option MetaRecord
    from_6 k = cond (eqb k 6) (finished_of fields) (from_7 k)

    from_5 : ℕ → Option MetaRecord
    from_5 k = cond (eqb k 5) (channels_of fields) (from_6 k)

    from_4 : ℕ → Option MetaRecord
    from_4 k = cond (eqb k 4) (request_of fields) (from_5 k)

    from_3 : ℕ → Option MetaRecord
    from_3 k = cond (eqb k 3) (queue_of fields) (from_4 k)

    from_2 : ℕ → Option MetaRecord
    from_2 k = cond (eqb k 2) (snapshot_of fields) (from_3 k)

    rest : AreBytes fields
    rest = AreBytes-behind kind fields are

    nothing : None ≡ Some entry → ⊥
    nothing none = cc

    by_kind : (k : ℕ) (read others : Option MetaRecord) → (read ≡ Some entry → Was entry (k ∷ fields)) → (others ≡ Some entry → Was entry (kind ∷ fields))
        → cond (eqb kind k) read others ≡ Some entry → Was entry (kind ∷ fields)
    by_kind k read others takes behind = go (eqb kind k) refl where
      go : (b : Bool) → eqb kind k ≡ b → cond b read others ≡ Some entry → Was entry (kind ∷ fields)
      go true is e = let found = takes e in (found.0 ∙ ap (λ (n : ℕ). n ∷ fields) (sym (eqb-true kind k is)), found.1)
      go false is e = behind e

-- ---- a payload is read

number_last : (n : ℕ) → n < 2 ^ 32 → number_at (number n) ≡ Some (n, [])
number_last n below = ap number_at (sym (append-nil (number n))) ∙ number_field.again n [] below

long_last : (n : ℕ) → n < 2 ^ 64 → long_at (long n) ≡ Some (n, [])
long_last n below = ap long_at (sym (append-nil (long n))) ∙ long_field.again n [] below

version_again : (version : ℕ) → version_of (version ∷ []) ≡ Some (Version version)
unfolding version_of byte_at
version_again version = refl

snapshot_again : (table of size rows : ℕ) → IsRecord (Snapshot table of size rows)
    → snapshot_of (number table ++ (number of ++ (long size ++ long rows))) ≡ Some (Snapshot table of size rows)
unfolding snapshot_of
snapshot_again table of size rows fit =
    rw (
      number_field.again table (number of ++ (long size ++ long rows)) fit.0,
      number_field.again of (long size ++ long rows) fit.1,
      long_field.again size (long rows) fit.2,
      long_last rows fit.3,
    ) refl

queue_again : (segment size last_vsn : ℕ) (role : Role) (place : Option Spot) (closed ended : Bool) → IsRecord (Queue segment size last_vsn role place closed ended)
    → queue_of (number segment ++ (long size ++ (long last_vsn ++ (role_byte role ∷ (place_bytes place ++ truth_byte closed ∷ truth_byte ended ∷ [])))))
    ≡ Some (Queue segment size last_vsn role place closed ended)
unfolding queue_of
queue_again segment size last_vsn role place closed ended fit =
    let ends = truth_byte closed ∷ truth_byte ended ∷ [] in
    rw (
      number_field.again segment (long size ++ (long last_vsn ++ (role_byte role ∷ (place_bytes place ++ ends)))) fit.0,
      long_field.again size (long last_vsn ++ (role_byte role ∷ (place_bytes place ++ ends))) fit.1,
      long_field.again last_vsn (role_byte role ∷ (place_bytes place ++ ends)) fit.2,
      role_field.again role (place_bytes place ++ ends) tt,
      place_field.again place ends fit.3,
      truth_field.again closed (truth_byte ended ∷ []) tt,
      truth_field.again ended [] tt,
    ) refl

request_again : (side : Side) (fall_back : Bool) → request_of (side_byte side ∷ truth_byte fall_back ∷ []) ≡ Some (Request side fall_back)
unfolding request_of
request_again side fall_back = rw (side_field.again side (truth_byte fall_back ∷ []) tt, truth_field.again fall_back [] tt) refl

channels_again : (side : Side) (count : ℕ) → count < 2 ^ 32 → channels_of (side_byte side ∷ number count) ≡ Some (Channels side count)
unfolding channels_of
channels_again side count below = rw (side_field.again side (number count) tt, number_last count below) refl

finished_again : (side : Side) (segment : ℕ) → segment < 2 ^ 32 → finished_of (side_byte side ∷ number segment) ≡ Some (Finished side segment)
unfolding finished_of
finished_again side segment below = rw (side_field.again side (number segment) tt, number_last segment below) refl

done_again : (side : Side) → done_of (side_byte side ∷ []) ≡ Some (Done side)
unfolding done_of
done_again side = rw (side_field.again side [] tt) refl

pub payload_again : (entry : MetaRecord) → IsRecord entry → record_reading (payload_of entry) ≡ Some entry
unfolding payload_of record_reading
payload_again (Version version) fit = version_again version
payload_again (Snapshot table of size rows) fit = snapshot_again table of size rows fit
payload_again (Queue segment size last_vsn role place closed ended) fit = queue_again segment size last_vsn role place closed ended fit
payload_again (Request side fall_back) fit = request_again side fall_back
payload_again (Channels side count) fit = channels_again side count fit
payload_again (Finished side segment) fit = finished_again side segment fit
payload_again (Done side) fit = done_again side
payload_again Loaded fit = refl

-- ---- how long payloads are

place_length : (place : Option Spot) → length (place_bytes place) ≡ 17
place_length None = omega (arith, length-append (long 0) (long 0), long_length 0)
place_length (Some spot) = omega (arith, length-append (long spot.commit) (long spot.seq), long_length spot.commit, long_length spot.seq)

pub payload_short : PayloadsAreShort
unfolding payload_of
payload_short (Version version) = omega arith
payload_short (Snapshot table of size rows) =
    omega (
      arith,
      length-append (number table) (number of ++ (long size ++ long rows)),
      length-append (number of) (long size ++ long rows),
      length-append (long size) (long rows),
      number_length table,
      number_length of,
      long_length size,
      long_length rows,
    )
payload_short (Queue segment size last_vsn role place closed ended) =
    let ends = truth_byte closed ∷ truth_byte ended ∷ [] in
    omega (
      arith,
      length-append (number segment) (long size ++ (long last_vsn ++ (role_byte role ∷ (place_bytes place ++ ends)))),
      length-append (long size) (long last_vsn ++ (role_byte role ∷ (place_bytes place ++ ends))),
      length-append (long last_vsn) (role_byte role ∷ (place_bytes place ++ ends)),
      length-append (place_bytes place) ends,
      number_length segment,
      long_length size,
      long_length last_vsn,
      place_length place,
    )
payload_short (Request side fall_back) = omega arith
payload_short (Channels side count) = omega (arith, number_length count)
payload_short (Finished side segment) = omega (arith, number_length segment)
payload_short (Done side) = omega arith
payload_short Loaded = omega arith
