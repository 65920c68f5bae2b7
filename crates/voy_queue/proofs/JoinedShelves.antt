-- Shelves with puts committed in two parts and at once.
use Rattle.std.proofs.Common.{◌≡◌, ◌≤◌, ◌-◌, ◌||◌, ℕ, suc, Bool, true, false, List, [], ◌∷◌, ◌++◌, Option, Some, None, length, map, take, refl, sym, ap, ◌∙◌, subst, arith}
use Rattle.std.specs.Prelude.{slice_get}
use Rattle.std.specs.Option.{option_map}
use Rattle.std.proofs.lemmas.Bool.{false≢true}
use Rattle.std.proofs.lemmas.List.{append-nil, append_assoc, length-take-le, length_push, take_at}
use Rattle.voy_disk.specs.Steps.{after_all}
use Rattle.voy_meta.specs.FoldLaws.{state_on}
use Rattle.voy_meta.specs.Sides.{is_ended, last_of, last_segment}
use Rattle.voy_meta.specs.State.{after_record, empty_state, state_of}
use Rattle.voy_meta.specs.declared.record.MetaRecord.{MetaRecord}
use Rattle.voy_meta.specs.declared.state.MetaState.{MetaState}
use Rattle.voy_meta.specs.declared.state.SegmentState.{SegmentState}
use Rattle.voy_queue.specs.Laws.{PutsJoin, ReadsAlike, RecordsWith, RoomGoesOn, RoomIsThere, StandsAlikeWith, StandsAsInTurn, StandsAsItself, StandsAsTurned}
use Rattle.voy_queue.specs.Putting.{HasRoom, Put, commit_of, end_at, end_of, entry_of, pending_with, recorded_end, room_for}
use Rattle.voy_queue.specs.PuttingLaws.{room_open}
use Rattle.voy_queue.specs.Reading.{QueueReading, nothing_left, queue_reading}
use Rattle.voy_queue.specs.Shelf.{Commits, Shelf, StandsAs, reading_of, segment_at, segments_in, shelf_after}
use Rattle.voy_queue.specs.declared.end.Added.{Added}
use Rattle.voy_queue.specs.declared.end.End.{End}
use Rattle.voy_queue.proofs.JoinLemmas.{AreNext, IsNext, are_next, joined, next_front, next_last, onto, onto_by, onto_nothing, over_puts, pending_joins}
use Rattle.voy_queue.proofs.ReadyLemmas.{at_end}
use Rattle.voy_queue.proofs.RecordLemmas.{counts_last, recorded_segment, segments_recorded}
use Rattle.voy_queue.proofs.ShelfLemmas.{committed_length}
use Rattle.voy_schema.specs.declared.table.Table.{Table}
use Rattle.voy_tables.specs.declared.change.Role.{Role}
use Rattle.voy_tables.specs.declared.change.Role.TheVariants as role
use Rattle.voy_tables.specs.declared.change.Spot.{Spot}

-- ---- shelves that stand alike

pub stands_as_itself : StandsAsItself
stands_as_itself shelf = record { state = refl; segments = refl }

pub stands_as_turned : StandsAsTurned
stands_as_turned a b alike = record { state = sym alike.state; segments = sym alike.segments }

pub stands_as_in_turn : StandsAsInTurn
stands_as_in_turn a b c first second = record { state = first.state ∙ second.state; segments = first.segments ∙ second.segments }

-- the state with a record more
state_told : (told : Option (List MetaRecord)) (entry : MetaRecord)
    → option_map state_of (option_map (λ (entries : List MetaRecord). entries ++ entry ∷ []) told)
    ≡ option_map (λ (state : MetaState). after_record state entry) (option_map state_of told)
state_told None entry = refl
state_told (Some entries) entry = ap Some (state_on empty_state entries (entry ∷ []))

alike_after : (a b : Shelf) (c : Commits) → StandsAs a b → StandsAs (shelf_after a c) (shelf_after b c)
alike_after a b c alike = record {
  state =
      state_told a.records c.entry
      ∙ ap (option_map (λ (state : MetaState). after_record state c.entry)) alike.state
      ∙ sym (state_told b.records c.entry);
  segments = ap (λ (segments : List (List ℕ)). take c.number segments ++ (segment_at segments c.number ++ c.added) ∷ []) alike.segments;
}

alike_all : (a b : Shelf) (commits : List Commits) → StandsAs a b → StandsAs (after_all shelf_after a commits) (after_all shelf_after b commits)
alike_all a b [] alike = alike
alike_all a b (c ∷ commits) alike = alike_all (shelf_after a c) (shelf_after b c) commits (alike_after a b c alike)

pub stands_alike_with : StandsAlikeWith
stands_alike_with schema role max_bytes a b end puts alike = alike_all a b (map (commit_of role) (pending_with schema max_bytes end [] puts)) alike

-- the queue by the state that is told
abbrev reading_by : List Table → Option MetaState → List (List ℕ) → QueueReading
reading_by schema None segments = nothing_left
reading_by schema (Some state) segments = queue_reading schema (segment_at segments) state

read_by : (schema : List Table) (told : Option (List MetaRecord)) (segments : List (List ℕ))
    → reading_of schema told segments ≡ reading_by schema (option_map state_of told) segments
read_by schema None segments = refl
read_by schema (Some entries) segments = refl

pub reads_alike : ReadsAlike
reads_alike schema a b alike =
    read_by schema a.records a.segments
    ∙ ap (λ (told : Option MetaState). reading_by schema told a.segments) alike.state
    ∙ ap (reading_by schema (option_map state_of b.records)) alike.segments
    ∙ sym (read_by schema b.records b.segments)

-- ---- room for the next line

room_most : (end : End) → (room_for end).number ≤ suc end.number
room_most end = by end.closed refl where
  by : (closed : Bool) → end.closed ≡ closed → (room_for end).number ≤ suc end.number
  by true is = rw is (omega arith)
  by false is = rw is (omega arith)

pub room_number : (spot : Option Spot) (ended : Bool) (segments : List SegmentState) (last : Option SegmentState) → slice_get segments (length segments - 1) ≡ last
    → (room_for (end_at spot ended (length segments) last)).number ≤ length segments
room_number spot ended segments None is = omega arith
room_number spot ended segments (Some last) is = by last.closed refl where
  by : (closed : Bool) → last.closed ≡ closed → (room_for (end_at spot ended (length segments) (Some last))).number ≤ length segments
  by true shut = let some = counts_last segments last is in rw shut (omega (arith, some))
  by false unshut = rw unshut (omega arith)

pub room_recorded : (state : MetaState) (role : Role) → (room_for (recorded_end state role)).number ≤ length state.segments
room_recorded state role = room_number (last_of role state) (is_ended role state) state.segments (last_segment state) refl

pub room_is_there : RoomIsThere
room_is_there image entries role is = record {
  contents =
      let size : length (segments_in image (Some entries)) ≡ length (state_of entries).segments = committed_length image 0 (state_of entries).segments in
      let room = room_recorded (state_of entries) role in
      rw is (omega (arith, size, room));
  states = λ others told.
      let same : Some entries ≡ Some others = sym is ∙ told in
      subst (λ (all : List MetaRecord). (room_for (recorded_end (state_of entries) role)).number ≤ length (state_of all).segments) (one same)
      (room_recorded (state_of entries) role);
}
  where
    one : {xs ys : List MetaRecord} → Some xs ≡ Some ys → xs ≡ ys
    one {xs} {ys} same = cc

room_after : (role : Role) (end : End) (one : Added) (shelf : Shelf) → HasRoom end shelf → IsNext end one → HasRoom one.end (shelf_after shelf (commit_of role one))
room_after role end one shelf room next = record { contents = contents; states = λ entries told. states shelf.records refl entries told } where
  most : (room_for one.end).number ≤ suc one.end.number
  most = room_most one.end

  contents : (room_for one.end).number ≤ length (shelf_after shelf (commit_of role one)).segments
  contents =
      let number = next.number in
      let low = room.contents in
      let size = length-take-le one.end.number shelf.segments (omega (arith, number, low)) in
      let more = length_push (take one.end.number shelf.segments) (segment_at shelf.segments one.end.number ++ one.bytes) in
      omega (arith, most, size, more)

  behind : (old : List MetaRecord) → shelf.records ≡ Some old → (room_for one.end).number ≤ length (state_of (old ++ entry_of role one ∷ [])).segments
  behind old is =
      let number = next.number in
      let low = room.states old is in
      let size = length-take-le one.end.number (state_of old).segments (omega (arith, number, low)) in
      let more = length_push (take one.end.number (state_of old).segments) (recorded_segment role one) in
      let all : (state_of (old ++ entry_of role one ∷ [])).segments ≡ take one.end.number (state_of old).segments ++ recorded_segment role one ∷ [] =
      ap (λ (state : MetaState). state.segments) (state_on empty_state old (entry_of role one ∷ [])) ∙ segments_recorded (state_of old) role one in
      let count : length (state_of (old ++ entry_of role one ∷ [])).segments ≡ length (take one.end.number (state_of old).segments ++ recorded_segment role one ∷ []) = ap length all in
      omega (arith, most, size, more, count)

  states : (told : Option (List MetaRecord)) → shelf.records ≡ told → (entries : List MetaRecord)
      → option_map (λ (entries : List MetaRecord). entries ++ entry_of role one ∷ []) shelf.records ≡ Some entries
      → (room_for one.end).number ≤ length (state_of entries).segments
  states None is entries told = absurd (none (ap (option_map (λ (entries : List MetaRecord). entries ++ entry_of role one ∷ [])) (sym is) ∙ told)) where
    none : {xs : List MetaRecord} → None ≡ Some xs → ⊥
    none {xs} same = cc
  states (Some old) is entries told =
      subst (λ (all : List MetaRecord). (room_for one.end).number ≤ length (state_of all).segments)
      (some (ap (option_map (λ (entries : List MetaRecord). entries ++ entry_of role one ∷ [])) (sym is) ∙ told)) (behind old is) where
        some : {xs ys : List MetaRecord} → Some xs ≡ Some ys → xs ≡ ys
        some {xs} {ys} same = cc

room_all : (role : Role) (end : End) (pending : List Added) (shelf : Shelf) → HasRoom end shelf → AreNext end pending
    → HasRoom (end_of end pending) (after_all shelf_after shelf (map (commit_of role) pending))
room_all role end [] shelf room all = room
room_all role end (one ∷ more) shelf room all = room_all role one.end more (shelf_after shelf (commit_of role one)) (room_after role end one shelf room all.0) all.1

pub room_goes_on : RoomGoesOn
room_goes_on schema role max_bytes shelf end puts room =
    room_all role end (pending_with schema max_bytes end [] puts) shelf room (are_next schema max_bytes end [] puts tt)

-- ---- two commits into one segment

-- what is put in the place of what was put there
put_twice : {A : Type 0} (xs : List A) (n : ℕ) (x y : A) → n ≤ length xs → take n (take n xs ++ x ∷ []) ++ y ∷ [] ≡ take n xs ++ y ∷ []
put_twice xs n x y low = ap (λ front. front ++ y ∷ []) (take_at (take n xs) (x ∷ []) n (length-take-le n xs low))

bytes_twice : (xs : List (List ℕ)) (n : ℕ) (x y : List ℕ) → n ≤ length xs
    → take n (take n xs ++ (segment_at xs n ++ x) ∷ []) ++ (segment_at (take n xs ++ (segment_at xs n ++ x) ∷ []) n ++ y) ∷ []
    ≡ take n xs ++ (segment_at xs n ++ (x ++ y)) ∷ []
bytes_twice xs n x y low =
    put_twice xs n (segment_at xs n ++ x) (segment_at (take n xs ++ (segment_at xs n ++ x) ∷ []) n ++ y) low
    ∙ ap (λ (bytes : List ℕ). take n xs ++ bytes ∷ [])
    (ap (λ (old : List ℕ). old ++ y) (at_end (take n xs) (segment_at xs n ++ x) n (length-take-le n xs low)) ∙ append_assoc (segment_at xs n) x y)

or_none : (a b c : Bool) → b ≡ false → ((a || b) || c) ≡ (a || c)
or_none true b c is = refl
or_none false b c is = rw is refl

record_twice : (state : MetaState) (role : Role) (last one : Added) → one.end.number ≡ last.end.number → last.end.number ≤ length state.segments
    → last.end.ended ≡ false → after_record (after_record state (entry_of role last)) (entry_of role one) ≡ after_record state (entry_of role one)
unfolding after_record
record_twice state role.Source last one number low goes =
    let place : take one.end.number (take last.end.number state.segments ++ recorded_segment role.Source last ∷ []) ++ recorded_segment role.Source one ∷ []
    ≡ take one.end.number state.segments ++ recorded_segment role.Source one ∷ [] =
    ap (λ n. take one.end.number (take n state.segments ++ recorded_segment role.Source last ∷ []) ++ recorded_segment role.Source one ∷ []) (sym number)
    ∙ put_twice state.segments one.end.number (recorded_segment role.Source last) (recorded_segment role.Source one) (omega (arith, number, low)) in
    rw (place, or_none state.ended_source last.end.ended one.end.ended goes) refl
record_twice state role.Target last one number low goes =
    let place : take one.end.number (take last.end.number state.segments ++ recorded_segment role.Target last ∷ []) ++ recorded_segment role.Target one ∷ []
    ≡ take one.end.number state.segments ++ recorded_segment role.Target one ∷ [] =
    ap (λ n. take one.end.number (take n state.segments ++ recorded_segment role.Target last ∷ []) ++ recorded_segment role.Target one ∷ []) (sym number)
    ∙ put_twice state.segments one.end.number (recorded_segment role.Target last) (recorded_segment role.Target one) (omega (arith, number, low)) in
    rw (place, or_none state.ended_target last.end.ended one.end.ended goes) refl

-- the bytes in the place of a segment, behind those that it had
abbrev placed : List (List ℕ) → List ℕ → ℕ → List (List ℕ)
placed segments bytes n = take n segments ++ (segment_at segments n ++ bytes) ∷ []

abbrev pushed : MetaRecord → Option (List MetaRecord) → Option (List MetaRecord)
pushed entry told = option_map (λ (entries : List MetaRecord). entries ++ entry ∷ []) told

commits_join : (role : Role) (shelf : Shelf) (end : End) (last one : Added) → HasRoom end shelf → IsNext end last → last.end.closed ≡ false
    → one.end.number ≡ last.end.number
    → StandsAs (shelf_after (shelf_after shelf (commit_of role last)) (commit_of role one)) (shelf_after shelf (commit_of role (joined last one)))
commits_join role shelf end last one room next unshut number = record { state = states shelf.records refl; segments = contents } where
  low : one.end.number ≤ length shelf.segments
  low = let same = next.number in let few = room.contents in omega (arith, number, same, few)

  goes : last.end.ended ≡ false
  goes = by last.end.ended refl where
    by : (ended : Bool) → last.end.ended ≡ ended → last.end.ended ≡ false
    by false is = is
    by true is = absurd (false≢true (sym unshut ∙ next.shut is))

  contents : (shelf_after (shelf_after shelf (commit_of role last)) (commit_of role one)).segments ≡ (shelf_after shelf (commit_of role (joined last one))).segments
  contents =
      ap (λ n. take one.end.number (placed shelf.segments last.bytes n) ++ (segment_at (placed shelf.segments last.bytes n) one.end.number ++ one.bytes) ∷ []) (sym number)
      ∙ bytes_twice shelf.segments one.end.number last.bytes one.bytes low

  states : (told : Option (List MetaRecord)) → shelf.records ≡ told
      → option_map state_of (pushed (entry_of role one) (pushed (entry_of role last) shelf.records)) ≡ option_map state_of (pushed (entry_of role one) shelf.records)
  states None is = ap (λ told. option_map state_of (pushed (entry_of role one) (pushed (entry_of role last) told))) is
      ∙ sym (ap (λ told. option_map state_of (pushed (entry_of role one) told)) is)
  states (Some old) is = ap (λ told. option_map state_of (pushed (entry_of role one) (pushed (entry_of role last) told))) is
      ∙ ap Some (two old is)
      ∙ sym (ap (λ told. option_map state_of (pushed (entry_of role one) told)) is) where
        two : (old : List MetaRecord) → shelf.records ≡ Some old
            → state_of ((old ++ entry_of role last ∷ []) ++ entry_of role one ∷ []) ≡ state_of (old ++ entry_of role one ∷ [])
        two old is =
            let same = next.number in
            let few = room.states old is in
            state_on empty_state (old ++ entry_of role last ∷ []) (entry_of role one ∷ [])
            ∙ ap (λ (state : MetaState). after_record state (entry_of role one)) (state_on empty_state old (entry_of role last ∷ []))
            ∙ record_twice (state_of old) role last one number (omega (arith, same, few)) goes
            ∙ sym (state_on empty_state old (entry_of role one ∷ []))

-- ---- puts in two parts

after_all_on : (role : Role) (shelf : Shelf) (front behind : List Added) → after_all shelf_after shelf (map (commit_of role) (front ++ behind))
    ≡ after_all shelf_after (after_all shelf_after shelf (map (commit_of role) front)) (map (commit_of role) behind)
after_all_on role shelf [] behind = refl
after_all_on role shelf (one ∷ front) behind = after_all_on role (shelf_after shelf (commit_of role one)) front behind

records_all : (role : Role) (shelf : Shelf) (pending : List Added) (entries : List MetaRecord) → shelf.records ≡ Some entries
    → (after_all shelf_after shelf (map (commit_of role) pending)).records ≡ Some (entries ++ map (entry_of role) pending)
records_all role shelf [] entries told = told ∙ ap Some (sym (append-nil entries))
records_all role shelf (one ∷ more) entries told =
    records_all role (shelf_after shelf (commit_of role one)) more (entries ++ entry_of role one ∷ []) (ap (pushed (entry_of role one)) told)
    ∙ ap Some (append_assoc entries (entry_of role one ∷ []) (map (entry_of role) more))

pub records_with : RecordsWith
records_with schema role max_bytes shelf end puts entries told = records_all role shelf (pending_with schema max_bytes end [] puts) entries told

-- a last segment and what is pending behind it
onto_stands : (role : Role) (shelf : Shelf) (end : End) (last : Added) (rest : List Added) (closed : Bool) → last.end.closed ≡ closed
    → HasRoom end shelf → IsNext end last → AreNext last.end rest
    → StandsAs (after_all shelf_after (shelf_after shelf (commit_of role last)) (map (commit_of role) rest))
    (after_all shelf_after shelf (map (commit_of role) (onto_by closed last rest)))
onto_stands role shelf end last rest true is room next all = stands_as_itself _
onto_stands role shelf end last [] false is room next all = stands_as_itself _
onto_stands role shelf end last (one ∷ more) false is room next all =
    alike_all _ _ (map (commit_of role) more)
    (commits_join role shelf end last one room next is (all.0.number ∙ ap (λ (e : End). e.number) (room_open last.end is)))

pub record EndsIn (added : List Added) : Type 0 where
  pub front : List Added
  pub last : Added
  pub is : added ≡ front ++ last ∷ []

ends_in : (first : Added) (more : List Added) → EndsIn (first ∷ more)
ends_in first [] = record { front = []; last = first; is = refl }
ends_in first (next ∷ more) =
    let rest = ends_in next more in
    record { front = first ∷ rest.front; last = rest.last; is = ap (λ (all : List Added). first ∷ all) rest.is }

last_end_of : (end : End) (front : List Added) (last : Added) → end_of end (front ++ last ∷ []) ≡ last.end
last_end_of end [] last = refl
last_end_of end (a ∷ front) last = last_end_of a.end front last

module _ (schema : List Table) (role : Role) (max_bytes : ℕ) (shelf : Shelf) (end : End) (ys : List Put) (room : HasRoom end shelf)
  where
    abbrev committed_all : List Added → Shelf
    committed_all pending = after_all shelf_after shelf (map (commit_of role) pending)

    -- what is pending is committed, and then the puts; or all at once
    abbrev Joins : List Added → Type 0
    Joins pending =
        StandsAs (after_all shelf_after (committed_all pending) (map (commit_of role) (pending_with schema max_bytes (end_of end pending) [] ys)))
        (committed_all (pending_with schema max_bytes end pending ys))

    joins_last : (front : List Added) (last : Added) → AreNext end (front ++ last ∷ []) → Joins (front ++ last ∷ [])
    joins_last front last all =
        subst (λ (now : Shelf). StandsAs (after_all shelf_after now (map (commit_of role) (pending_with schema max_bytes (end_of end (front ++ last ∷ [])) [] ys))) (committed_all (pending_with schema max_bytes end (front ++ last ∷ []) ys)))
        (sym (after_all_on role shelf front (last ∷ [])))
        (subst (λ (now : End). StandsAs (after_all shelf_after (shelf_after (committed_all front) (commit_of role last)) (map (commit_of role) (pending_with schema max_bytes now [] ys))) (committed_all (pending_with schema max_bytes end (front ++ last ∷ []) ys)))
        (sym (last_end_of end front last))
        (subst (λ (now : Shelf). StandsAs (after_all shelf_after (shelf_after (committed_all front) (commit_of role last)) (map (commit_of role) (pending_with schema max_bytes last.end [] ys))) now)
        (sym at_once)
        (onto_stands role (committed_all front) (end_of end front) last (pending_with schema max_bytes last.end [] ys) last.end.closed refl
        (room_all role end front shelf room (next_front end front last all)) (next_last end front last all) (are_next schema max_bytes last.end [] ys tt))))
      where
        at_once : committed_all (pending_with schema max_bytes end (front ++ last ∷ []) ys)
            ≡ after_all shelf_after (committed_all front) (map (commit_of role) (onto last (pending_with schema max_bytes last.end [] ys)))
        at_once =
            ap committed_all
            (ap (λ (behind : List Added). pending_with schema max_bytes end (front ++ behind) ys) (sym (onto_nothing last.end.closed last))
            ∙ over_puts schema max_bytes end front last [] ys)
            ∙ after_all_on role shelf front (onto last (pending_with schema max_bytes last.end [] ys))

    joins : (pending : List Added) → AreNext end pending → Joins pending
    joins [] all = stands_as_itself _
    joins (first ∷ more) all =
        let split = ends_in first more in
        subst Joins (sym split.is) (joins_last split.front split.last (subst (AreNext end) split.is all))

pub puts_join : PutsJoin
puts_join schema role max_bytes shelf end xs ys room =
    subst
    (λ (all : List Added). StandsAs (after_all shelf_after (after_all shelf_after shelf (map (commit_of role) (pending_with schema max_bytes end [] xs)))
    (map (commit_of role) (pending_with schema max_bytes (end_of end (pending_with schema max_bytes end [] xs)) [] ys)))
    (after_all shelf_after shelf (map (commit_of role) all)))
    (sym (pending_joins schema max_bytes end [] xs ys))
    (joins schema role max_bytes shelf end ys room (pending_with schema max_bytes end [] xs) (are_next schema max_bytes end [] xs tt))
