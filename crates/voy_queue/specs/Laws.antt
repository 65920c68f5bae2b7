-- The laws that callers go by, each of which a public function proves.
use Rattle.std.specs.Prelude.{◌≡◌, ◌≢◌, ◌≤◌, ◌+◌, ◌-◌, ◌==◌, if◌then◌else◌, ℕ, suc, Bool, false, true, List, [], ◌∷◌, ◌++◌, Some, length, map, take}
use Rattle.voy_disk.specs.Images.{Image, bytes_in}
use Rattle.voy_disk.specs.Steps.{after_all}
use Rattle.voy_event.specs.declared.event.Event.{Event}
use Rattle.voy_meta.specs.Allowed.{allowed_after, are_allowed, vsn_before, writes}
use Rattle.voy_meta.specs.Sides.{last_segment}
use Rattle.voy_meta.specs.Stands.{IsConsistent}
use Rattle.voy_meta.specs.declared.state.MetaState.{MetaState}
use Rattle.voy_meta.specs.Meta.{records_in}
use Rattle.voy_meta.specs.State.{state_after, state_of}
use Rattle.voy_meta.specs.declared.record.MetaRecord.{MetaRecord}
use Rattle.voy_meta.specs.declared.state.SegmentState.{SegmentState}
use Rattle.voy_queue.specs.Lines.{line_feed}
use Rattle.voy_queue.specs.Names.{segment_name}
use Rattle.voy_queue.specs.Putting.{HasRoom, MayFollowInTurn, Put, commit_of, end_behind, end_of, end_with, entry_of, pending_with, recorded_end, shelf_with}
use Rattle.voy_queue.specs.Reading.{queue_reading, reads_whole}
use Rattle.voy_queue.specs.declared.end.Added.{Added}
use Rattle.voy_queue.specs.declared.end.End.{End}
use Rattle.voy_queue.specs.Shelf.{Shelf, StandsAs, shelf_after, shelf_in, shelf_reading}
use Rattle.voy_schema.specs.Lawful.{is_lawful}
use Rattle.voy_schema.specs.declared.table.Table.{Table}
use Rattle.voy_tables.specs.declared.change.Role.{Role}

-- the events of puts
abbrev pub events_of : List Put → List Event
events_of puts = map (λ (put : Put). put.event) puts

-- the queue of a shelf is that of its image
abbrev pub ShelvesAreRead : Type 0
ShelvesAreRead =
    (schema : List Table) (image : Image) (entries : List MetaRecord) → records_in image ≡ Some entries
    → shelf_reading schema (shelf_in image) ≡ queue_reading schema (λ number. bytes_in (image (segment_name number))) (state_of entries)

-- behind some first segments of what was put, the queue reads as the old events and some first ones of those that were put; behind all
-- segments, as all of them
pub record ReadsOn (schema : List Table) (role : Role) (max_bytes : ℕ) (puts : List Put) (shelf : Shelf) (end : End) (events : List Event) (count : ℕ) : Type 0 where
  pub some : ℕ
  pub reading : shelf_reading schema (after_all shelf_after shelf (map (commit_of role) (take count (pending_with schema max_bytes end [] puts))))
      ≡ reads_whole (events ++ take some (events_of puts))
  pub all : length (pending_with schema max_bytes end [] puts) ≤ count → take some (events_of puts) ≡ events_of puts

-- the queue of an image that reads whole, and what a writer made of events that were put behind it, read as the old events and those that were
-- put: all of them, and where only some first segments were committed, some first ones
abbrev pub WrittenReadsBack : Type 0
WrittenReadsBack =
    (schema : List Table) (role : Role) (max_bytes : ℕ) (puts : List Put) (image : Image) (entries : List MetaRecord) (events : List Event)
    → is_lawful schema ≡ true → records_in image ≡ Some entries → are_allowed entries ≡ true → writes (state_of entries) role ≡ true
    → shelf_reading schema (shelf_in image) ≡ reads_whole events
    → MayFollowInTurn schema role max_bytes (recorded_end (state_of entries) role) puts
    → (count : ℕ) → ReadsOn schema role max_bytes puts (shelf_in image) (recorded_end (state_of entries) role) events count

-- the first segments of what was put are what some first puts made
pub record ArePut (schema : List Table) (max_bytes : ℕ) (end : End) (puts : List Put) (count : ℕ) : Type 0 where
  pub some : ℕ
  pub same : take count (pending_with schema max_bytes end [] puts) ≡ pending_with schema max_bytes end [] (take some puts)

abbrev pub FirstPartIsPut : Type 0
FirstPartIsPut = (schema : List Table) (max_bytes : ℕ) (end : End) (puts : List Put) (count : ℕ) → ArePut schema max_bytes end puts count

-- puts one after the other are pending as all of them are
abbrev pub PendingJoins : Type 0
PendingJoins =
    (schema : List Table) (max_bytes : ℕ) (end : End) (pending : List Added) (xs ys : List Put)
    → pending_with schema max_bytes end pending (xs ++ ys) ≡ pending_with schema max_bytes end (pending_with schema max_bytes end pending xs) ys

-- what is pending with puts ends as they do put by put
abbrev pub EndsWithPuts : Type 0
EndsWithPuts =
    (schema : List Table) (max_bytes : ℕ) (end : End) (pending : List Added) (puts : List Put)
    → end_of end (pending_with schema max_bytes end pending puts) ≡ end_with schema max_bytes (end_of end pending) puts

-- puts may follow in turn where their two parts may, the second behind the first, and only there
abbrev pub FollowsJoin : Type 0
FollowsJoin =
    (schema : List Table) (role : Role) (max_bytes : ℕ) (end : End) (xs ys : List Put)
    → MayFollowInTurn schema role max_bytes end xs → MayFollowInTurn schema role max_bytes (end_behind schema max_bytes end xs) ys
    → MayFollowInTurn schema role max_bytes end (xs ++ ys)

abbrev pub FollowsPart : Type 0
FollowsPart =
    (schema : List Table) (role : Role) (max_bytes : ℕ) (end : End) (xs ys : List Put) → MayFollowInTurn schema role max_bytes end (xs ++ ys)
    → MayFollowInTurn schema role max_bytes end xs × MayFollowInTurn schema role max_bytes (end_behind schema max_bytes end xs) ys

-- committed in two parts puts come to the same as committed at once, but for the number of records
abbrev pub PutsJoin : Type 0
PutsJoin =
    (schema : List Table) (role : Role) (max_bytes : ℕ) (shelf : Shelf) (end : End) (xs ys : List Put) → HasRoom end shelf
    → StandsAs (shelf_with schema role max_bytes (shelf_with schema role max_bytes shelf end xs) (end_behind schema max_bytes end xs) ys)
    (shelf_with schema role max_bytes shelf end (xs ++ ys))

-- shelves that stand alike do so with the same puts more
abbrev pub StandsAlikeWith : Type 0
StandsAlikeWith =
    (schema : List Table) (role : Role) (max_bytes : ℕ) (a b : Shelf) (end : End) (puts : List Put) → StandsAs a b
    → StandsAs (shelf_with schema role max_bytes a end puts) (shelf_with schema role max_bytes b end puts)

abbrev pub StandsAsItself : Type 0
StandsAsItself = (shelf : Shelf) → StandsAs shelf shelf

abbrev pub StandsAsTurned : Type 0
StandsAsTurned = (a b : Shelf) → StandsAs a b → StandsAs b a

abbrev pub StandsAsInTurn : Type 0
StandsAsInTurn = (a b c : Shelf) → StandsAs a b → StandsAs b c → StandsAs a c

-- and they have the same queue
abbrev pub ReadsAlike : Type 0
ReadsAlike = (schema : List Table) (a b : Shelf) → StandsAs a b → shelf_reading schema a ≡ shelf_reading schema b

-- the shelf of an image has room behind its recorded end, and a shelf with puts behind theirs
abbrev pub RoomIsThere : Type 0
RoomIsThere =
    (image : Image) (entries : List MetaRecord) (role : Role) → records_in image ≡ Some entries
    → HasRoom (recorded_end (state_of entries) role) (shelf_in image)

abbrev pub RoomGoesOn : Type 0
RoomGoesOn =
    (schema : List Table) (role : Role) (max_bytes : ℕ) (shelf : Shelf) (end : End) (puts : List Put) → HasRoom end shelf
    → HasRoom (end_behind schema max_bytes end puts) (shelf_with schema role max_bytes shelf end puts)

-- the records of a shelf with puts are its own and those of the puts
abbrev pub RecordsWith : Type 0
RecordsWith =
    (schema : List Table) (role : Role) (max_bytes : ℕ) (shelf : Shelf) (end : End) (puts : List Put) (entries : List MetaRecord) → shelf.records ≡ Some entries
    → (shelf_with schema role max_bytes shelf end puts).records ≡ Some (entries ++ map (entry_of role) (pending_with schema max_bytes end [] puts))

-- where the records of puts are allowed, the queue's recorded end is then the end behind them
abbrev pub EndIsRecorded : Type 0
EndIsRecorded =
    (schema : List Table) (role : Role) (max_bytes : ℕ) (state : MetaState) (puts : List Put)
    → allowed_after state (map (entry_of role) (pending_with schema max_bytes (recorded_end state role) [] puts)) ≡ true
    → recorded_end (state_after state (map (entry_of role) (pending_with schema max_bytes (recorded_end state role) [] puts))) role
    ≡ end_behind schema max_bytes (recorded_end state role) puts

-- and also where the exporter writes, and the puts may follow in turn
abbrev pub EndIsRecordedInTurn : Type 0
EndIsRecordedInTurn =
    (schema : List Table) (role : Role) (max_bytes : ℕ) (state : MetaState) (puts : List Put)
    → (puts ≢ [] → writes state role ≡ true) → MayFollowInTurn schema role max_bytes (recorded_end state role) puts
    → recorded_end (state_after state (map (entry_of role) (pending_with schema max_bytes (recorded_end state role) [] puts))) role
    ≡ end_behind schema max_bytes (recorded_end state role) puts

-- events with the next vsns: the first behind this one, and so on up to the last
abbrev pub Counts : (from last : ℕ) → List Event → Type 0
Counts from last [] = from ≡ last
Counts from last (event ∷ events) = (event.vsn ≡ suc from) × Counts (suc from) last events

-- a queue that reads whole has the vsns from 1 on, up to the last that is recorded
abbrev pub EventsAreCounted : Type 0
EventsAreCounted =
    (schema : List Table) (content : ℕ → List ℕ) (state : MetaState) (events : List Event) → IsConsistent state
    → queue_reading schema content state ≡ reads_whole events → Counts 0 (vsn_before (last_segment state)) events

-- how many LFs the bytes have
abbrev pub line_feeds : List ℕ → ℕ
line_feeds [] = 0
line_feeds (byte ∷ bytes) = if byte == line_feed then suc (line_feeds bytes) else line_feeds bytes

-- how many lines close a segment
abbrev pub closing_lines : (closed : Bool) → ℕ
closing_lines false = 0
closing_lines true = 1

-- the committed bytes are all there, and have a line for each event behind this vsn, and the closing line
pub record IsCounted (content : List ℕ) (vsn : ℕ) (segment : SegmentState) : Type 0 where
  pub feeds : line_feeds (take segment.bytes content) ≡ segment.last_vsn - vsn + closing_lines segment.closed
  pub size : length (take segment.bytes content) ≡ segment.bytes

abbrev pub AreCounted : (content : ℕ → List ℕ) → (number vsn : ℕ) → List SegmentState → Type 0
AreCounted content number vsn [] = Unit {0}
AreCounted content number vsn (segment ∷ segments) = IsCounted (content number) vsn segment × AreCounted content (suc number) segment.last_vsn segments

-- where a queue reads whole, its segments have all their bytes, and as many lines as are recorded
abbrev pub LinesAreCounted : Type 0
LinesAreCounted =
    (schema : List Table) (content : ℕ → List ℕ) (state : MetaState) (events : List Event)
    → queue_reading schema content state ≡ reads_whole events → AreCounted content 0 0 state.segments
