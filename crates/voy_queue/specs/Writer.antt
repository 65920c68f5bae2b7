-- What contracts see of a writer, and what it asks of the disk that it is lent.
use Rattle.std.specs.Prelude.{◌≡◌, ◌≤◌, ℕ, Bool, List, [], ◌∷◌, Option, length, map}
use Rattle.voy_append.specs.Appending.{IsSafeTo}
use Rattle.voy_disk.specs.Files.{Files, IfTold}
use Rattle.voy_disk.specs.Fronts.{HasFront}
use Rattle.voy_disk.specs.Images.{Image}
use Rattle.voy_event.specs.EventLine.{max_event_line_bytes}
use Rattle.voy_event.specs.LawfulEvent.{IsLawful}
use Rattle.voy_event.specs.LineText.{line_text}
use Rattle.voy_event.specs.declared.event.Event.{Event}
use Rattle.voy_meta.specs.declared.limits.TheConstants.{MAX_SEGMENT}
use Rattle.voy_meta.specs.Meta.{meta_name}
use Rattle.voy_meta.specs.declared.record.MetaRecord.{MetaRecord}
use Rattle.voy_queue.specs.Names.{segment_name}
use Rattle.voy_queue.specs.Putting.{MayFollow, commit_of, end_of, entry_of, room_for}
use Rattle.voy_queue.specs.Shelf.{Commits, shelf_in}
use Rattle.voy_queue.specs.declared.end.Added.{Added}
use Rattle.voy_queue.specs.declared.end.End.{End}
use Rattle.voy_queue.specs.declared.writer.Writer.{Writer}
use Rattle.voy_schema.specs.declared.table.Table.{Table}
use Rattle.voy_tables.specs.declared.change.Role.{Role}
use Rattle.voy_tables.specs.declared.change.Spot.{Spot}

-- events may be put and committed
abbrev pub is_live : Writer → Bool
is_live writer = writer.live

-- whose events it puts
abbrev pub writer_role : Writer → Role
writer_role writer = writer.role

-- at how many bytes of event lines it closes a segment
abbrev pub closing_size : Writer → ℕ
closing_size writer = writer.max_bytes

-- where the queue ends by the last commit, and with what was put since
abbrev pub committed_end : Writer → End
committed_end writer = writer.end

abbrev pub pending : Writer → List Added
pending writer = writer.pending

abbrev pub writer_end : Writer → End
writer_end writer = end_of writer.end writer.pending

-- what a commit adds, in order: records, and records with their bytes
abbrev pub entries_of : Writer → List MetaRecord
entries_of writer = map (entry_of writer.role) writer.pending

abbrev pub commits_of : Writer → List Commits
commits_of writer = map (commit_of writer.role) writer.pending

-- the files that a commit of these writes: the metadata, and those of the segments
abbrev pub names_of : List Added → List (List ℕ)
names_of added = meta_name ∷ map (λ (one : Added). segment_name one.end.number) added

-- an event that may be put: it belongs to the schema, a segment is left for it, and it may follow where its line is within the limit
pub record MayPut (schema : List Table) (writer : Writer) (event : Event) (spot : Option Spot) : Type 0 where
  pub lawful : IsLawful schema event
  pub room : (room_for (writer_end writer)).number ≤ MAX_SEGMENT
  pub follows : length (line_text schema event) ≤ max_event_line_bytes → MayFollow schema writer.role (writer_end writer) event spot

-- what a writer asks of the disk that it is lent, where told: the file of the last segment has just its committed bytes, all safe
abbrev pub StandsIn : End → Files → Type 0
StandsIn end = IsSafeTo (segment_name end.number) end.bytes

-- the file of each of these segments has just the bytes up to its end, all safe
abbrev pub AllStand : List Added → Files → Type 0
AllStand [] files = Unit {0}
AllStand (one ∷ more) files = StandsIn one.end files × AllStand more files

abbrev pub WriterStands : Writer → Option Files → Type 0
WriterStands writer files = IfTold files (StandsIn writer.end)

-- the committed bytes of the last segment are the same in every image
pub record EndIsSafe (end : End) (images : Image → Type 0) : Type 0 where
  pub front : List ℕ
  pub size : length front ≡ end.bytes
  pub has : HasFront (segment_name end.number) front images

-- the image reads as the same shelf
abbrev pub KeepsShelf : Image → Image → Type 0
KeepsShelf i j = shelf_in j ≡ shelf_in i
