-- What a change of the files of the queue does to an export disk as it reads: the snapshots stay.
use Rattle.std.specs.Prelude.{◌≡◌, ◌≢◌, ◌⊎◌, ℕ, suc, List, [], ◌∷◌, Option, Some, None, map}
use Rattle.std.proofs.Common.{arith, inl, inr, refl, sym, ap, subst, ◌∙◌}
use Rattle.voy_disk.specs.Calls.{Change, told, untold}
use Rattle.voy_disk.specs.File.{File}
use Rattle.voy_disk.specs.Files.{Files}
use Rattle.voy_disk.specs.FrameLaws.{one_of_decides}
use Rattle.voy_disk.specs.Frames.{KeepsBeside, OneOf}
use Rattle.voy_disk.specs.Images.{Image, ImagesOf, IsImageAt, bytes_in}
use Rattle.voy_disk.specs.Steps.{after_all}
use Rattle.voy_export.specs.Calls.{IsQueueFile, snapshot_files}
use Rattle.voy_export.specs.Exports.{Exports, contents}
use Rattle.voy_export.specs.Names.{snapshot_file}
use Rattle.voy_export.specs.Put.{AreQueueRecords}
use Rattle.voy_export.specs.Steps.{AddsEvents, export_step}
use Rattle.voy_meta.specs.Meta.{meta_name, records_in, records_told}
use Rattle.voy_meta.specs.State.{after_record, state_after, state_of}
use Rattle.voy_meta.specs.declared.record.MetaRecord.{MetaRecord}
use Rattle.voy_meta.specs.declared.record.MetaRecord.TheVariants as entry
use Rattle.voy_meta.specs.declared.state.MetaState.{MetaState}
use Rattle.voy_meta.specs.declared.state.SegmentState.{SegmentState}
use Rattle.voy_meta.specs.declared.state.SnapshotState.{SnapshotState}
use Rattle.voy_journal.specs.Grammar.{payloads_of}
use Rattle.voy_queue.specs.Names.{segment_name}
use Rattle.voy_queue.specs.Putting.{entry_of}
use Rattle.voy_queue.specs.Shelf.{Commits, committed, segments_in, shelf_after, shelf_in}
use Rattle.voy_queue.specs.declared.end.Added.{Added}
use Rattle.voy_schema.specs.declared.table.Table.{Table}
use Rattle.voy_tables.specs.declared.change.Role.{Role}

-- the images agree on the files of the queue
abbrev pub AgreesOnQueue : Image → Image → Type 0
AgreesOnQueue i k = (name : List ℕ) → IsQueueFile name → k name ≡ i name

committed_agrees : (i k : Image) (number : ℕ) (segments : List SegmentState) → AgreesOnQueue i k → committed k number segments ≡ committed i number segments
committed_agrees i k number [] agrees = refl
committed_agrees i k number (segment ∷ segments) agrees =
    rw (agrees (segment_name number) (inr (number, refl)), committed_agrees i k (suc number) segments agrees) refl

records_agree : (i k : Image) → AgreesOnQueue i k → records_in k ≡ records_in i
records_agree i k agrees = ap (λ (file : Option (List ℕ)). records_told (payloads_of (bytes_in file))) (agrees meta_name (inl refl))

segments_agree : (i k : Image) (records : Option (List MetaRecord)) → AgreesOnQueue i k → segments_in k records ≡ segments_in i records
segments_agree i k None agrees = refl
segments_agree i k (Some entries) agrees = committed_agrees i k 0 (state_of entries).segments agrees

-- so they read as the same shelf
pub shelf_agrees : (i k : Image) → AgreesOnQueue i k → shelf_in k ≡ shelf_in i
shelf_agrees i k agrees =
    ap (λ (records : Option (List MetaRecord)). record { records = records; segments = segments_in k records }) (records_agree i k agrees)
    ∙ ap (λ (segments : List (List ℕ)). record { records = records_in i; segments = segments }) (segments_agree i k (records_in i) agrees)

-- the second byte of the bytes; 0 where there is none
abbrev second : List ℕ → ℕ
second [] = 0
second (a ∷ []) = 0
second (a ∷ b ∷ rest) = b

second_of_snapshot : (table : Table) → second (snapshot_file table) ≡ 110
unfolding snapshot_file
second_of_snapshot table = refl

second_of_meta : second meta_name ≡ 101
unfolding meta_name
second_of_meta = refl

second_of_segment : (number : ℕ) → second (segment_name number) ≡ 101
unfolding segment_name
second_of_segment number = refl

apart : (a b : List ℕ) → second a ≡ 110 → second b ≡ 101 → a ≢ b
apart a b n e same = off (sym n ∙ ap second same ∙ e) where
  off : ◌≡◌ {A = ℕ} 110 101 → ⊥
  off never = grind (arith, never)

no_meta : (table : Table) → snapshot_file table ≢ meta_name
no_meta table = apart (snapshot_file table) meta_name (second_of_snapshot table) second_of_meta

no_segment : (table : Table) (number : ℕ) → snapshot_file table ≢ segment_name number
no_segment table number = apart (snapshot_file table) (segment_name number) (second_of_snapshot table) (second_of_segment number)

-- a snapshot file is no file of the queue
pub snapshot_apart : (schema : List Table) (name : List ℕ) → OneOf (snapshot_files schema) name → IsQueueFile name → ⊥
snapshot_apart [] name one queue = one
snapshot_apart (table ∷ tables) name (inl is) (inl meta) = no_meta table (sym is ∙ meta)
snapshot_apart (table ∷ tables) name (inl is) (inr segment) = no_segment table segment.0 (sym is ∙ segment.1)
snapshot_apart (table ∷ tables) name (inr one) queue = snapshot_apart tables name one queue

-- one of two, by whether a name is among some
abbrev chosen : {A X : Type 0} → A ⊎ (A → ⊥) → X → X → X
chosen (inl is) here elsewhere = here
chosen (inr apart) here elsewhere = elsewhere

chosen_there : {A X : Type 0} (P : X → Type 0) (test : A ⊎ (A → ⊥)) (here elsewhere : X) → (A → P here) → P elsewhere → P (chosen test here elsewhere)
chosen_there P (inl is) here elsewhere p q = p is
chosen_there P (inr apart) here elsewhere p q = q

chosen_here : {A X : Type 0} (test : A ⊎ (A → ⊥)) (here elsewhere : X) → A → chosen test here elsewhere ≡ here
chosen_here (inl is) here elsewhere a = refl
chosen_here (inr apart) here elsewhere a = absurd (apart a)

chosen_apart : {A X : Type 0} (test : A ⊎ (A → ⊥)) (here elsewhere : X) → (A → ⊥) → chosen test here elsewhere ≡ elsewhere
chosen_apart (inl is) here elsewhere apart = absurd (apart is)
chosen_apart (inr beside) here elsewhere apart = refl

-- the image before with the snapshot files of the one after
abbrev pub mixed : List Table → Image → Image → Image
mixed schema i j name = chosen (one_of_decides (snapshot_files schema) name) (j name) (i name)

pub mixed_queue : (schema : List Table) (i j : Image) → AgreesOnQueue i (mixed schema i j)
mixed_queue schema i j name queue =
    chosen_apart (one_of_decides (snapshot_files schema) name) (j name) (i name) (λ one. snapshot_apart schema name one queue)

contents_agree : (i j : Image) (tables : List Table) (recorded : List SnapshotState)
    → ((name : List ℕ) → OneOf (snapshot_files tables) name → i name ≡ j name) → contents i tables recorded ≡ contents j tables recorded
contents_agree i j [] recorded agrees = refl
contents_agree i j (table ∷ tables) [] agrees = refl
contents_agree i j (table ∷ tables) (one ∷ more) agrees =
    rw (agrees (snapshot_file table) (inl refl), contents_agree i j tables more (λ name is. agrees name (inr is))) refl

pub mixed_contents : (schema : List Table) (i j : Image) (recorded : List SnapshotState) → contents (mixed schema i j) schema recorded ≡ contents j schema recorded
mixed_contents schema i j recorded =
    contents_agree (mixed schema i j) j schema recorded (λ name one. chosen_here (one_of_decides (snapshot_files schema) name) (j name) (i name) one)

-- where only files of the queue changed, it is an image of before
pub mixed_was : (schema : List Table) {old new : Option Files} (i j : Image) → Change (KeepsBeside IsQueueFile) old new
    → ImagesOf old i → ImagesOf new j → ImagesOf old (mixed schema i j)
mixed_was schema i j untold was is = absurd is
mixed_was schema i j (told {old = x} {new = y} keeps) was is = λ name.
    chosen_there (IsImageAt (x name)) (one_of_decides (snapshot_files schema) name) (j name) (i name)
    (λ one. subst (λ (file : Option File). IsImageAt file (j name)) (keeps name (λ queue. snapshot_apart schema name one queue)) (is name)) (was name)

-- records of the queue leave the recorded snapshots
one_stays : (state : MetaState) (e : MetaRecord) → AreQueueRecords (e ∷ []) → (after_record state e).snapshots ≡ state.snapshots
unfolding after_record
one_stays state (entry.Queue segment bytes vsn role spot closed ended) queue = refl
one_stays state (entry.Version version) queue = absurd queue.0
one_stays state (entry.Snapshot table of bytes rows) queue = absurd queue.0
one_stays state (entry.Request side fall_back) queue = absurd queue.0
one_stays state (entry.Channels side count) queue = absurd queue.0
one_stays state (entry.Finished side segment) queue = absurd queue.0
one_stays state (entry.Done side) queue = absurd queue.0
one_stays state entry.Loaded queue = absurd queue.0

pub snapshots_stay : (state : MetaState) (more : List MetaRecord) → AreQueueRecords more → (state_after state more).snapshots ≡ state.snapshots
snapshots_stay state [] queue = refl
snapshots_stay state (e ∷ more) queue = snapshots_stay (after_record state e) more queue.1 ∙ one_stays state e (queue.0, tt)

pub entries_are_queue : (role : Role) (pending : List Added) → AreQueueRecords (map (entry_of role) pending)
entries_are_queue role [] = tt
entries_are_queue role (one ∷ more) = (tt, entries_are_queue role more)

-- commits as steps of an export disk
pub steps_are_commits : (exports : Exports) (commits : List Commits)
    → after_all export_step exports (map AddsEvents commits) ≡ record { shelf = after_all shelf_after exports.shelf commits; snapshots = exports.snapshots }
steps_are_commits exports [] = refl
steps_are_commits exports (c ∷ cs) = steps_are_commits (export_step exports (AddsEvents c)) cs
