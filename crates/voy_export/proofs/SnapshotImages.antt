-- What a snapshot's calls leave of the exports in each image: what stood, and then a record with its file more.
use Rattle.std.proofs.Common.{◌≡◌, ◌≢◌, ◌<◌, ℕ, suc, true, List, [], ◌∷◌, ◌++◌, Some, length, take, refl, sym, ap, ◌∙◌, arith}
use Rattle.std.specs.Prelude.{slice_get}
use Rattle.std.specs.Option.{option_map}
use Rattle.std.proofs.lemmas.List.{append-nil}
use Rattle.voy_disk.specs.Images.{Image, SameBut, bytes_in}
use Rattle.voy_export.specs.Exports.{contents, exports_in, snapshots_in}
use Rattle.voy_export.specs.Names.{snapshot_file}
use Rattle.voy_export.specs.Steps.{AddsSnapshot, export_step}
use Rattle.voy_export.proofs.NameLemmas.{one_snapshot_file, segment_is_no_meta, snapshot_is_no_meta, snapshot_is_no_segment}
use Rattle.voy_journal.specs.Journal.{payloads_in}
use Rattle.voy_meta.specs.FoldLaws.{state_on}
use Rattle.voy_meta.specs.Meta.{AddsRecords, ReadsAs, meta_name, records_in, records_told}
use Rattle.voy_meta.specs.State.{after_record, empty_state, state_of}
use Rattle.voy_meta.specs.declared.record.MetaRecord.{MetaRecord}
use Rattle.voy_meta.specs.declared.record.MetaRecord.TheVariants.{Snapshot}
use Rattle.voy_meta.specs.declared.state.MetaState.{MetaState}
use Rattle.voy_meta.specs.declared.state.SegmentState.{SegmentState}
use Rattle.voy_meta.specs.declared.state.SnapshotState.{SnapshotState}
use Rattle.voy_queue.specs.Names.{segment_name}
use Rattle.voy_queue.specs.Shelf.{committed, segments_in}
use Rattle.voy_schema.specs.Lawful.{is_lawful}
use Rattle.voy_schema.specs.LawfulLaws.{place_of-at, table_is_lawful}
use Rattle.voy_schema.specs.Lawful.{place_of}
use Rattle.voy_schema.specs.declared.table.Table.{Table}

-- ---- the files of other tables

some_place : {m n : ℕ} → Some m ≡ Some n → m ≡ n
some_place {m} {n} same = cc

-- tables at two places have two files
pub files_apart : (schema : List Table) (at number : ℕ) (a b : Table) → is_lawful schema ≡ true → slice_get schema at ≡ Some a → slice_get schema number ≡ Some b
    → at < number → snapshot_file a ≢ snapshot_file b
files_apart schema at number a b lawful found_a found_b below = λ same.
    let names = one_snapshot_file a b (table_is_lawful schema at a lawful found_a) (table_is_lawful schema number b lawful found_b) same in
    let one : at ≡ number =
    some_place (sym (place_of-at schema at a lawful found_a) ∙ ap (λ name. place_of name a.table_name schema) names.0
    ∙ ap (λ name. place_of b.schema_name name schema) names.1 ∙ place_of-at schema number b lawful found_b) in
    omega (arith, one, below)

-- ---- where another file changes

committed_beside : (i j : Image) (name : List ℕ) (number : ℕ) (segments : List SegmentState) → SameBut name i j → ((n : ℕ) → segment_name n ≢ name)
    → committed j number segments ≡ committed i number segments
committed_beside i j name number [] others apart = refl
committed_beside i j name number (s ∷ segments) others apart =
    ap (λ bytes. take s.bytes (bytes_in bytes) ∷ committed j (suc number) segments) (others (segment_name number) (apart number))
    ∙ ap (λ rest. take s.bytes (bytes_in (i (segment_name number))) ∷ rest) (committed_beside i j name (suc number) segments others apart)

-- the files of these tables, as far as they are recorded, go by other names
abbrev AreApart : List ℕ → List Table → List SnapshotState → Type 0
AreApart name tables snaps = (at : ℕ) (table : Table) → at < length snaps → slice_get tables at ≡ Some table → snapshot_file table ≢ name

contents_beside : (i j : Image) (name : List ℕ) (tables : List Table) (snaps : List SnapshotState) → SameBut name i j → AreApart name tables snaps
    → contents j tables snaps ≡ contents i tables snaps
contents_beside i j name [] snaps others apart = refl
contents_beside i j name (table ∷ tables) [] others apart = refl
contents_beside i j name (table ∷ tables) (one ∷ snaps) others apart =
    ap (λ file. file ∷ contents j tables snaps) (others (snapshot_file table) (apart 0 table (omega arith) refl))
    ∙ ap (λ rest. i (snapshot_file table) ∷ rest)
    (contents_beside i j name tables snaps others (λ at t below found. apart (suc at) t (omega (arith, below)) found))

records_beside : (name : List ℕ) (i j : Image) → name ≢ meta_name → SameBut name i j → records_in j ≡ records_in i
records_beside name i j apart others = ap (λ file. records_told (payloads_in meta_name (λ other. file))) (others meta_name (λ same. apart (sym same)))

-- the exports of records that are known
pub exports_is : (schema : List Table) (image : Image) (entries : List MetaRecord) → records_in image ≡ Some entries
    → exports_in schema image ≡ record {
      shelf = record { records = Some entries; segments = committed image 0 (state_of entries).segments };
      snapshots = contents image schema (state_of entries).snapshots;
    }
exports_is schema image entries is =
    ap (λ found. record { shelf = record { records = found; segments = segments_in image found }; snapshots = snapshots_in schema image found }) is

-- where a file that is recorded nowhere changes
pub exports_kept : (schema : List Table) (state : MetaState) (number : ℕ) (table : Table) (i j : Image) → is_lawful schema ≡ true
    → length state.snapshots ≡ number → slice_get schema number ≡ Some table
    → ReadsAs state i → SameBut (snapshot_file table) i j → exports_in schema j ≡ exports_in schema i
exports_kept schema state number table i j lawful next found reads others =
    let same = records_beside (snapshot_file table) i j (snapshot_is_no_meta table) others in
    let snaps : length (state_of reads.entries).snapshots ≡ number = ap (λ (s : MetaState). length s.snapshots) (sym reads.state_is) ∙ next in
    exports_is schema j reads.entries (same ∙ reads.read)
    ∙ ap (λ segments. record { shelf = record { records = Some reads.entries; segments = segments }; snapshots = contents j schema (state_of reads.entries).snapshots })
    (committed_beside i j (snapshot_file table) 0 (state_of reads.entries).segments others (λ n is. snapshot_is_no_segment table n (sym is)))
    ∙ ap (λ snapshots. record { shelf = record { records = Some reads.entries; segments = committed i 0 (state_of reads.entries).segments }; snapshots = snapshots })
    (contents_beside i j (snapshot_file table) schema (state_of reads.entries).snapshots others
    (λ at t below found_t. files_apart schema at number t table lawful found_t found (omega (arith, below, snaps))))
    ∙ sym (exports_is schema i reads.entries reads.read)

-- with no record more
pub exports_same : (schema : List Table) (state : MetaState) (j k : Image) → ReadsAs state j → AddsRecords [] j k → exports_in schema k ≡ exports_in schema j
exports_same schema state j k reads adds =
    let now : records_in k ≡ Some reads.entries =
    adds.records ∙ ap (λ found. option_map (λ entries. entries ++ []) found) reads.read ∙ ap Some (append-nil reads.entries) in
    exports_is schema k reads.entries now
    ∙ ap (λ segments. record { shelf = record { records = Some reads.entries; segments = segments }; snapshots = contents k schema (state_of reads.entries).snapshots })
    (committed_beside j k meta_name 0 (state_of reads.entries).segments adds.others segment_is_no_meta)
    ∙ ap (λ snapshots. record { shelf = record { records = Some reads.entries; segments = committed j 0 (state_of reads.entries).segments }; snapshots = snapshots })
    (contents_beside j k meta_name schema (state_of reads.entries).snapshots adds.others (λ at t below found. snapshot_is_no_meta t))
    ∙ sym (exports_is schema j reads.entries reads.read)

-- ---- a snapshot more

contents_added : (image : Image) (tables : List Table) (snaps : List SnapshotState) (table : Table) (one : SnapshotState) (text : List ℕ)
    → slice_get tables (length snaps) ≡ Some table → image (snapshot_file table) ≡ Some text
    → contents image tables (snaps ++ one ∷ []) ≡ contents image tables snaps ++ Some text ∷ []
contents_added image [] snaps table one text found has = cc
contents_added image (t ∷ tables) [] table one text found has =
    let same : t ≡ table = cc in
    ap (λ (t : Table). image (snapshot_file t) ∷ contents image tables []) same
    ∙ ap (λ file. file ∷ contents image tables []) has
    ∙ ap (λ rest. Some text ∷ rest) (nothing tables)
  where
    nothing : (tables : List Table) → contents image tables [] ≡ []
    nothing [] = refl
    nothing (t ∷ tables) = refl
contents_added image (t ∷ tables) (s ∷ snaps) table one text found has =
    ap (λ rest. image (snapshot_file t) ∷ rest) (contents_added image tables snaps table one text found has)

snapshots_more : (state : MetaState) (number of bytes rows : ℕ) → (after_record state (Snapshot number of bytes rows)).snapshots ≡ state.snapshots ++ record { bytes = bytes; rows = rows } ∷ []
unfolding after_record
snapshots_more state number of bytes rows = refl

segments_stay : (state : MetaState) (number of bytes rows : ℕ) → (after_record state (Snapshot number of bytes rows)).segments ≡ state.segments
unfolding after_record
segments_stay state number of bytes rows = refl

pub exports_added : (schema : List Table) (state : MetaState) (number : ℕ) (table : Table) (of rows : ℕ) (text : List ℕ) (j k : Image)
    → length state.snapshots ≡ number → slice_get schema number ≡ Some table → j (snapshot_file table) ≡ Some text → ReadsAs state j
    → AddsRecords (Snapshot number of (length text) rows ∷ []) j k
    → exports_in schema k ≡ export_step (exports_in schema j) (AddsSnapshot (Snapshot number of (length text) rows) text)
exports_added schema state number table of rows text j k next found has reads adds =
    let entry = Snapshot number of (length text) rows in
    let one : SnapshotState = record { bytes = length text; rows = rows } in
    let old = state_of reads.entries in
    let now : records_in k ≡ Some (reads.entries ++ entry ∷ []) =
    adds.records ∙ ap (λ found. option_map (λ entries. entries ++ entry ∷ []) found) reads.read in
    let comes : state_of (reads.entries ++ entry ∷ []) ≡ after_record old entry = state_on empty_state reads.entries (entry ∷ []) in
    let segments : (state_of (reads.entries ++ entry ∷ [])).segments ≡ old.segments = ap (λ (s : MetaState). s.segments) comes ∙ segments_stay old number of (length text) rows in
    let snapshots : (state_of (reads.entries ++ entry ∷ [])).snapshots ≡ old.snapshots ++ one ∷ [] = ap (λ (s : MetaState). s.snapshots) comes ∙ snapshots_more old number of (length text) rows in
    let count : length old.snapshots ≡ number = ap (λ (s : MetaState). length s.snapshots) (sym reads.state_is) ∙ next in
    exports_is schema k (reads.entries ++ entry ∷ []) now
    ∙ ap (λ bytes. record { shelf = record { records = Some (reads.entries ++ entry ∷ []); segments = bytes }; snapshots = contents k schema (state_of (reads.entries ++ entry ∷ [])).snapshots })
    (ap (committed k 0) segments ∙ committed_beside j k meta_name 0 old.segments adds.others segment_is_no_meta)
    ∙ ap (λ bytes. record { shelf = record { records = Some (reads.entries ++ entry ∷ []); segments = committed j 0 old.segments }; snapshots = bytes })
    (ap (contents k schema) snapshots ∙ contents_beside j k meta_name schema (old.snapshots ++ one ∷ []) adds.others (λ at t below found. snapshot_is_no_meta t)
    ∙ contents_added j schema old.snapshots table one text (ap (slice_get schema) count ∙ found) has)
    ∙ sym (ap (λ exports. export_step exports (AddsSnapshot entry text)) (exports_is schema j reads.entries reads.read))
