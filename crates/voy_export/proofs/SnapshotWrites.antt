-- What the snapshot of one table leaves: its file, and the exports in each image.
use Rattle.std.proofs.Common.{◌≡◌, ◌≢◌, ◌≤◌, ◌<◌, ◌⊎◌, inl, inr, ℕ, zero, suc, true, false, List, [], ◌∷◌, ◌++◌, Option, Some, None, Result, Ok, Err, ◌==◌, ◌||◌, length, refl, sym, ap, ◌∙◌, subst, arith}
use Rattle.std.specs.Prelude.{OnOk, slice_get}
use Rattle.std.proofs.lemmas.Bool.{and_from, eq-eqb, le-leb, lt-ltb, ne_eqb}
use Rattle.std.proofs.lemmas.List.{nil_from_length}
use Rattle.voy_append.specs.Appending.{IsSafeBehind}
use Rattle.voy_disk.specs.Calls.{Change}
use Rattle.voy_disk.specs.File.{settled}
use Rattle.voy_disk.specs.FileLaws.{one_image}
use Rattle.voy_disk.specs.Files.{Files, IfTold}
use Rattle.voy_disk.specs.FrameLaws.{files_beside_again, files_beside_more, files_beside_nothing}
use Rattle.voy_disk.specs.Frames.{KeepsBeside, KeepsOtherFiles, OneName, OneOf}
use Rattle.voy_disk.specs.Fronts.{KeepsFront}
use Rattle.voy_disk.specs.ImageLaws.{image_there}
use Rattle.voy_disk.specs.Images.{Image, ImagesOf, SameBut}
use Rattle.voy_disk.specs.ReachLaws.{reaches_nothing, reaches_one}
use Rattle.voy_disk.specs.StepLaws.{follows_weaker, some_of_one}
use Rattle.voy_disk.specs.Steps.{Does, Every, Follows, Goes, LeavesPrefix, Reaches}
use Rattle.voy_export.specs.Calls.{snapshot_entry, snapshot_files}
use Rattle.voy_export.specs.Exports.{exports_in}
use Rattle.voy_export.specs.Names.{snapshot_file}
use Rattle.voy_export.specs.Recording.{Recording}
use Rattle.voy_export.specs.Snapshots.{HasRowsAt, file_at, file_of}
use Rattle.voy_export.specs.Steps.{AddsSnapshot, ExportStep, MayExport, export_step}
use Rattle.voy_export.proofs.NameLemmas.{snapshot_is_no_meta}
use Rattle.voy_export.proofs.SnapshotImages.{exports_added, exports_kept, exports_same}
use Rattle.voy_export.proofs.SnapshotTexts.{few_rows}
use Rattle.voy_meta.specs.Allowed.{is_allowed}
use Rattle.voy_meta.specs.Meta.{AddsRecords, MetaStands, ReadsAs, meta_name, meta_state}
use Rattle.voy_meta.specs.MetaLaws.{stands_beside_one, state_in_each}
use Rattle.voy_meta.specs.declared.limits.TheConstants.{MAX_SNAPSHOT_BYTES, VERSION}
use Rattle.voy_meta.specs.declared.meta.Meta.{Meta}
use Rattle.voy_meta.specs.State.{state_of}
use Rattle.voy_meta.specs.declared.record.MetaRecord.{MetaRecord}
use Rattle.voy_meta.specs.declared.record.MetaRecord.TheVariants.{Snapshot}
use Rattle.voy_meta.specs.declared.state.MetaState.{MetaState}
use Rattle.voy_meta.specs.declared.state.SnapshotState.{SnapshotState}
use Rattle.voy_schema.specs.Lawful.{is_lawful}
use Rattle.voy_schema.specs.LawfulLaws.{table_count}
use Rattle.voy_schema.specs.declared.table.Table.{Table}
use Rattle.voy_schema.specs.declared.value.Value.{Value}
use Rattle.voy_tables.specs.RowText.{row_lines}

-- ---- the table of a number

pub table_at : (schema : List Table) (number : ℕ) → number < length schema → (table : Table) × (slice_get schema number ≡ Some table)
table_at [] number within = absurd (omega (arith, within))
table_at (table ∷ schema) zero within = (table, refl)
table_at (table ∷ schema) (suc number) within = table_at schema number (omega (arith, within))

-- its file is one of those of the schema
file_among : (schema : List Table) (number : ℕ) (table : Table) → slice_get schema number ≡ Some table → OneOf (snapshot_files schema) (snapshot_file table)
file_among [] number table found = cc
file_among (t ∷ schema) zero table found = let same : t ≡ table = cc in inl (ap snapshot_file (sym same))
file_among (t ∷ schema) (suc number) table found = inr (file_among schema number table found)

-- ---- the record

some_snapshots : (snaps : List SnapshotState) (n : ℕ) → length snaps ≡ suc n → snaps ≢ []
some_snapshots [] n size = absurd (omega (arith, size))
some_snapshots (s ∷ snaps) n size = λ is. cc

of_as_many : (state : MetaState) (of number : ℕ) → length state.snapshots ≡ number → (state.snapshots ≢ [] → state.tables ≡ of) → ((number == 0) || (of == state.tables)) ≡ true
of_as_many state of zero next tables = refl
of_as_many state of (suc n) next tables =
    let some : (suc n == 0) ≡ false = ne_eqb (suc n) 0 (λ is. omega (arith, is)) in
    rw some (eq-eqb of state.tables (sym (tables (some_snapshots state.snapshots n next))))

pub may_record : (schema : List Table) (state : MetaState) (number : ℕ) (rows : List (List Value)) → is_lawful schema ≡ true → number < length schema
    → state.version ≡ VERSION → length state.snapshots ≡ number → (state.snapshots ≢ [] → state.tables ≡ length schema)
    → length (row_lines rows) ≤ MAX_SNAPSHOT_BYTES → is_allowed state (snapshot_entry (length schema) number rows) ≡ true
unfolding is_allowed
may_record schema state number rows lawful within version next tables few =
    let count = (table_count schema lawful).1 in
    and_from _ _ (lt-ltb 0 state.version (omega (arith, version)))
    (and_from _ _ (eq-eqb number (length state.snapshots) (sym next))
    (and_from _ _ (lt-ltb number (length schema) within)
    (and_from _ _ (le-leb (length schema) _ count)
    (and_from _ _ (of_as_many state (length schema) number next tables)
    (and_from _ _ (le-leb (length (row_lines rows)) MAX_SNAPSHOT_BYTES few) (le-leb (length rows) (length (row_lines rows)) (few_rows rows)))))))

-- ---- the images

-- a file that was made anew has its text in each image
text_in_each : (files : Option Files) (name text : List ℕ) → IfTold files (IsSafeBehind name 0 text) → Every (ImagesOf files) (λ image. image name ≡ Some text)
text_in_each None name text safe = record { each = λ image is. absurd is }
text_in_each (Some fs) name text safe = let at = safe fs refl in record {
  each = λ image is.
      let there = image_there (fs name) (image name) (settled (at.front ++ text)) at.is (is name) in
      let bare : at.front ≡ [] = nil_from_length at.front at.size in
      there.is ∙ ap Some (one_image (at.front ++ text) there.bytes there.of_file ∙ ap (λ front. front ++ text) bare);
}

module _ {I R K : Type 0} (reads : I → R) (step : R → K → R) (may : R → K → Type 0) where
  does_moves : (k : K) (i j : I) → may (reads i) k → (reads j ≡ reads i) ⊎ (reads j ≡ step (reads i) k) → Reaches step may (reads i) (reads j)
  does_moves k i j allowed (inl same) = subst (λ r. Reaches step may (reads i) r) (sym same) (reaches_nothing step may (reads i))
  does_moves k i j allowed (inr more) = subst (λ r. Reaches step may (reads i) r) (sym more) (reaches_one step may (reads i) k allowed)

  -- a step that was done or not, and that each image allows
  pub prefix_moves : (k : K) (a c : I → Type 0) → Every a (λ i. may (reads i) k) → LeavesPrefix (Does reads step) (k ∷ []) a c → Goes reads step may a c
  prefix_moves k a c allowed leaves = record {
    from = λ j is.
        let x = leaves.from j is in
        record { before = x.before; was = x.was; by = does_moves k x.before j (allowed.each x.before x.was) (some_of_one (Does reads step) k x.before j x.by) };
  }

  -- where nothing more reads
  pub same_moves : (a c : I → Type 0) → Follows (λ i j. reads j ≡ reads i) a c → Goes reads step may a c
  same_moves a c same = follows_weaker same (λ i j is. subst (λ r. Reaches step may (reads i) r) (sym is) (reaches_nothing step may (reads i)))

module _ (schema : List Table) (lawful : is_lawful schema ≡ true) (meta : Meta) (number : ℕ) (rows : List (List Value)) (within : number < length schema)
    (name : List ℕ) (named : name ≡ file_at schema number)
    (a : Option Files) (stands : MetaStands meta a) (next : length (meta_state meta).snapshots ≡ number) where
  abbrev entry : MetaRecord
  entry = snapshot_entry (length schema) number rows

  abbrev step : ExportStep
  step = AddsSnapshot entry (row_lines rows)

  abbrev table : Table
  table = (table_at schema number within).0

  found : slice_get schema number ≡ Some table
  found = (table_at schema number within).1

  name_is : name ≡ snapshot_file table
  name_is = named ∙ ap file_of found

  no_meta : name ≢ meta_name
  no_meta same = snapshot_is_no_meta table (sym name_is ∙ same)

  kept : (i j : Image) → ReadsAs (meta_state meta) i → KeepsFront name 0 i j → exports_in schema j ≡ exports_in schema i
  kept i j reads keeps = exports_kept schema (meta_state meta) number table i j lawful next found reads (subst (λ name. SameBut name i j) name_is keeps.others)

  written : {b : Image → Type 0} → Follows (KeepsFront name 0) (ImagesOf a) b → Follows (λ i j. exports_in schema j ≡ exports_in schema i) (ImagesOf a) b
  written keeps = record {
    from = λ j is.
        let x = keeps.from j is in
        record { before = x.before; was = x.was; by = kept x.before j ((state_in_each meta a stands).each x.before x.was) x.by };
  }

  -- nothing was recorded yet
  pub written_leaves : {b : Image → Type 0} → Follows (KeepsFront name 0) (ImagesOf a) b → LeavesPrefix (Does (exports_in schema) export_step) (step ∷ []) (ImagesOf a) b
  written_leaves keeps = follows_weaker (written keeps) (λ i j same. (0, same))

  pub written_moves : (recording : Recording) {b : Image → Type 0} → Follows (KeepsFront name 0) (ImagesOf a) b
      → Goes (exports_in schema) export_step (MayExport recording) (ImagesOf a) b
  written_moves recording {b} keeps = same_moves (exports_in schema) export_step (MayExport recording) (ImagesOf a) b (written keeps)

  -- the metadata, where only the file of a snapshot changes
  pub meta_stays : {b : Option Files} → Change (KeepsOtherFiles name) a b → MetaStands meta b
  meta_stays others = stands_beside_one meta name no_meta others stands

  -- ---- beside

  among : (n : List ℕ) → OneName name n → OneOf (meta_name ∷ snapshot_files schema) n
  among n is = inr (subst (λ m. OneOf (snapshot_files schema) m) (sym (is ∙ name_is)) (file_among schema number table found))

  pub file_beside : {b : Option Files} → Change (KeepsOtherFiles name) a b → Change (KeepsBeside (OneOf (meta_name ∷ snapshot_files schema))) a b
  file_beside others = files_beside_more (OneName name) (OneOf (meta_name ∷ snapshot_files schema)) among others

  pub both_beside : {b c : Option Files} → Change (KeepsOtherFiles name) a b → Change (KeepsOtherFiles meta_name) b c
      → Change (KeepsBeside (OneOf (meta_name ∷ snapshot_files schema))) a c
  both_beside first second =
      files_beside_again (OneOf (meta_name ∷ snapshot_files schema)) (file_beside first)
      (files_beside_more (OneName meta_name) (OneOf (meta_name ∷ snapshot_files schema)) (λ n is. inl is) second)

  -- ---- with its record

  module _ (b : Option Files) (c : Image → Type 0) (text : List ℕ) (text_is : text ≡ row_lines rows) (put : MetaRecord) (put_is : put ≡ entry)
      (keeps : Follows (KeepsFront name 0) (ImagesOf a) (ImagesOf b))
      (others : Change (KeepsOtherFiles name) a b) (safe : IfTold b (IsSafeBehind name 0 text)) where
    added : (i j k : Image) → ReadsAs (meta_state meta) i → ImagesOf b j → KeepsFront name 0 i j → AddsRecords (put ∷ []) j k
        → exports_in schema k ≡ export_step (exports_in schema i) step
    added i j k reads is same adds =
        let reads_j = (state_in_each meta b (meta_stays others)).each j is in
        let has = (text_in_each b name text safe).each j is in
        exports_added schema (meta_state meta) number table (length schema) (length rows) (row_lines rows) j k next found (ap j (sym name_is) ∙ has ∙ ap Some text_is) reads_j
        (subst (λ e. AddsRecords (e ∷ []) j k) put_is adds)
        ∙ ap (λ exports. export_step exports step) (kept i j reads same)

    not_added : (i j k : Image) → ReadsAs (meta_state meta) i → ImagesOf b j → KeepsFront name 0 i j → AddsRecords [] j k
        → exports_in schema k ≡ exports_in schema i
    not_added i j k reads is same adds =
        let reads_j = (state_in_each meta b (meta_stays others)).each j is in
        exports_same schema (meta_state meta) j k reads_j adds ∙ kept i j reads same

    pub recorded_all : {T E : Type 0} (result : Result T E) → OnOk result (Follows (AddsRecords (put ∷ [])) (ImagesOf b) c)
        → OnOk result (Follows (Does (exports_in schema) export_step (step ∷ [])) (ImagesOf a) c)
    recorded_all (Err error) adds = tt
    recorded_all (Ok value) adds = record {
      from = λ k is.
          let y = adds.from k is in
          let x = keeps.from y.before y.was in
          record { before = x.before; was = x.was; by = added x.before y.before k ((state_in_each meta a stands).each x.before x.was) y.was x.by y.by };
    }

    pub recorded_leaves : LeavesPrefix AddsRecords (put ∷ []) (ImagesOf b) c → LeavesPrefix (Does (exports_in schema) export_step) (step ∷ []) (ImagesOf a) c
    recorded_leaves adds = record {
      from = λ k is.
          let y = adds.from k is in
          let x = keeps.from y.before y.was in
          let reads = (state_in_each meta a stands).each x.before x.was in
          record {
            before = x.before;
            was = x.was;
            by = elim (some_of_one AddsRecords put y.before k y.by) [
              | inl none ↦ (0, not_added x.before y.before k reads y.was x.by none)
              | inr all ↦ (1, added x.before y.before k reads y.was x.by all)
            ];
          };
    }

    pub recorded_moves : (recording : Recording) → HasRowsAt recording schema number rows → is_allowed (meta_state meta) entry ≡ true
        → LeavesPrefix AddsRecords (put ∷ []) (ImagesOf b) c → Goes (exports_in schema) export_step (MayExport recording) (ImagesOf a) c
    recorded_moves recording has allowed adds =
        prefix_moves (exports_in schema) export_step (MayExport recording) step (ImagesOf a) c may (recorded_leaves adds)
      where
        may : Every (ImagesOf a) (λ i. MayExport recording (exports_in schema i) step)
        may = record {
          each = λ i is.
              let reads = (state_in_each meta a stands).each i is in
              let count : length (meta_state meta).snapshots ≡ length (state_of reads.entries).snapshots = ap (λ (s : MetaState). length s.snapshots) reads.state_is in
              let place : number ≡ length (state_of reads.entries).snapshots = sym next ∙ count in
              record {
                entries = reads.entries;
                read = reads.read;
                allowed = subst (λ state. is_allowed state entry ≡ true) reads.state_is allowed;
                rows = rows;
                recorded = subst (λ n. slice_get recording.rows n ≡ Some (Some rows)) place has.has;
                content_is = refl;
                entry_is = ap (λ n. Snapshot n (length schema) (length (row_lines rows)) (length rows)) place
                    ∙ ap (λ (s : List Table). Snapshot (length (state_of reads.entries).snapshots) (length s) (length (row_lines rows)) (length rows)) (sym has.same);
              };
        }

pub none_beside : (schema : List Table) (a : Option Files) → Change (KeepsBeside (OneOf (meta_name ∷ snapshot_files schema))) a a
none_beside schema a = files_beside_nothing (OneOf (meta_name ∷ snapshot_files schema)) a a refl
