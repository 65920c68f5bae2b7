-- Each step that may be done keeps an export disk sound.
use Rattle.std.proofs.Common.{◌≡◌, ◌≤◌, ◌∷◌, ◌++◌, ◌+◌, ℕ, Bool, true, false, List, [], Option, Some, None, length, take, refl, sym, ap, ◌∙◌, subst}
use Rattle.std.proofs.lemmas.Bool.{and_from}
use Rattle.std.proofs.lemmas.List.{length_push, map_push, take_more}
use Rattle.std.proofs.lemmas.Option.{get_or_from_slice_get, slice_get_within}
use Rattle.std.specs.Option.{option_map}
use Rattle.std.specs.Prelude.{◌||◌, get_or, slice_get}
use Rattle.voy_export.proofs.PlaceLemmas.{AreBy, cutover_none, cutover_on, first_on, or_none, place_on, place_same}
use Rattle.voy_export.proofs.StateLemmas.{ended_other, ended_same, last_after, spot_other, spot_same}
use Rattle.voy_export.specs.Exports.{Exports}
use Rattle.voy_export.specs.Laws.{StepsKeepSound}
use Rattle.voy_export.specs.Recording.{Recording}
use Rattle.voy_export.specs.Sound.{AreSnapshots, HasPlace, HavePlaces, SoundExports, snapshot_of}
use Rattle.voy_export.specs.Steps.{AddsEvents, AddsSnapshot, MayCommit, MaySnapshot, export_step, first_puts, has_cutover, last_vsn, place_at, place_in, puts_between}
use Rattle.voy_meta.specs.Allowed.{are_allowed, is_allowed}
use Rattle.voy_meta.specs.Putting.{QueueRecordsSay}
use Rattle.voy_meta.specs.Sides.{is_ended, is_role, last_of}
use Rattle.voy_meta.specs.State.{after_record, state_of}
use Rattle.voy_meta.specs.StateLaws.{OneMoreState, OneMoreTest}
use Rattle.voy_meta.specs.declared.record.MetaRecord.{MetaRecord}
use Rattle.voy_meta.specs.declared.record.MetaRecord.TheVariants.{Queue, Snapshot}
use Rattle.voy_meta.specs.declared.state.MetaState.{MetaState}
use Rattle.voy_meta.specs.declared.state.SegmentState.{SegmentState}
use Rattle.voy_queue.specs.Laws.{events_of}
use Rattle.voy_queue.specs.Putting.{Put}
use Rattle.voy_queue.specs.Reading.{reads_whole}
use Rattle.voy_queue.specs.Shelf.{Commits, reading_of, shelf_reading}
use Rattle.voy_schema.specs.declared.value.Value.{Value}
use Rattle.voy_tables.specs.RowText.{row_lines}
use Rattle.voy_tables.specs.declared.change.Role.{Role}
use Rattle.voy_tables.specs.declared.change.Role.TheVariants as role
use Rattle.voy_tables.specs.declared.change.Spot.{Spot}

-- what is sound of a state
record IsSound (recording : Recording) (exports : Exports) (state : MetaState) : Type 0 where
  snapshots : AreSnapshots recording state exports.snapshots
  queue : shelf_reading recording.schema exports.shelf ≡ reads_whole (events_of (first_puts recording (last_vsn state)))
  ends : (who : Role) → is_ended who state ≡ has_cutover who (first_puts recording (last_vsn state))
  places : (who : Role) → last_of who state ≡ place_at recording who (last_vsn state)

places_more : (recording : Recording) (entries : List MetaRecord) (entry : MetaRecord) → HavePlaces recording entries → HasPlace recording entry
    → HavePlaces recording (entries ++ entry ∷ [])
places_more recording [] entry have has = (has, tt)
places_more recording (one ∷ entries) entry have has = (have.0, places_more recording entries entry have.1 has)

-- a disk with a record more, of which this is left to show
module _ (state_more : OneMoreState) (test_more : OneMoreTest) (recording : Recording) (old new : Exports) (sound : SoundExports recording old) (entry : MetaRecord) where
  one_more : new.shelf.records ≡ option_map (λ entries. entries ++ entry ∷ []) old.shelf.records
      → is_allowed (state_of sound.entries) entry ≡ true → IsSound recording new (after_record (state_of sound.entries) entry) → HasPlace recording entry
      → SoundExports recording new
  one_more records passes is has =
      let here : state_of (sound.entries ++ entry ∷ []) ≡ after_record (state_of sound.entries) entry = state_more sound.entries entry in
      let now : IsSound recording new (state_of (sound.entries ++ entry ∷ [])) = subst (IsSound recording new) (sym here) is in
      record {
        entries = sound.entries ++ entry ∷ [];
        read = records ∙ ap (option_map (λ entries. entries ++ entry ∷ [])) sound.read;
        allowed = test_more sound.entries entry ∙ and_from (are_allowed sound.entries) _ sound.allowed passes;
        snapshots = now.snapshots;
        queue = now.queue;
        ends = now.ends;
        places = now.places;
        recorded_places = places_more recording sound.entries entry sound.recorded_places has;
      }

-- what one more table adds
module _ (recording : Recording) (state : MetaState) (contents : List (Option (List ℕ))) (old : AreSnapshots recording state contents) (rows : List (List Value)) where
  snapshots_more : slice_get recording.rows (length state.snapshots) ≡ Some (Some rows)
      → AreSnapshots recording (after_record state (Snapshot (length state.snapshots) (length recording.schema) (length (row_lines rows)) (length rows))) (contents ++ Some (row_lines rows) ∷ [])
  unfolding after_record
  snapshots_more has =
      let size : length (state.snapshots ++ snapshot_of rows ∷ []) ≡ length state.snapshots + 1 = length_push state.snapshots (snapshot_of rows) in
      let more : take (length state.snapshots + 1) recording.rows ≡ take (length state.snapshots) recording.rows ++ get_or recording.rows (length state.snapshots) None ∷ []
      = take_more recording.rows (length state.snapshots) None (slice_get_within recording.rows (length state.snapshots) (Some rows) has) in
      let next : get_or recording.rows (length state.snapshots) None ≡ Some rows = get_or_from_slice_get recording.rows (length state.snapshots) (Some rows) None has in
      record {
        rows = old.rows ++ rows ∷ [];
        recorded =
            ap (λ n. take n recording.rows) size ∙ more
            ∙ ap (λ row. take (length state.snapshots) recording.rows ++ row ∷ []) next
            ∙ ap (λ front. front ++ Some rows ∷ []) old.recorded
            ∙ sym (map_push Some old.rows rows);
        texts = ap (λ front. front ++ Some (row_lines rows) ∷ []) old.texts ∙ sym (map_push (λ (table : List (List Value)). Some (row_lines table)) old.rows rows);
        sizes = ap (λ front. front ++ snapshot_of rows ∷ []) old.sizes ∙ sym (map_push snapshot_of old.rows rows);
        tables = λ some. refl;
      }

-- and leaves the queue as it is
module _ (recording : Recording) (exports : Exports) (state : MetaState) (number tables bytes rows : ℕ) where
  same_last : last_vsn (after_record state (Snapshot number tables bytes rows)) ≡ last_vsn state
  unfolding after_record
  same_last = refl

  same_ends : (who : Role) → is_ended who (after_record state (Snapshot number tables bytes rows)) ≡ is_ended who state
  unfolding after_record
  same_ends role.Source = refl
  same_ends role.Target = refl

  same_places : (who : Role) → last_of who (after_record state (Snapshot number tables bytes rows)) ≡ last_of who state
  unfolding after_record
  same_places role.Source = refl
  same_places role.Target = refl

same_reading : (state_more : OneMoreState) (recording : Recording) (segments : List (List ℕ)) (entries : List MetaRecord) (number tables bytes rows : ℕ)
    → reading_of recording.schema (Some (entries ++ Snapshot number tables bytes rows ∷ [])) segments ≡ reading_of recording.schema (Some entries) segments
unfolding after_record
same_reading state_more recording segments entries number tables bytes rows = rw (state_more entries (Snapshot number tables bytes rows)) refl

-- a Snapshot record of these rows
module _ (state_more : OneMoreState) (test_more : OneMoreTest) (recording : Recording) (exports : Exports) (sound : SoundExports recording exports) (rows : List (List Value)) where
  abbrev with_table : Exports
  with_table = export_step exports (AddsSnapshot (Snapshot (length (state_of sound.entries).snapshots) (length recording.schema) (length (row_lines rows)) (length rows)) (row_lines rows))

  table_kept : slice_get recording.rows (length (state_of sound.entries).snapshots) ≡ Some (Some rows)
      → is_allowed (state_of sound.entries) (Snapshot (length (state_of sound.entries).snapshots) (length recording.schema) (length (row_lines rows)) (length rows)) ≡ true
      → SoundExports recording with_table
  table_kept has passes =
      let state = state_of sound.entries in
      let number = length state.snapshots in
      let tables = length recording.schema in
      let bytes = length (row_lines rows) in
      let lines = length rows in
      let entry = Snapshot number tables bytes lines in
      let last = same_last recording exports state number tables bytes lines in
      one_more state_more test_more recording exports with_table sound entry refl passes
      (record {
        snapshots = snapshots_more recording state exports.snapshots sound.snapshots rows has;
        queue =
            ap (λ records. reading_of recording.schema (option_map (λ entries. entries ++ entry ∷ []) records) exports.shelf.segments) sound.read
            ∙ same_reading state_more recording exports.shelf.segments sound.entries number tables bytes lines
            ∙ ap (λ records. reading_of recording.schema records exports.shelf.segments) (sym sound.read)
            ∙ sound.queue
            ∙ ap (λ n. reads_whole (events_of (first_puts recording n))) (sym last);
        ends = λ who. same_ends recording exports state number tables bytes lines who ∙ sound.ends who ∙ ap (λ n. has_cutover who (first_puts recording n)) (sym last);
        places = λ who. same_places recording exports state number tables bytes lines who ∙ sound.places who ∙ ap (place_at recording who) (sym last);
      })
      tt

some_same : {A : Type 0} (a b : A) → Some a ≡ Some b → a ≡ b
some_same a b is = cc

snapshot_kept : (state_more : OneMoreState) (test_more : OneMoreTest) (recording : Recording) (exports : Exports) (entry : MetaRecord) (content : List ℕ)
    → SoundExports recording exports → MaySnapshot recording exports entry content → SoundExports recording (export_step exports (AddsSnapshot entry content))
snapshot_kept state_more test_more recording exports entry content sound may =
    let same : may.entries ≡ sound.entries = some_same may.entries sound.entries (sym may.read ∙ sound.read) in
    let is : entry ≡ Snapshot (length (state_of sound.entries).snapshots) (length recording.schema) (length (row_lines may.rows)) (length may.rows)
    = may.entry_is
    ∙ ap (λ entries. Snapshot (length (state_of entries).snapshots) (length recording.schema) (length content) (length may.rows)) same
    ∙ ap (λ text. Snapshot (length (state_of sound.entries).snapshots) (length recording.schema) (length text) (length may.rows)) may.content_is in
    subst (λ e. SoundExports recording (export_step exports (AddsSnapshot e content))) (sym is)
    (subst (λ text. SoundExports recording (export_step exports (AddsSnapshot (Snapshot (length (state_of sound.entries).snapshots) (length recording.schema) (length (row_lines may.rows)) (length may.rows)) text))) (sym may.content_is)
    (table_kept state_more test_more recording exports sound may.rows
    (subst (λ entries. slice_get recording.rows (length (state_of entries).snapshots) ≡ Some (Some may.rows)) same may.recorded)
    (subst (λ e. is_allowed (state_of sound.entries) e ≡ true) is (subst (λ entries. is_allowed (state_of entries) entry ≡ true) same may.allowed))))

-- a Queue record, up to this vsn
module _ (recording : Recording) (state : MetaState) (number bytes vsn : ℕ) (who : Role) (closed ended : Bool)
    (up : last_vsn state ≤ vsn) (are : AreBy who (puts_between recording (last_vsn state) vsn)) (end : ended ≡ has_cutover who (puts_between recording (last_vsn state) vsn))
    (ends : (who : Role) → is_ended who state ≡ has_cutover who (first_puts recording (last_vsn state)))
    (places : (who : Role) → last_of who state ≡ place_at recording who (last_vsn state))
  where
    abbrev later : MetaState
    later = after_record state (Queue number bytes vsn who (place_at recording who vsn) closed ended)

    abbrev between : List Put
    between = puts_between recording (last_vsn state) vsn

    cutover_split : (one : Role) → has_cutover one (first_puts recording vsn) ≡ (has_cutover one (first_puts recording (last_vsn state)) || has_cutover one between)
    cutover_split one = ap (has_cutover one) (first_on recording (last_vsn state) vsn up) ∙ cutover_on one (first_puts recording (last_vsn state)) between

    place_split : (one : Role) → place_at recording one vsn ≡ place_in one (place_at recording one (last_vsn state)) between
    place_split one = ap (place_in one None) (first_on recording (last_vsn state) vsn up) ∙ place_on one None (first_puts recording (last_vsn state)) between

    end_kept : is_ended who later ≡ has_cutover who (first_puts recording vsn)
    end_kept =
        ended_same state number bytes vsn (place_at recording who vsn) closed ended who
        ∙ ap (λ b. b || ended) (ends who)
        ∙ ap (λ b. has_cutover who (first_puts recording (last_vsn state)) || b) end
        ∙ sym (cutover_split who)

    end_other : (other : Role) → is_role other who ≡ false → is_ended other later ≡ has_cutover other (first_puts recording vsn)
    end_other other apart =
        ended_other state number bytes vsn (place_at recording who vsn) closed ended who other apart
        ∙ ends other
        ∙ sym (cutover_split other ∙ ap (λ b. has_cutover other (first_puts recording (last_vsn state)) || b) (cutover_none who other between are apart) ∙ or_none _)

    place_other : (other : Role) → is_role other who ≡ false → last_of other later ≡ place_at recording other vsn
    place_other other apart =
        spot_other state number bytes vsn (place_at recording who vsn) closed ended who other apart
        ∙ places other
        ∙ sym (place_split other ∙ place_same who other (place_at recording other (last_vsn state)) between are apart)

    place_kept : last_of who later ≡ place_at recording who vsn
    place_kept = spot_same state number bytes vsn (place_at recording who vsn) closed ended who

    last_is : last_vsn later ≡ vsn
    last_is = last_after state number bytes vsn (place_at recording who vsn) closed ended who

-- the same of each exporter
one_of : (P : Role → Type 0) (who : Role) → P who → ((other : Role) → is_role other who ≡ false → P other) → (one : Role) → P one
one_of P role.Source same others role.Source = same
one_of P role.Source same others role.Target = others role.Target refl
one_of P role.Target same others role.Source = others role.Source refl
one_of P role.Target same others role.Target = same

module _ (recording : Recording) (state : MetaState) (contents : List (Option (List ℕ))) (number bytes vsn : ℕ) (who : Role) (spot : Option Spot) (closed ended : Bool) where
  snapshots_same : AreSnapshots recording state contents → AreSnapshots recording (after_record state (Queue number bytes vsn who spot closed ended)) contents
  unfolding after_record
  snapshots_same are = record { rows = are.rows; recorded = are.recorded; texts = are.texts; sizes = are.sizes; tables = are.tables }

commit_kept : (state_more : OneMoreState) (test_more : OneMoreTest) (say : QueueRecordsSay) (recording : Recording) (exports : Exports) (commits : Commits)
    → SoundExports recording exports → MayCommit recording exports commits → SoundExports recording (export_step exports (AddsEvents commits))
commit_kept state_more test_more say recording exports commits sound may =
    let same : may.entries ≡ sound.entries = some_same may.entries sound.entries (sym may.read ∙ sound.read) in
    let state = state_of sound.entries in
    let entry = Queue commits.number may.bytes may.vsn may.role (place_at recording may.role may.vsn) may.closed may.ended in
    let passes : is_allowed state commits.entry ≡ true = subst (λ entries. is_allowed (state_of entries) commits.entry ≡ true) same may.allowed in
    let segment : SegmentState = record { bytes = may.bytes; last_vsn = may.vsn; role = may.role; closed = may.closed; ended = may.ended } in
    let said = (say state commits.number segment (place_at recording may.role may.vsn)).0 (subst (λ e. is_allowed state e ≡ true) may.entry_is passes) in
    let up : last_vsn state ≤ may.vsn = said.1.rises in
    let are : AreBy may.role (puts_between recording (last_vsn state) may.vsn)
    = subst (λ entries. AreBy may.role (puts_between recording (last_vsn (state_of entries)) may.vsn)) same may.exporter in
    let end : may.ended ≡ has_cutover may.role (puts_between recording (last_vsn state) may.vsn)
    = subst (λ entries. may.ended ≡ has_cutover may.role (puts_between recording (last_vsn (state_of entries)) may.vsn)) same may.end in
    let last = last_is recording state commits.number may.bytes may.vsn may.role may.closed may.ended up are end sound.ends sound.places in
    one_more state_more test_more recording exports (export_step exports (AddsEvents commits)) sound commits.entry refl passes
    (subst (λ e. IsSound recording (export_step exports (AddsEvents commits)) (after_record state e)) (sym may.entry_is)
    (record {
      snapshots = snapshots_same recording state exports.snapshots commits.number may.bytes may.vsn may.role (place_at recording may.role may.vsn) may.closed may.ended sound.snapshots;
      queue = may.reads ∙ ap (λ n. reads_whole (events_of (first_puts recording n))) (sym last);
      ends = λ one.
          one_of (λ who. is_ended who (after_record state entry) ≡ has_cutover who (first_puts recording may.vsn)) may.role
          (end_kept recording state commits.number may.bytes may.vsn may.role may.closed may.ended up are end sound.ends sound.places)
          (end_other recording state commits.number may.bytes may.vsn may.role may.closed may.ended up are end sound.ends sound.places) one
          ∙ ap (λ n. has_cutover one (first_puts recording n)) (sym last);
      places = λ one.
          one_of (λ who. last_of who (after_record state entry) ≡ place_at recording who may.vsn) may.role
          (place_kept recording state commits.number may.bytes may.vsn may.role may.closed may.ended up are end sound.ends sound.places)
          (place_other recording state commits.number may.bytes may.vsn may.role may.closed may.ended up are end sound.ends sound.places) one
          ∙ ap (place_at recording one) (sym last);
    }))
    (subst (HasPlace recording) (sym may.entry_is) refl)

pub steps_keep_sound : OneMoreState → OneMoreTest → QueueRecordsSay → StepsKeepSound
steps_keep_sound state_more test_more say recording exports (AddsSnapshot entry content) sound may = snapshot_kept state_more test_more recording exports entry content sound may
steps_keep_sound state_more test_more say recording exports (AddsEvents commits) sound may = commit_kept state_more test_more say recording exports commits sound may
