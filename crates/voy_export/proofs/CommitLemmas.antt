-- What a commit leaves of an export disk, as it reads.
use Rattle.std.specs.Prelude.{◌≡◌, ℕ, zero, suc, Bool, true, false, List, [], ◌∷◌, ◌++◌, Option, Some, None, ◌&&◌, is_some, length, map, not, take}
use Rattle.std.specs.Option.{option_map}
use Rattle.std.proofs.Common.{append_assoc, append-nil, inl, inr, refl, sym, ap, subst, ◌∙◌}
use Rattle.voy_disk.specs.Calls.{Change}
use Rattle.voy_disk.specs.Files.{Files}
use Rattle.voy_disk.specs.FrameLaws.{files_beside_more}
use Rattle.voy_disk.specs.Frames.{KeepsBeside, OneOf}
use Rattle.voy_disk.specs.Images.{Image, ImagesOf}
use Rattle.voy_disk.specs.Steps.{Does, Every, Follows, From, Goes, Lawful, LeavesPrefix, Reaches, SomeFirst, after_all}
use Rattle.voy_export.proofs.ShelfLemmas.{entries_are_queue, mixed, mixed_contents, mixed_queue, mixed_was, shelf_agrees, snapshots_stay, steps_are_commits}
use Rattle.voy_export.specs.Calls.{IsQueueFile}
use Rattle.voy_export.specs.Exports.{contents, exports_in, snapshots_in}
use Rattle.voy_export.specs.Laws.{AreNext, CommitsAreLawful}
use Rattle.voy_export.specs.Put.{AreQueueRecords, HasPut}
use Rattle.voy_export.specs.Recording.{Recording}
use Rattle.voy_export.specs.Sound.{SoundExports}
use Rattle.voy_export.specs.Steps.{AddsEvents, ExportStep, MayExport, export_step, last_vsn}
use Rattle.std.proofs.lemmas.Bool.{and_from, and_parts}
use Rattle.voy_meta.specs.Growing.{Grows, GrowsByAll}
use Rattle.voy_meta.specs.StateLaws.{RecordsAreConsistent}
use Rattle.voy_meta.specs.Stands.{IsConsistent}
use Rattle.voy_meta.specs.Sides.{is_ended, last_of, last_segment, request_of}
use Rattle.voy_meta.specs.declared.state.SegmentState.{SegmentState}
use Rattle.voy_tables.specs.declared.change.Spot.{Spot}
use Rattle.voy_tables.specs.declared.change.Role.TheVariants as role
use Rattle.voy_tables.specs.declared.change.Side.{Side}
use Rattle.voy_tables.specs.declared.change.Side.TheVariants as side
use Rattle.voy_meta.specs.Allowed.{allowed_after, are_allowed, has_fall_back, has_snapshot, says_fall_back, vsn_before, writes}
use Rattle.voy_meta.specs.FoldLaws.{state_on}
use Rattle.voy_meta.specs.Meta.{ReadsAs, records_in}
use Rattle.voy_meta.specs.State.{empty_state, state_after, state_of}
use Rattle.voy_meta.specs.declared.record.MetaRecord.{MetaRecord}
use Rattle.voy_meta.specs.declared.state.MetaState.{MetaState}
use Rattle.voy_queue.specs.Laws.{FirstPartIsPut, StandsAsItself}
use Rattle.voy_queue.specs.Writer.{names_of}
use Rattle.voy_queue.specs.Names.{segment_name}
use Rattle.voy_queue.specs.Putting.{MayFollowInTurn, Put, commit_of, end_at, entry_of, pending_with, recorded_end, shelf_with}
use Rattle.voy_queue.specs.Shelf.{Shelf, StandsAs, shelf_after, shelf_in}
use Rattle.voy_queue.specs.declared.end.Added.{Added}
use Rattle.voy_queue.specs.declared.end.End.{End}
use Rattle.voy_schema.specs.Lawful.{is_lawful}
use Rattle.voy_schema.specs.declared.table.Table.{Table}
use Rattle.voy_tables.specs.declared.change.Role.{Role}

take_map : {A B : Type 0} (f : A → B) (n : ℕ) (xs : List A) → take n (map f xs) ≡ map f (take n xs)
take_map f zero xs = refl
take_map f (suc n) [] = refl
take_map f (suc n) (x ∷ xs) = ap (λ rest. f x ∷ rest) (take_map f n xs)

-- the files of a commit are files of the queue
names_are_queue : (pending : List Added) (name : List ℕ) → OneOf (names_of pending) name → IsQueueFile name
names_are_queue pending name (inl is) = inl is
names_are_queue pending name (inr one) = segments pending one where
  segments : (pending : List Added) → OneOf (map (λ (one : Added). segment_name one.end.number) pending) name → IsQueueFile name
  segments [] none = absurd none
  segments (one ∷ more) (inl is) = inr (one.end.number, is)
  segments (one ∷ more) (inr other) = segments more other

pub queue_files : (pending : List Added) {old new : Option Files} → Change (KeepsBeside (OneOf (names_of pending))) old new → Change (KeepsBeside IsQueueFile) old new
queue_files pending keeps = files_beside_more (OneOf (names_of pending)) IsQueueFile (names_are_queue pending) keeps

-- the snapshots that are read with Queue records more
snapshots_more : (schema : List Table) (image : Image) (records : Option (List MetaRecord)) (entries more : List MetaRecord) → AreQueueRecords more
    → records ≡ Some (entries ++ more) → snapshots_in schema image records ≡ contents image schema (state_of entries).snapshots
snapshots_more schema image records entries more queue is =
    ap (snapshots_in schema image) is
    ∙ ap (λ (state : MetaState). contents image schema state.snapshots) (state_on empty_state entries more)
    ∙ ap (contents image schema) (snapshots_stay (state_of entries) more queue)

-- the records of a shelf with commits more
records_after : (role : Role) (xs : List Added) (shelf : Shelf) (entries : List MetaRecord) → shelf.records ≡ Some entries
    → (after_all shelf_after shelf (map (commit_of role) xs)).records ≡ Some (entries ++ map (entry_of role) xs)
records_after role [] shelf entries is = is ∙ ap Some (sym (append-nil entries))
records_after role (x ∷ xs) shelf entries is =
    records_after role xs (shelf_after shelf (commit_of role x)) (entries ++ entry_of role x ∷ []) (ap (option_map (λ found. found ++ entry_of role x ∷ [])) is)
    ∙ ap Some (append_assoc entries (entry_of role x ∷ []) (map (entry_of role) xs))

module _ (schema : List Table) (role : Role) (state : MetaState) (old : Option Files) (reads : Every (ImagesOf old) (ReadsAs state)) where
  -- an image that reads as the shelf of one before with commits more has the snapshots of its mixture
  pub same_snapshots : (xs : List Added) (i j : Image) → ImagesOf old i → shelf_in j ≡ after_all shelf_after (shelf_in i) (map (commit_of role) xs)
      → (exports_in schema j).snapshots ≡ (exports_in schema (mixed schema i j)).snapshots
  same_snapshots xs i j was reads_on =
      let here = reads.each i was in
      let behind : (shelf_in j).records ≡ Some (here.entries ++ map (entry_of role) xs) =
      ap (λ (s : Shelf). s.records) reads_on ∙ records_after role xs (shelf_in i) here.entries here.read in
      let same = ap (λ (s : Shelf). s.records) (shelf_agrees i (mixed schema i j) (mixed_queue schema i j)) in
      snapshots_more schema j (records_in j) here.entries (map (entry_of role) xs) (entries_are_queue role xs) behind
      ∙ sym (ap (snapshots_in schema (mixed schema i j)) (same ∙ here.read) ∙ mixed_contents schema i j (state_of here.entries).snapshots)

module _ (schema : List Table) (role : Role) (size : ℕ) (end : End) (state : MetaState) {old new : Option Files}
    (others : Change (KeepsBeside IsQueueFile) old new) (reads : Every (ImagesOf old) (ReadsAs state)) (itself : StandsAsItself) where
  -- an image that reads as the shelf with these puts has them, from one of before
  pub one_put : (puts : List Put) (i j : Image) → ImagesOf old i → ImagesOf new j → shelf_in j ≡ shelf_with schema role size (shelf_in i) end puts
      → HasPut schema role size end puts (mixed schema i j) j
  one_put puts i j was is reads_on =
      let same = shelf_agrees i (mixed schema i j) (mixed_queue schema i j) in
      let here = reads.each i was in
      let xs = pending_with schema size end [] puts in
      let behind : (shelf_in j).records ≡ Some (here.entries ++ map (entry_of role) xs) =
      ap (λ (s : Shelf). s.records) reads_on ∙ records_after role xs (shelf_in i) here.entries here.read in
      record {
        shelf = subst (λ (s : Shelf). StandsAs (shelf_in j) (shelf_with schema role size s end puts)) (sym same)
            (subst (λ (s : Shelf). StandsAs (shelf_in j) s) reads_on (itself (shelf_in j)));
        more = map (entry_of role) xs;
        queue = entries_are_queue role xs;
        records = behind ∙ sym (ap (option_map (λ entries. entries ++ map (entry_of role) xs)) (ap (λ (s : Shelf). s.records) same ∙ here.read));
        snapshots = same_snapshots schema role state old reads xs i j was reads_on;
      }

  -- whatever a commit answers, an image has some first puts more
  pub some_put : FirstPartIsPut → (puts : List Put) (pending : List Added) → pending ≡ pending_with schema size end [] puts
      → LeavesPrefix (Does shelf_in shelf_after) (map (commit_of role) pending) (ImagesOf old) (ImagesOf new)
      → Follows (SomeFirst (HasPut schema role size end) puts) (ImagesOf old) (ImagesOf new)
  some_put first puts pending pends prefix = record { from = λ j is. by j is (prefix.from j is) } where
    by : (j : Image) → ImagesOf new j → From (SomeFirst (Does shelf_in shelf_after) (map (commit_of role) pending)) (ImagesOf old) j
        → From (SomeFirst (HasPut schema role size end) puts) (ImagesOf old) j
    by j is from =
        let part = first schema size end puts from.by.0 in
        let same : take from.by.0 (map (commit_of role) pending) ≡ map (commit_of role) (pending_with schema size end [] (take part.some puts)) =
        take_map (commit_of role) from.by.0 pending ∙ ap (map (commit_of role)) (ap (take from.by.0) pends ∙ part.same) in
        record {
          before = mixed schema from.before j;
          was = mixed_was schema from.before j others from.was is;
          by = (part.some, one_put (take part.some puts) from.before j from.was is (from.by.1 ∙ ap (after_all shelf_after (shelf_in from.before)) same));
        }

  -- after Ok, all of them
  pub all_put : (puts : List Put) (pending : List Added) → pending ≡ pending_with schema size end [] puts
      → Follows (Does shelf_in shelf_after (map (commit_of role) pending)) (ImagesOf old) (ImagesOf new)
      → Follows (HasPut schema role size end puts) (ImagesOf old) (ImagesOf new)
  all_put puts pending pends all = record { from = λ j is. by j is (all.from j is) } where
    by : (j : Image) → ImagesOf new j → From (Does shelf_in shelf_after (map (commit_of role) pending)) (ImagesOf old) j
        → From (HasPut schema role size end puts) (ImagesOf old) j
    by j is from = record {
      before = mixed schema from.before j;
      was = mixed_was schema from.before j others from.was is;
      by = one_put puts from.before j from.was is (from.by ∙ ap (after_all shelf_after (shelf_in from.before)) (ap (map (commit_of role)) pends));
    }

some_same : {A : Type 0} {x y : A} → Some x ≡ Some y → x ≡ y
some_same same = cc

-- whatever a commit answers, lawful steps lead to each image after
module _ (recording : Recording) (role : Role) (size : ℕ) (state : MetaState) {old new : Option Files} (others : Change (KeepsBeside IsQueueFile) old new)
    (reads : Every (ImagesOf old) (ReadsAs state)) (law : CommitsAreLawful) (lawful : is_lawful recording.schema ≡ true) (puts : List Put)
    (sound : Every (ImagesOf old) (λ image. SoundExports recording (exports_in recording.schema image))) where
  -- the commits of an image of before are lawful
  abbrev LawfulAt : Image → MetaState → ℕ → Type 0
  LawfulAt image s count = Lawful export_step (MayExport recording) (exports_in recording.schema image)
      (map AddsEvents (map (commit_of role) (take count (pending_with recording.schema size (recorded_end s role) [] puts))))

  lawful_at : (image : Image) → ImagesOf old image → (count : ℕ) → writes state role ≡ true
      → MayFollowInTurn recording.schema role size (recorded_end state role) puts
      → allowed_after state (map (entry_of role) (pending_with recording.schema size (recorded_end state role) [] puts)) ≡ true
      → AreNext recording (last_vsn state) puts → LawfulAt image state count
  lawful_at image is count may follows allowed next =
      subst (λ (s : MetaState). LawfulAt image s count) same
      (law recording image role size puts count lawful here
      (subst (λ (s : MetaState). writes s role ≡ true) (sym same) may)
      (subst (λ (s : MetaState). MayFollowInTurn recording.schema role size (recorded_end s role) puts) (sym same) follows)
      (subst (λ (s : MetaState). allowed_after s (map (entry_of role) (pending_with recording.schema size (recorded_end s role) [] puts)) ≡ true) (sym same) allowed)
      (subst (λ (s : MetaState). AreNext recording (last_vsn s) puts) (sym same) next))
    where
      here : SoundExports recording (exports_in recording.schema image)
      here = sound.each image is

      same : state_of here.entries ≡ state
      same = ap state_of (some_same (sym here.read ∙ (reads.each image is).read)) ∙ sym (reads.each image is).state_is

  pub commit_moves : (pending : List Added) (end : End) → end ≡ recorded_end state role → pending ≡ pending_with recording.schema size end [] puts
      → writes state role ≡ true → MayFollowInTurn recording.schema role size end puts
      → allowed_after state (map (entry_of role) pending) ≡ true → AreNext recording (last_vsn state) puts
      → LeavesPrefix (Does shelf_in shelf_after) (map (commit_of role) pending) (ImagesOf old) (ImagesOf new)
      → Goes (exports_in recording.schema) export_step (MayExport recording) (ImagesOf old) (ImagesOf new)
  commit_moves pending end here pends may follows allowed next prefix = record { from = λ j is. by j is (prefix.from j is) } where
    pends_here : pending ≡ pending_with recording.schema size (recorded_end state role) [] puts
    pends_here = pends ∙ ap (λ (e : End). pending_with recording.schema size e [] puts) here

    steps_of : ℕ → List ExportStep
    steps_of count = map AddsEvents (map (commit_of role) (take count (pending_with recording.schema size (recorded_end state role) [] puts)))

    whole : (j before : Image) (count : ℕ) → ImagesOf old before → shelf_in j ≡ after_all shelf_after (shelf_in before) (take count (map (commit_of role) pending))
        → exports_in recording.schema j ≡ after_all export_step (exports_in recording.schema (mixed recording.schema before j)) (steps_of count)
    whole j before count was reads_on =
        let xs = take count (pending_with recording.schema size (recorded_end state role) [] puts) in
        let i = mixed recording.schema before j in
        let made : shelf_in j ≡ after_all shelf_after (shelf_in before) (map (commit_of role) xs) =
        reads_on ∙ ap (after_all shelf_after (shelf_in before)) (take_map (commit_of role) count pending ∙ ap (λ p. map (commit_of role) (take count p)) pends_here) in
        let same = shelf_agrees before i (mixed_queue recording.schema before j) in
        sym (steps_are_commits (exports_in recording.schema i) (map (commit_of role) xs)
        ∙ ap (λ (s : Shelf). record { shelf = s; snapshots = (exports_in recording.schema i).snapshots })
        (ap (λ (s : Shelf). after_all shelf_after s (map (commit_of role) xs)) same ∙ sym made)
        ∙ ap (λ (snapshots : List (Option (List ℕ))). record { shelf = shelf_in j; snapshots = snapshots })
        (sym (same_snapshots recording.schema role state old reads xs before j was made)))

    by : (j : Image) → ImagesOf new j → From (SomeFirst (Does shelf_in shelf_after) (map (commit_of role) pending)) (ImagesOf old) j
        → From (λ i k. Reaches export_step (MayExport recording) (exports_in recording.schema i) (exports_in recording.schema k)) (ImagesOf old) j
    by j is from =
        let i = mixed recording.schema from.before j in
        let was : ImagesOf old i = mixed_was recording.schema from.before j others from.was is in
        record {
          before = i;
          was = was;
          by = record {
            steps = steps_of from.by.0;
            lawful = lawful_at i was from.by.0 may (subst (λ (e : End). MayFollowInTurn recording.schema role size e puts) here follows)
                (subst (λ (p : List Added). allowed_after state (map (entry_of role) p) ≡ true) pends_here allowed) next;
            ends = whole j from.before from.by.0 from.was from.by.1;
          };
        }

-- what a commit leaves of a state that grows
pub snapshot_grows : (old new : MetaState) → Grows old new → has_snapshot old ≡ true → has_snapshot new ≡ true
snapshot_grows old new grows has = let all = grows.all has in rw (all.0, all.1) has

asked_grows_at : (to : Side) (old new : MetaState) (asked : Option Bool) → Grows old new → request_of to old ≡ asked → is_some asked ≡ true → is_some (request_of to new) ≡ true
asked_grows_at to old new None grows is some = cc
asked_grows_at to old new (Some b) grows is some = ap is_some (grows.requests to b is)

pub asked_grows : (to : Side) (old new : MetaState) → Grows old new → is_some (request_of to old) ≡ true → is_some (request_of to new) ≡ true
asked_grows to old new grows some = asked_grows_at to old new (request_of to old) grows refl some

fall_back_grows : (old new : MetaState) → Grows old new → has_fall_back old ≡ true → has_fall_back new ≡ true
fall_back_grows old new grows has =
    let parts = and_parts old.done_target (says_fall_back old.request_target) has in
    and_from new.done_target (says_fall_back new.request_target) (grows.done side.Target parts.0) (by old.request_target refl parts.1)
  where
    by : (asked : Option Bool) → old.request_target ≡ asked → says_fall_back asked ≡ true → says_fall_back new.request_target ≡ true
    by None is says = cc
    by (Some b) is says = ap says_fall_back (grows.requests side.Target b is) ∙ says

pub may_grows : (r : Role) (old new : MetaState) → Grows old new → writes old r ≡ true → is_ended r new ≡ false → writes new r ≡ true
may_grows role.Source old new grows may ended = rw ended refl
may_grows role.Target old new grows may ended =
    let parts = and_parts old.ended_source (has_fall_back old && not old.ended_target) may in
    let fall = and_parts (has_fall_back old) (not old.ended_target) parts.1 in
    and_from new.ended_source (has_fall_back new && not new.ended_target) (grows.ended role.Source parts.0).0
    (and_from (has_fall_back new) (not new.ended_target) (fall_back_grows old new grows fall.0) (rw ended refl))

ended_at : (spot : Option Spot) (ended : Bool) (count : ℕ) (last : Option SegmentState) → (end_at spot ended count last).ended ≡ ended
ended_at spot ended count None = refl
ended_at spot ended count (Some last) = refl

-- the recorded end is that of an exporter whose part is ended where it is
pub recorded_ended : (state : MetaState) (r : Role) → (recorded_end state r).ended ≡ is_ended r state
recorded_ended state r = ended_at (last_of r state) (is_ended r state) (length state.segments) (last_segment state)

vsn_at : (spot : Option Spot) (ended : Bool) (count : ℕ) (last : Option SegmentState) → (end_at spot ended count last).last_vsn ≡ vsn_before last
vsn_at spot ended count None = refl
vsn_at spot ended count (Some last) = refl

-- and has the last recorded vsn
pub recorded_vsn : (state : MetaState) (r : Role) → (recorded_end state r).last_vsn ≡ last_vsn state
recorded_vsn state r = vsn_at (last_of r state) (is_ended r state) (length state.segments) (last_segment state)

spot_at : (spot : Option Spot) (ended : Bool) (count : ℕ) (last : Option SegmentState) → (end_at spot ended count last).spot ≡ spot
spot_at spot ended count None = refl
spot_at spot ended count (Some last) = refl

-- and the exporter's last place
pub recorded_spot : (state : MetaState) (r : Role) → (recorded_end state r).spot ≡ last_of r state
recorded_spot state r = spot_at (last_of r state) (is_ended r state) (length state.segments) (last_segment state)

-- the exporter still writes where it has not put its cutover
pub may_stay : (r : Role) (old new : MetaState) (here there : End) → Grows old new → writes old r ≡ true → there ≡ recorded_end new r → there ≡ here → here.ended ≡ false
    → writes new r ≡ true
may_stay r old new here there grows may recorded same ended =
    may_grows r old new grows may (sym (recorded_ended new r) ∙ ap (λ (e : End). e.ended) (sym recorded ∙ same) ∙ ended)

pub grows_by : GrowsByAll → RecordsAreConsistent → (state new : MetaState) (entries more : List MetaRecord) → are_allowed entries ≡ true → state ≡ state_of entries
    → allowed_after state more ≡ true → new ≡ state_after state more → Grows state new
grows_by grow consistent state new entries more allowed is more_allowed new_is =
    subst (Grows state) (sym new_is) (grow state more (subst IsConsistent (sym is) (consistent entries allowed)) more_allowed)
