-- The next events, committed segment after segment, are steps that may be done.
use Rattle.std.proofs.Common.{◌≡◌, ◌≤◌, ◌<◌, ◌+◌, ◌∷◌, ◌++◌, ℕ, true, List, [], length, take, drop, map, refl, sym, ap, ◌∙◌, arith, append_assoc, inl, inr}
use Rattle.std.proofs.lemmas.Bool.{and_parts, cases_lt}
use Rattle.std.proofs.lemmas.List.{append-nil, length_push, map-append, take-append-drop, take_all, take_at}
use Rattle.std.specs.List.{list_all}
use Rattle.std.specs.Option.{option_map}
use Rattle.std.specs.Prelude.{◌⊎◌, Option, Some, None}
use Rattle.voy_disk.specs.Images.{Image}
use Rattle.voy_disk.specs.Steps.{Lawful, after_all}
use Rattle.voy_export.proofs.PlaceLemmas.{place_on}
use Rattle.voy_export.proofs.PutLemmas.{are_by, between_next, by_behind, cutover_by, first_with, may_first, next_first, same_first, spot_at, spot_by, vsn_at, vsn_by}
use Rattle.voy_export.proofs.StateLemmas.{last_after}
use Rattle.voy_export.specs.Exports.{Exports, exports_in}
use Rattle.voy_export.specs.Laws.{AreNext, CommitsAreLawful}
use Rattle.voy_export.specs.Recording.{Recording}
use Rattle.voy_export.specs.Sound.{SoundExports}
use Rattle.voy_export.specs.Steps.{AddsEvents, MayCommit, MayExport, export_step, first_puts, has_cutover, last_vsn, place_at, place_in, puts_between}
use Rattle.voy_meta.specs.Allowed.{allowed_after, is_allowed, writes}
use Rattle.voy_meta.specs.Putting.{QueueRecordsSay}
use Rattle.voy_meta.specs.Sides.{is_ended, is_role, last_of, last_segment}
use Rattle.voy_meta.specs.State.{after_record, empty_state, state_after, state_of}
use Rattle.voy_meta.specs.StateLaws.{StatesJoin}
use Rattle.voy_meta.specs.declared.record.MetaRecord.{MetaRecord}
use Rattle.voy_meta.specs.declared.record.MetaRecord.TheVariants.{Queue}
use Rattle.voy_meta.specs.declared.state.MetaState.{MetaState}
use Rattle.voy_meta.specs.declared.state.SegmentState.{SegmentState}
use Rattle.voy_queue.specs.Laws.{ArePut, EndsWithPuts, FirstPartIsPut, WrittenReadsBack, events_of}
use Rattle.voy_queue.specs.Putting.{MayFollowInTurn, Put, commit_of, end_of, end_with, entry_of, pending_with, recorded_end}
use Rattle.voy_queue.specs.Reading.{reads_whole}
use Rattle.voy_queue.specs.Shelf.{Shelf, shelf_after, shelf_in, shelf_reading}
use Rattle.voy_queue.specs.declared.end.Added.{Added}
use Rattle.voy_queue.specs.declared.end.End.{End}
use Rattle.voy_schema.specs.Lawful.{is_lawful}
use Rattle.voy_tables.specs.declared.change.Role.{Role}

-- an export disk with these segments committed
abbrev with_segments : Role → Exports → List Added → Exports
with_segments who exports added = after_all export_step exports (map AddsEvents (map (commit_of who) added))

-- steps are lawful where each is, behind those in front of it
lawful_each : (recording : Recording) (who : Role) (exports : Exports) (added : List Added)
    → ((front : List Added) (one : Added) (rest : List Added) → front ++ one ∷ rest ≡ added → MayCommit recording (with_segments who exports front) (commit_of who one))
    → Lawful export_step (MayExport recording) exports (map AddsEvents (map (commit_of who) added))
lawful_each recording who exports [] each = tt
lawful_each recording who exports (one ∷ added) each = (
  each [] one added refl,
  lawful_each recording who (export_step exports (AddsEvents (commit_of who one))) added (λ front next rest is. each (one ∷ front) next rest (ap (λ all. one ∷ all) is)),
)

-- the shelf of these steps
shelf_of : (who : Role) (exports : Exports) (added : List Added)
    → (with_segments who exports added).shelf ≡ after_all shelf_after exports.shelf (map (commit_of who) added)
shelf_of who exports [] = refl
shelf_of who exports (one ∷ added) = shelf_of who (export_step exports (AddsEvents (commit_of who one))) added

after_on : (who : Role) (shelf : Shelf) (front : List Added) (one : Added)
    → after_all shelf_after shelf (map (commit_of who) (front ++ one ∷ [])) ≡ shelf_after (after_all shelf_after shelf (map (commit_of who) front)) (commit_of who one)
after_on who shelf [] one = refl
after_on who shelf (x ∷ front) one = after_on who (shelf_after shelf (commit_of who x)) front one

records_with : (who : Role) (exports : Exports) (entries : List MetaRecord) (added : List Added) → exports.shelf.records ≡ Some entries
    → (with_segments who exports added).shelf.records ≡ Some (entries ++ map (entry_of who) added)
records_with who exports entries [] is = is ∙ ap Some (sym (append-nil entries))
records_with who exports entries (one ∷ added) is =
    records_with who (export_step exports (AddsEvents (commit_of who one))) (entries ++ entry_of who one ∷ []) added (more exports.shelf.records is)
    ∙ ap Some (append_assoc entries (entry_of who one ∷ []) (map (entry_of who) added))
  where
    more : (told : Option (List MetaRecord)) → told ≡ Some entries → option_map (λ (found : List MetaRecord). found ++ entry_of who one ∷ []) told ≡ Some (entries ++ entry_of who one ∷ [])
    more told told_is = ap (option_map (λ (found : List MetaRecord). found ++ entry_of who one ∷ [])) told_is

-- the record behind some first ones is allowed
allowed_at : (who : Role) (state : MetaState) (front : List Added) (one : Added) (rest : List Added)
    → allowed_after state (map (entry_of who) (front ++ one ∷ rest)) ≡ true → is_allowed (state_after state (map (entry_of who) front)) (entry_of who one) ≡ true
allowed_at who state [] one rest allowed = (and_parts (is_allowed state (entry_of who one)) _ allowed).0
allowed_at who state (x ∷ front) one rest allowed =
    allowed_at who (after_record state (entry_of who x)) front one rest
    (and_parts (is_allowed state (entry_of who x)) (allowed_after (after_record state (entry_of who x)) (map (entry_of who) (front ++ one ∷ rest))) allowed).1

-- the last vsn of what was put is recorded
last_with : (who : Role) (state : MetaState) (end : End) (added : List Added) → last_vsn state ≡ end.last_vsn
    → last_vsn (state_after state (map (entry_of who) added)) ≡ (end_of end added).last_vsn
last_with who state end [] is = is
last_with who state end (one ∷ added) is =
    last_with who (after_record state (entry_of who one)) one.end added
    (last_after state one.end.number one.end.bytes one.end.last_vsn one.end.spot one.end.closed one.end.ended who)

end_last : (end : End) (front : List Added) (one : Added) → end_of end (front ++ one ∷ []) ≡ one.end
end_last end [] one = refl
end_last end (x ∷ front) one = end_last x.end front one

module _ (written : WrittenReadsBack) (first : FirstPartIsPut) (ends : EndsWithPuts) (join : StatesJoin) (say : QueueRecordsSay)
    (recording : Recording) (image : Image) (who : Role) (size : ℕ) (puts : List Put)
    (lawful : is_lawful recording.schema ≡ true) (sound : SoundExports recording (exports_in recording.schema image)) (may_write : writes (state_of sound.entries) who ≡ true)
    (may : MayFollowInTurn recording.schema who size (recorded_end (state_of sound.entries) who) puts)
    (next : AreNext recording (last_vsn (state_of sound.entries)) puts)
  where
    abbrev state : MetaState
    state = state_of sound.entries

    abbrev end : End
    end = recorded_end state who

    abbrev made : List Put → List Added
    made some = pending_with recording.schema size end [] some

    -- the end behind some first events
    abbrev end_by : ℕ → End
    end_by m = end_with recording.schema size end (take m puts)

    ends_here : (front : List Added) (m : ℕ) → front ≡ made (take m puts) → end_of end front ≡ end_by m
    ends_here front m is = ap (end_of end) is ∙ ends recording.schema size end [] (take m puts)

    begins : end.last_vsn ≡ last_vsn state
    begins = vsn_at (last_of who state) (is_ended who state) (length state.segments) (last_segment state)

    vsn_here : (front : List Added) (m : ℕ) → front ≡ made (take m puts) → (end_of end front).last_vsn ≡ last_vsn state + length (take m puts)
    vsn_here front m is =
        ap (λ (e : End). e.last_vsn) (ends_here front m is)
        ∙ vsn_by recording.schema size who (take m puts) end (may_first recording.schema size who m puts end may)
        ∙ ap (λ n. n + length (take m puts)) begins

    -- what is read behind some first segments
    read_here : (front : List Added) (m : ℕ) → front ≡ made (take m puts)
        → shelf_reading recording.schema (after_all shelf_after (shelf_in image) (map (commit_of who) front)) ≡ reads_whole (events_of (first_puts recording (last_vsn state + length (take m puts))))
    read_here front m is =
        let some = take m puts in
        let reads = written recording.schema who size some image sound.entries (events_of (first_puts recording (last_vsn state))) lawful sound.read sound.allowed may_write sound.queue
        (may_first recording.schema size who m puts end may) (length (made some)) in
        ap (λ added. shelf_reading recording.schema (after_all shelf_after (shelf_in image) (map (commit_of who) added))) (is ∙ sym (take_all (length (made some)) (made some) (omega arith)))
        ∙ reads.reading
        ∙ ap (λ events. reads_whole (events_of (first_puts recording (last_vsn state)) ++ events)) (reads.all (omega arith))
        ∙ ap reads_whole (sym (map-append (λ (put : Put). put.event) (first_puts recording (last_vsn state)) some))
        ∙ ap (λ all. reads_whole (events_of all)) (first_with recording (last_vsn state) some (next_first recording (last_vsn state) m puts next))

    -- one segment, with those in front of it
    module _ (allowed : allowed_after state (map (entry_of who) (made puts)) ≡ true) (front : List Added) (one : Added) (rest : List Added) (split : front ++ one ∷ rest ≡ made puts) where
      before : ArePut recording.schema size end puts (length front)
      before = first recording.schema size end puts (length front)

      behind : ArePut recording.schema size end puts (length (front ++ one ∷ []))
      behind = first recording.schema size end puts (length (front ++ one ∷ []))

      abbrev some : List Put
      some = take behind.some puts

      abbrev fewer : ℕ
      fewer = length (take before.some puts)

      front_is : front ≡ made (take before.some puts)
      front_is = sym (ap (take (length front)) (sym split) ∙ take_at front (one ∷ rest) (length front) refl) ∙ before.same

      more_is : front ++ one ∷ [] ≡ made some
      more_is =
          sym (ap (take (length (front ++ one ∷ []))) (sym (append_assoc front (one ∷ []) rest ∙ split)) ∙ take_at (front ++ one ∷ []) rest (length (front ++ one ∷ [])) refl)
          ∙ behind.same

      end_is : one.end ≡ end_by behind.some
      end_is = sym (end_last end front one) ∙ ends_here (front ++ one ∷ []) behind.some more_is

      vsn_is : one.end.last_vsn ≡ last_vsn state + length some
      vsn_is = ap (λ (e : End). e.last_vsn) (sym (end_last end front one)) ∙ vsn_here (front ++ one ∷ []) behind.some more_is

      may_some : MayFollowInTurn recording.schema who size end some
      may_some = may_first recording.schema size who behind.some puts end may

      next_some : AreNext recording (last_vsn state) some
      next_some = next_first recording (last_vsn state) behind.some puts next

      passes : is_allowed (state_after state (map (entry_of who) front)) (entry_of who one) ≡ true
      passes = allowed_at who state front one rest (ap (λ all. allowed_after state (map (entry_of who) all)) split ∙ allowed)

      last_front : last_vsn (state_after state (map (entry_of who) front)) ≡ last_vsn state + fewer
      last_front = last_with who state end front (sym begins) ∙ vsn_here front before.some front_is

      up : fewer ≤ length some
      up =
          let segment : SegmentState = record { bytes = one.end.bytes; last_vsn = one.end.last_vsn; role = who; closed = one.end.closed; ended = one.end.ended } in
          let said = (say (state_after state (map (entry_of who) front)) one.end.number segment one.end.spot).0 passes in
          let rises : last_vsn (state_after state (map (entry_of who) front)) ≤ one.end.last_vsn = said.1.rises in
          let old = last_front in
          let new = vsn_is in
          omega (arith, rises, old, new)

      -- some event is in it
      strict : fewer < length some
      strict = by (cases_lt fewer (length some)) where
        same : length some ≤ fewer → front ≡ front ++ one ∷ []
        same low = let rise = up in front_is ∙ ap made (same_first before.some behind.some puts (omega (arith, low, rise))) ∙ sym more_is

        never : length some ≤ fewer → fewer < length some
        never low = let long = ap length (same low) in let size = length_push front one in absurd (omega (arith, long, size))

        by : (fewer < length some) ⊎ (length some ≤ fewer) → fewer < length some
        by (inl below) = below
        by (inr low) = never low

      state_here : state_of (sound.entries ++ map (entry_of who) front) ≡ state_after state (map (entry_of who) front)
      state_here = join empty_state sound.entries (map (entry_of who) front)

      between_is : puts_between recording (last_vsn (state_of (sound.entries ++ map (entry_of who) front))) one.end.last_vsn ≡ drop fewer some
      between_is =
          ap (λ from. puts_between recording from one.end.last_vsn) (ap last_vsn state_here ∙ last_front)
          ∙ ap (puts_between recording (last_vsn state + fewer)) vsn_is
          ∙ between_next recording (last_vsn state) fewer some next_some

      spot_is : one.end.spot ≡ place_at recording who one.end.last_vsn
      spot_is =
          ap (λ (e : End). e.spot) end_is
          ∙ spot_by recording.schema size who some end may_some
          ∙ ap (λ spot. place_in who spot some) (spot_at (last_of who state) (is_ended who state) (length state.segments) (last_segment state) ∙ sound.places who)
          ∙ sym (place_on who None (first_puts recording (last_vsn state)) some)
          ∙ ap (place_in who None) (first_with recording (last_vsn state) some next_some)
          ∙ ap (place_at recording who) (sym vsn_is)

      may_here : MayCommit recording (with_segments who (exports_in recording.schema image) front) (commit_of who one)
      may_here = record {
        entries = sound.entries ++ map (entry_of who) front;
        read = records_with who (exports_in recording.schema image) sound.entries front sound.read;
        allowed = ap (λ s. is_allowed s (entry_of who one)) state_here ∙ passes;
        bytes = one.end.bytes;
        vsn = one.end.last_vsn;
        role = who;
        closed = one.end.closed;
        ended = one.end.ended;
        entry_is = ap (λ spot. Queue one.end.number one.end.bytes one.end.last_vsn who spot one.end.closed one.end.ended) spot_is;
        reads =
            ap (λ shelf. shelf_reading recording.schema (shelf_after shelf (commit_of who one))) (shelf_of who (exports_in recording.schema image) front)
            ∙ ap (shelf_reading recording.schema) (sym (after_on who (shelf_in image) front one))
            ∙ read_here (front ++ one ∷ []) behind.some more_is
            ∙ ap (λ n. reads_whole (events_of (first_puts recording n))) (sym vsn_is);
        rises = (let from = ap last_vsn state_here ∙ last_front in let to = vsn_is in let more = strict in omega (arith, from, to, more));
        exporter =
            ap (λ puts. list_all (λ (put : Put). is_role put.event.role who) puts) between_is
            ∙ by_behind who fewer some (are_by recording.schema size who some end may_some);
        end =
            ap (λ (e : End). e.ended) end_is
            ∙ sym (ap (has_cutover who) between_is ∙ cutover_by recording.schema size who some end fewer may_some strict);
      }

pub commits_are_lawful : WrittenReadsBack → FirstPartIsPut → EndsWithPuts → StatesJoin → QueueRecordsSay → CommitsAreLawful
commits_are_lawful written first ends join say recording image who size puts count lawful sound may_write may allowed next =
    let all = pending_with recording.schema size (recorded_end (state_of sound.entries) who) [] puts in
    lawful_each recording who (exports_in recording.schema image) (take count all) (λ front one rest is.
    may_here written first ends join say recording image who size puts lawful sound may_write may next allowed front one (rest ++ drop count all)
    (sym (append_assoc front (one ∷ rest) (drop count all)) ∙ ap (λ xs. xs ++ drop count all) is ∙ take-append-drop count all))
