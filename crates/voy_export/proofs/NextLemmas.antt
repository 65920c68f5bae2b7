-- What an export adds are the next events of the whole queue.
use Rattle.std.proofs.Common.{◌≡◌, ◌≤◌, ◌<◌, ◌+◌, ◌-◌, ◌∷◌, ◌++◌, ℕ, zero, suc, Bool, true, false, List, [], length, take, drop, map, refl, sym, ap, ◌∙◌, arith, inl, inr, subst}
use Rattle.std.proofs.lemmas.Bool.{and_from, and_parts, cases_lt, leb-true, not-true, true≢false}
use Rattle.std.proofs.lemmas.List.{append-nil, drop-map, length-map, length-take, take-append-drop, take-take, take_all}
use Rattle.std.specs.Prelude.{◌&&◌, ◌||◌, ◌⊎◌, is_none, Option, Some, None, if◌then◌else◌}
use Rattle.voy_disk.specs.Images.{Image}
use Rattle.voy_event.specs.declared.recorded.Recorded.{Recorded}
use Rattle.voy_export.proofs.PlaceLemmas.{AreBy, cutover_none, cutover_on, place_on, place_same}
use Rattle.voy_export.proofs.PutLemmas.{same_role, vsn_at}
use Rattle.voy_export.specs.Ends.{ChangesEnd, Stop, Wanted, behind_put, export_end, has_number, past, reads_on, stop_behind, up_to, wanted, wanted_changes, wanted_cutover, within_limits}
use Rattle.voy_export.specs.Exports.{Exports}
use Rattle.voy_export.specs.Laws.{ExportsAreNext}
use Rattle.voy_export.specs.Recording.{change_put, cutover_put, part_puts, recording_of, whole_queue}
use Rattle.voy_export.specs.Sound.{SoundExports}
use Rattle.voy_export.specs.Steps.{has_cutover, last_vsn, place_in}
use Rattle.voy_feed.specs.Kept.{ChangeReading, Numbered, change_file, changes_of, kept, kept_from, kept_reading}
use Rattle.voy_feed.specs.KeptLaws.{KeptGoOn, last_spot}
use Rattle.voy_meta.specs.Allowed.{has_fall_back, writes}
use Rattle.voy_meta.specs.Sides.{is_ended, is_role, last_of, last_segment}
use Rattle.voy_meta.specs.State.{state_of}
use Rattle.voy_meta.specs.declared.state.MetaState.{MetaState}
use Rattle.voy_queue.specs.Putting.{Put, end_after, newer, recorded_end}
use Rattle.voy_queue.specs.declared.end.End.{End}
use Rattle.voy_schema.specs.declared.table.Table.{Table}
use Rattle.voy_tables.specs.declared.change.Role.{Role}
use Rattle.voy_tables.specs.declared.change.Role.TheVariants as role
use Rattle.voy_tables.specs.declared.change.Spot.{Spot}

-- these are some first ones of those
abbrev IsFront : {A : Type 0} → List A → List A → Type 0
IsFront xs ys = xs ≡ take (length xs) ys

-- some first ones of some first ones
fronts : {A : Type 0} (xs ys zs : List A) → IsFront xs ys → IsFront ys zs → IsFront xs zs
fronts xs ys zs is here =
    let size = ap length is in
    let least = length-take (length xs) ys in
    is ∙ ap (take (length xs)) here ∙ take-take (length xs) (length ys) zs (omega (arith, size, least))

abbrev puts_of : List Wanted → List Put
puts_of all = map (λ (one : Wanted). one.put) all

abbrev recorded_of : List Numbered → List Recorded
recorded_of changes = map (λ (change : Numbered). change.recorded) changes

-- the limits leave some first ones
within_front : (schema : List Table) (size : ℕ) (file : List ℕ) (at : End) (all : List Wanted) (stop : Stop)
    → IsFront (within_limits schema size file at all stop).puts (puts_of all)
within_front schema size file at [] stop = refl
within_front schema size file at (one ∷ more) stop =
    by (has_number at) (within_limits schema size file (end_after schema size at one.put.event one.put.spot) more stop)
    (within_front schema size file (end_after schema size at one.put.event one.put.spot) more stop)
  where
    by : (on : Bool) (rest : ChangesEnd) → IsFront rest.puts (puts_of more)
        → IsFront (if on then behind_put one.put rest else record { puts = []; stop = past file one.line }).puts (one.put ∷ puts_of more)
    by true rest is = ap (λ puts. one.put ∷ puts) is
    by false rest is = refl

-- the wanted events of some first changes, and the cutover behind all of them, are some first ones of the part
changes_front : (who : Role) (n : ℕ) (changes more : List Numbered) (behind : List Put)
    → IsFront (puts_of (wanted_changes who n changes)) (part_puts who n (recorded_of (changes ++ more)) ++ behind)
changes_front who n [] more behind = refl
changes_front who n (change ∷ changes) more behind = ap (λ puts. change_put who (suc n) change.recorded ∷ puts) (changes_front who (suc n) changes more behind)

all_front : (who : Role) (n last : ℕ) (changes : List Numbered) (behind : List Put) → last ≡ n + length changes
    → IsFront (puts_of (wanted_changes who n changes ++ wanted_cutover who last true)) (part_puts who n (recorded_of changes) ++ behind)
all_front who n last [] behind is = let here : last ≡ n = omega (arith, is) in ap (λ k. cutover_put who (suc k) ∷ []) here
all_front who n last (change ∷ changes) behind is =
    ap (λ puts. change_put who (suc n) change.recorded ∷ puts) (all_front who (suc n) last changes behind (omega (arith, is)))

some_front : (who : Role) (n : ℕ) (max : Option ℕ) (changes : List Numbered) (behind : List Put)
    → IsFront (puts_of (wanted_changes who n (up_to max changes))) (part_puts who n (recorded_of changes) ++ behind)
some_front who n None changes behind =
    subst (λ all. IsFront (puts_of (wanted_changes who n changes)) (part_puts who n (recorded_of all) ++ behind)) (append-nil changes) (changes_front who n changes [] behind)
some_front who n (Some max) changes behind =
    subst (λ all. IsFront (puts_of (wanted_changes who n (take max changes))) (part_puts who n (recorded_of all) ++ behind)) (take-append-drop max changes)
    (changes_front who n (take max changes) (drop max changes) behind)

-- a cutover is wanted only where none is left out
none_left : (max : Option ℕ) (end : Bool) (changes : List Numbered) → end ≡ true → reads_on max end (length changes) ≡ true → up_to max changes ≡ changes
none_left None end changes ends reads = refl
none_left (Some max) true changes ends reads = take_all max changes (leb-true (length changes) max reads)
none_left (Some max) false changes ends reads = cc

wanted_front : (who : Role) (n : ℕ) (max : Option ℕ) (end : Bool) (reading : ChangeReading) (behind : List Put)
    → IsFront (puts_of (wanted who n max end reading)) (part_puts who n (recorded_of reading.changes) ++ behind)
wanted_front who n max end reading behind = by (end && (reads_on max end (length reading.changes) && is_none reading.refused)) refl where
  by : (asked : Bool) → (end && (reads_on max end (length reading.changes) && is_none reading.refused)) ≡ asked
      → IsFront (puts_of (wanted_changes who n (up_to max reading.changes) ++ wanted_cutover who (n + length (up_to max reading.changes)) asked)) (part_puts who n (recorded_of reading.changes) ++ behind)
  by true is =
      let parts = and_parts end _ is in
      let all = none_left max end reading.changes parts.0 (and_parts (reads_on max end (length reading.changes)) _ parts.1).0 in
      subst (λ changes. IsFront (puts_of (wanted_changes who n changes ++ wanted_cutover who (n + length changes) true)) (part_puts who n (recorded_of reading.changes) ++ behind)) (sym all)
      (all_front who n (n + length reading.changes) reading.changes behind refl)
  by false is =
      subst (λ all. IsFront (puts_of all) (part_puts who n (recorded_of reading.changes) ++ behind)) (sym (append-nil (wanted_changes who n (up_to max reading.changes))))
      (some_front who n max reading.changes behind)

-- ---- a part of the whole queue

and_none : (b : Bool) → (b && false) ≡ false
and_none true = refl
and_none false = refl

-- the cutover of a part stands behind its changes
cutover_late : (who : Role) (vsn : ℕ) (all : List Recorded) (behind : List Put) (n : ℕ) → n ≤ length all → has_cutover who (take n (part_puts who vsn all ++ behind)) ≡ false
cutover_late who vsn all behind zero low = refl
cutover_late who vsn [] behind (suc n) low = absurd (omega arith)
cutover_late who vsn (recorded ∷ all) behind (suc n) low =
    ap (λ is. is || has_cutover who (take n (part_puts who (suc vsn) all ++ behind))) (and_none (is_role who who)) ∙ cutover_late who (suc vsn) all behind n (omega arith)

cutover_there : (who : Role) (vsn : ℕ) (all : List Recorded) (behind : List Put) (n : ℕ) → length all < n → has_cutover who (take n (part_puts who vsn all ++ behind)) ≡ true
cutover_there who vsn all behind zero low = absurd (omega arith)
cutover_there role.Source vsn [] behind (suc n) low = refl
cutover_there role.Target vsn [] behind (suc n) low = refl
cutover_there who vsn (recorded ∷ all) behind (suc n) low =
    ap (λ is. is || has_cutover who (take n (part_puts who (suc vsn) all ++ behind))) (and_none (is_role who who)) ∙ cutover_there who (suc vsn) all behind n (omega arith)

-- so where it is not there, no more than the changes are, and where it is there, more
not_ended : (who : Role) (vsn : ℕ) (all : List Recorded) (behind : List Put) (n : ℕ) → has_cutover who (take n (part_puts who vsn all ++ behind)) ≡ false → n ≤ length all
not_ended who vsn all behind n is = by (cases_lt (length all) n) where
  by : (length all < n) ⊎ (n ≤ length all) → n ≤ length all
  by (inl more) = absurd (true≢false (sym (cutover_there who vsn all behind n more) ∙ is))
  by (inr low) = low

is_over : (who : Role) (vsn : ℕ) (all : List Recorded) (behind : List Put) (n : ℕ) → has_cutover who (take n (part_puts who vsn all ++ behind)) ≡ true → length all < n
is_over who vsn all behind n is = by (cases_lt (length all) n) where
  by : (length all < n) ⊎ (n ≤ length all) → length all < n
  by (inl more) = more
  by (inr low) = absurd (true≢false (sym is ∙ cutover_late who vsn all behind n low))

-- its last place is that of the last change
spot_there : (who : Role) (before : Option Spot) (vsn : ℕ) (changes : List Numbered) (behind : List Put) (n : ℕ) → n ≤ length changes
    → place_in who before (take n (part_puts who vsn (recorded_of changes) ++ behind)) ≡ last_spot before (take n changes)
spot_there who before vsn changes behind zero low = refl
spot_there who before vsn [] behind (suc n) low = absurd (omega arith)
spot_there who before vsn (change ∷ changes) behind (suc n) low =
    ap (λ is. place_in who (if is then newer before (Some change.recorded.spot) else before) (take n (part_puts who (suc vsn) (recorded_of changes) ++ behind))) (same_role who)
    ∙ spot_there who (Some change.recorded.spot) (suc vsn) changes behind n (omega arith)

-- behind some changes the others are left
left_there : (who : Role) (vsn : ℕ) (all : List Recorded) (behind : List Put) (n : ℕ) → n ≤ length all
    → drop n (part_puts who vsn all ++ behind) ≡ part_puts who (vsn + n) (drop n all) ++ behind
left_there who vsn all behind zero low = let here : vsn ≡ vsn + 0 = omega arith in ap (λ k. part_puts who k all ++ behind) here
left_there who vsn [] behind (suc n) low = absurd (omega arith)
left_there who vsn (recorded ∷ all) behind (suc n) low =
    let here : suc vsn + n ≡ vsn + suc n = omega arith in
    left_there who (suc vsn) all behind n (omega arith) ∙ ap (λ k. part_puts who k (drop n all) ++ behind) here

part_by : (who : Role) (vsn : ℕ) (all : List Recorded) → AreBy who (part_puts who vsn all)
part_by who vsn [] = and_from (is_role who who) true (same_role who) refl
part_by who vsn (recorded ∷ all) = and_from (is_role who who) _ (same_role who) (part_by who (suc vsn) all)

part_length : (who : Role) (vsn : ℕ) (all : List Recorded) → length (part_puts who vsn all) ≡ suc (length all)
part_length who vsn [] = refl
part_length who vsn (recorded ∷ all) = ap suc (part_length who (suc vsn) all)

take_past : {A : Type 0} (n k : ℕ) (xs ys : List A) → n ≡ length xs + k → take n (xs ++ ys) ≡ xs ++ take k ys
take_past n k [] ys is = let here : n ≡ k = omega (arith, is) in ap (λ m. take m ys) here
take_past zero k (x ∷ xs) ys is = absurd (omega (arith, is))
take_past (suc n) k (x ∷ xs) ys is = ap (λ rest. x ∷ rest) (take_past n k xs ys (omega (arith, is)))

drop_past : {A : Type 0} (n k : ℕ) (xs ys : List A) → n ≡ length xs + k → drop n (xs ++ ys) ≡ drop k ys
drop_past n k [] ys is = let here : n ≡ k = omega (arith, is) in ap (λ m. drop m ys) here
drop_past zero k (x ∷ xs) ys is = absurd (omega (arith, is))
drop_past (suc n) k (x ∷ xs) ys is = drop_past n k xs ys (omega (arith, is))

-- ---- where the queue stands in the part of an exporter

-- so many of its kept changes are among the first events; those behind the first events begin with the others
record IsAt (whole : List Put) (who : Role) (changes : List Numbered) (n : ℕ) : Type 0 where
  some : ℕ
  behind : List Put
  place : place_in who None (take n whole) ≡ last_spot None (take some changes)
  left : drop n whole ≡ part_puts who n (recorded_of (drop some changes)) ++ behind

module _ (source target : List Numbered) where
  abbrev part : List Put
  part = part_puts role.Source 0 (recorded_of source)

  abbrev other : List Put
  other = part_puts role.Target (suc (length (recorded_of source))) (recorded_of target)

  source_at : (n : ℕ) → has_cutover role.Source (take n (part ++ other)) ≡ false → IsAt (part ++ other) role.Source source n
  source_at n is =
      let low = not_ended role.Source 0 (recorded_of source) other n is in
      let size = length-map source (λ (change : Numbered). change.recorded) in
      let here : 0 + n ≡ n = omega arith in
      record {
        some = n;
        behind = other;
        place = spot_there role.Source None 0 source other n (omega (arith, low, size));
        left =
            left_there role.Source 0 (recorded_of source) other n low
            ∙ ap (λ k. part_puts role.Source k (drop n (recorded_of source)) ++ other) here
            ∙ ap (λ all. part_puts role.Source n all ++ other) (drop-map (λ (change : Numbered). change.recorded) n source);
      }

  -- the source's part is over, and so many events of the target's part are there
  module _ (n k : ℕ) (is : n ≡ length part + k) where
    target_place : place_in role.Target None (take n (part ++ other)) ≡ place_in role.Target None (take k (other ++ []))
    target_place =
        ap (place_in role.Target None) (take_past n k part other is)
        ∙ place_on role.Target None part (take k other)
        ∙ ap (λ before. place_in role.Target before (take k other)) (place_same role.Source role.Target None part (part_by role.Source 0 (recorded_of source)) refl)
        ∙ ap (λ all. place_in role.Target None (take k all)) (sym (append-nil other))

    target_cutover : has_cutover role.Target (take n (part ++ other)) ≡ has_cutover role.Target (take k (other ++ []))
    target_cutover =
        ap (has_cutover role.Target) (take_past n k part other is)
        ∙ cutover_on role.Target part (take k other)
        ∙ ap (λ b. b || has_cutover role.Target (take k other)) (cutover_none role.Source role.Target part (part_by role.Source 0 (recorded_of source)) refl)
        ∙ ap (λ all. has_cutover role.Target (take k all)) (sym (append-nil other))

    target_in : has_cutover role.Target (take n (part ++ other)) ≡ false → IsAt (part ++ other) role.Target target n
    target_in no_end =
        let low = not_ended role.Target (suc (length (recorded_of source))) (recorded_of target) [] k (sym target_cutover ∙ no_end) in
        let size = length-map target (λ (change : Numbered). change.recorded) in
        let long = part_length role.Source 0 (recorded_of source) in
        let here : suc (length (recorded_of source)) + k ≡ n = omega (arith, long, is) in
        record {
          some = k;
          behind = [];
          place = target_place ∙ spot_there role.Target None (suc (length (recorded_of source))) target [] k (omega (arith, low, size));
          left =
              drop_past n k part other is
              ∙ ap (drop k) (sym (append-nil other))
              ∙ left_there role.Target (suc (length (recorded_of source))) (recorded_of target) [] k low
              ∙ ap (λ m. part_puts role.Target m (drop k (recorded_of target)) ++ []) here
              ∙ ap (λ all. part_puts role.Target n all ++ []) (drop-map (λ (change : Numbered). change.recorded) k target);
        }

  target_at : (n : ℕ) → has_cutover role.Source (take n (part ++ other)) ≡ true → has_cutover role.Target (take n (part ++ other)) ≡ false
      → IsAt (part ++ other) role.Target target n
  target_at n over no_end =
      let more = is_over role.Source 0 (recorded_of source) other n over in
      let long = part_length role.Source 0 (recorded_of source) in
      target_in n (n - suc (length (recorded_of source))) (omega (arith, more, long)) no_end

module _ (schema : List Table) (files : Image) (exports : Exports) (sound : SoundExports (recording_of schema files) exports) where
  abbrev state : MetaState
  state = state_of sound.entries

  is_at : (who : Role) → writes state who ≡ true → IsAt (whole_queue (recording_of schema files)) who (kept schema (files (change_file who))) (last_vsn state)
  is_at role.Source may_write =
      source_at (kept schema (files (change_file role.Source))) (kept schema (files (change_file role.Target))) (last_vsn state)
      (sym (sound.ends role.Source) ∙ not-true state.ended_source may_write)
  is_at role.Target may_write =
      let parts = and_parts state.ended_source _ may_write in
      target_at (kept schema (files (change_file role.Source))) (kept schema (files (change_file role.Target))) (last_vsn state)
      (sym (sound.ends role.Source) ∙ parts.0)
      (sym (sound.ends role.Target) ∙ not-true state.ended_target (and_parts (has_fall_back state) _ parts.1).1)

pub exports_are_next : KeptGoOn → ExportsAreNext
exports_are_next go_on schema files exports who size max end sound may_write =
    let now = state_of sound.entries in
    let n = last_vsn now in
    let here = is_at schema files exports sound who may_write in
    let at = recorded_end now who in
    let reading = kept_reading (last_of who now) (changes_of schema (files (change_file who))) in
    let vsn : at.last_vsn ≡ n = vsn_at (last_of who now) (is_ended who now) (length now.segments) (last_segment now) in
    let left : reading.changes ≡ drop here.some (kept schema (files (change_file who)))
    = ap (λ spot. kept_from spot (changes_of schema (files (change_file who))).changes) (sound.places who ∙ here.place)
    ∙ go_on None (changes_of schema (files (change_file who))).changes here.some in
    fronts (export_end schema size files who now max end).puts (puts_of (wanted who at.last_vsn max end reading)) (drop n (whole_queue (recording_of schema files)))
    (within_front schema size (change_file who) at (wanted who at.last_vsn max end reading) (stop_behind (change_file who) max end reading))
    (subst (λ k. IsFront (puts_of (wanted who k max end reading)) (drop n (whole_queue (recording_of schema files)))) (sym vsn)
    (subst (IsFront (puts_of (wanted who n max end reading))) (ap (λ changes. part_puts who n (recorded_of changes) ++ here.behind) left ∙ sym here.left)
    (wanted_front who n max end reading here.behind)))
