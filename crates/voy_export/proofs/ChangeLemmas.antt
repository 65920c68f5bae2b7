-- What a whole export of changes comes to.
use Rattle.std.specs.Prelude.{◌≡◌, ℕ, suc, ◌+◌, ◌-◌, ◌&&◌, not, Bool, true, false, List, [], ◌∷◌, Option, Some, length, if◌then◌else◌}
use Rattle.std.proofs.Common.{arith, refl, sym, ap, subst, ◌∙◌}
use Rattle.voy_disk.specs.Images.{Image}
use Rattle.voy_disk.specs.Steps.{Follows, From, Goes, Reaches}
use Rattle.voy_event.specs.Events.{is_change, is_cutover}
use Rattle.voy_event.specs.declared.event.What.{What}
use Rattle.voy_event.specs.declared.event.What.TheVariants.{Change, CutoverSource, CutoverTarget}
use Rattle.voy_export.specs.Calls.{count_changes}
use Rattle.voy_export.specs.Ends.{changes_end, export_end}
use Rattle.voy_export.specs.Exports.{exports_in}
use Rattle.voy_export.specs.Laws.{AreNext, ExportsAreNext}
use Rattle.voy_export.specs.Recording.{recording_of}
use Rattle.voy_export.specs.Sound.{SoundExports}
use Rattle.voy_export.specs.Steps.{last_vsn}
use Rattle.voy_export.proofs.TurnLemmas.{vsn_behind}
use Rattle.voy_feed.specs.Kept.{ChangeReading, kept_reading}
use Rattle.voy_tables.specs.declared.change.Spot.{Spot}
use Rattle.std.proofs.lemmas.Bool.{and_parts}
use Rattle.voy_export.proofs.CommitLemmas.{recorded_ended, recorded_vsn}
use Rattle.voy_meta.specs.Allowed.{has_fall_back, writes}
use Rattle.voy_meta.specs.Sides.{is_ended}
use Rattle.voy_tables.specs.declared.change.Role.TheVariants as role
use Rattle.voy_meta.specs.Meta.{ReadsAs}
use Rattle.voy_meta.specs.State.{state_of}
use Rattle.voy_meta.specs.declared.state.MetaState.{MetaState}
use Rattle.voy_queue.specs.Laws.{EndsWithPuts}
use Rattle.voy_queue.specs.Putting.{MayFollowInTurn, Put, end_after, end_behind, end_with, recorded_end}
use Rattle.voy_queue.specs.declared.end.End.{End}
use Rattle.voy_schema.specs.declared.table.Table.{Table}
use Rattle.voy_tables.specs.declared.change.Role.{Role}

some_same : {A : Type 0} {x y : A} → Some x ≡ Some y → x ≡ y
some_same same = cc

-- what an export adds to a sound disk is next, by the state that its metadata have
pub next_of : ExportsAreNext → (schema : List Table) (files : Image) (state : MetaState) (role : Role) (size : ℕ) (max : Option ℕ) (end : Bool) (image : Image)
    → ReadsAs state image → writes state role ≡ true → SoundExports (recording_of schema files) (exports_in schema image)
    → AreNext (recording_of schema files) (last_vsn state) (export_end schema size files role state max end).puts
next_of law schema files state role size max end image reads may sound =
    subst (λ (s : MetaState). AreNext (recording_of schema files) (last_vsn s) (export_end schema size files role s max end).puts) same
    (law schema files (exports_in schema image) role size max end sound (subst (λ (s : MetaState). writes s role ≡ true) (sym same) may))
  where
    same : state_of sound.entries ≡ state
    same = ap state_of (some_same (sym sound.read ∙ reads.read)) ∙ sym reads.state_is

-- steps from an image of before, where each image of before has them
pub goes_where : {R K : Type 0} (reads : Image → R) (step : R → K → R) (may : R → K → Type 0) {r : Image → Image → Type 0} {a b : Image → Type 0}
    → Follows r a b → ((i : Image) → a i → Goes reads step may a b) → Goes reads step may a b
goes_where reads step may {r} {a} {b} some goes = record { from = λ j is. by j is (some.from j is) } where
  by : (j : Image) → b j → From r a j → From (λ i k. Reaches step may (reads i) (reads k)) a j
  by j is from = (goes from.before from.was).from j is

-- one for a cutover
abbrev pub cutovers : Bool → ℕ
cutovers false = 0
cutovers true = 1

one_more : (what : What) (rest cutover total : ℕ) → is_cutover what ≡ false → rest + cutover ≡ total
    → (if is_change what then 1 else 0) + rest + cutover ≡ suc total
one_more (Change change) rest cutover total goes is = omega (arith, is)
one_more CutoverTarget rest cutover total goes is = cc
one_more CutoverSource rest cutover total goes is = cc

last_one : (what : What) → (if is_change what then 1 else 0) + 0 + cutovers (is_cutover what) ≡ 1
last_one (Change change) = refl
last_one CutoverTarget = refl
last_one CutoverSource = refl

-- all puts but the cutover are changes
count_with : (schema : List Table) (role : Role) (size : ℕ) (end : End) (puts : List Put) → MayFollowInTurn schema role size end puts → end.ended ≡ false
    → count_changes puts + cutovers (end_with schema size end puts).ended ≡ length puts
count_with schema role size end [] may ended = rw ended refl
count_with schema role size end (put ∷ []) may ended = last_one put.event.what
count_with schema role size end (put ∷ next ∷ more) may ended =
    one_more put.event.what (count_changes (next ∷ more)) (cutovers (end_with schema size (end_after schema size end put.event put.spot) (next ∷ more)).ended) (suc (length more)) may.1.0.goes_on
    (count_with schema role size (end_after schema size end put.event put.spot) (next ∷ more) may.1 may.1.0.goes_on)

-- the changes between two ends
pub changes_between : EndsWithPuts → (schema : List Table) (role : Role) (size : ℕ) (from to : End) (puts : List Put) (changes : ℕ)
    → MayFollowInTurn schema role size from puts → from.ended ≡ false → to ≡ end_behind schema size from puts
    → changes ≡ to.last_vsn - from.last_vsn - (if to.ended then 1 else 0) → changes ≡ count_changes puts
changes_between ends schema role size from to puts changes may ended is between =
    let count = count_with schema role size from puts may ended in
    let here = is ∙ ends schema size from [] puts in
    let vsn = ap (λ (e : End). e.last_vsn) is ∙ vsn_behind ends schema role size from puts may in
    by to.ended refl count (ap (λ (e : End). cutovers e.ended) (sym here)) vsn
  where
    by : (b : Bool) → to.ended ≡ b → count_changes puts + cutovers (end_with schema size from puts).ended ≡ length puts
        → cutovers (end_with schema size from puts).ended ≡ cutovers to.ended → to.last_vsn ≡ from.last_vsn + length puts → changes ≡ count_changes puts
    by true b count same vsn = let one : cutovers to.ended ≡ 1 = ap cutovers b in let change : changes ≡ to.last_vsn - from.last_vsn - 1 = between ∙ rw b refl in omega (arith, count, same, one, vsn, change)
    by false b count same vsn = let none : cutovers to.ended ≡ 0 = ap cutovers b in let change : changes ≡ to.last_vsn - from.last_vsn - 0 = between ∙ rw b refl in omega (arith, count, same, none, vsn, change)

-- what is left at the beginning is what the export adds
pub end_is : (schema : List Table) (size : ℕ) (file : List ℕ) (role : Role) (at there : End) (max : Option ℕ) (end : Bool) (last before : Option Spot) (reading left : ChangeReading)
    → there ≡ at → before ≡ last → left ≡ reading
    → changes_end schema size file role there max end (kept_reading before left) ≡ changes_end schema size file role at max end (kept_reading last reading)
end_is schema size file role at there max end last before reading left here place starts = rw (here, place, starts) refl

is_false : (b : Bool) → not b ≡ true → b ≡ false
is_false true h = cc
is_false false h = refl

-- an exporter that writes has not ended its part
not_ended : (r : Role) (state : MetaState) → writes state r ≡ true → is_ended r state ≡ false
not_ended role.Source state may = is_false state.ended_source may
not_ended role.Target state may = is_false state.ended_target (and_parts (has_fall_back state) (not state.ended_target) (and_parts state.ended_source (has_fall_back state && not state.ended_target) may).1).1

pub start_ended : (r : Role) (state : MetaState) (end : End) → end ≡ recorded_end state r → writes state r ≡ true → end.ended ≡ false
start_ended r state end is may = ap (λ (e : End). e.ended) is ∙ recorded_ended state r ∙ not_ended r state may

pub between_ends : (a b from to : End) (changes : ℕ) → a ≡ from → b ≡ to → changes ≡ b.last_vsn - a.last_vsn - (if b.ended then 1 else 0)
    → changes ≡ to.last_vsn - from.last_vsn - (if to.ended then 1 else 0)
between_ends a b from to changes from_is to_is is = is ∙ rw (from_is, to_is) refl

-- the changes between two recorded ends
pub recorded_changes : (old new : MetaState) (r : Role) (from to : End) (changes : ℕ) → from ≡ recorded_end old r → to ≡ recorded_end new r
    → changes ≡ to.last_vsn - from.last_vsn - (if to.ended then 1 else 0)
    → changes ≡ last_vsn new - last_vsn old - (if is_ended r new then 1 else 0)
recorded_changes old new r from to changes from_is to_is is =
    is
    ∙ ap (λ (n : ℕ). n - from.last_vsn - (if to.ended then 1 else 0)) (ap (λ (e : End). e.last_vsn) to_is ∙ recorded_vsn new r)
    ∙ ap (λ (n : ℕ). last_vsn new - n - (if to.ended then 1 else 0)) (ap (λ (e : End). e.last_vsn) from_is ∙ recorded_vsn old r)
    ∙ ap (λ (b : Bool). last_vsn new - last_vsn old - (if b then 1 else 0)) (ap (λ (e : End). e.ended) to_is ∙ recorded_ended new r)
