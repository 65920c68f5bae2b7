-- The laws that callers go by, each of which a public function proves.
use Rattle.std.specs.Prelude.{◌≡◌, ◌≢◌, ℕ, true, List, ◌++◌, Option}
use Rattle.voy_disk.specs.Calls.{Change}
use Rattle.voy_disk.specs.Files.{Files}
use Rattle.voy_disk.specs.Frames.{KeepsBeside, KeepsOtherFiles, OneOf}
use Rattle.voy_disk.specs.Images.{Image, ImagesOf}
use Rattle.voy_disk.specs.Steps.{Every}
use Rattle.voy_meta.specs.Allowed.{allowed_after}
use Rattle.voy_meta.specs.Meta.{AddsRecords, HasRecords, IsMetaDamaged, MetaStands, ReadsAs, meta_name, meta_state}
use Rattle.voy_meta.specs.State.{state_after}
use Rattle.voy_meta.specs.declared.meta.Meta.{Meta}
use Rattle.voy_meta.specs.declared.record.MetaRecord.{MetaRecord}
use Rattle.voy_meta.specs.declared.state.MetaState.{MetaState}

-- where the metadata stand, every image reads as their state
abbrev pub StateInEveryImage : Type 0
StateInEveryImage = (meta : Meta) (files : Option Files) → MetaStands meta files → Every (ImagesOf files) (ReadsAs (meta_state meta))

-- an image reads as one state at most
abbrev pub OneState : Type 0
OneState = (s t : MetaState) (image : Image) → ReadsAs s image → ReadsAs t image → s ≡ t

-- the metadata stand where a call leaves `meta.journal`, whatever it does to these other files
abbrev pub StandsBeside : Type 0
StandsBeside =
    (meta : Meta) (names : List (List ℕ)) (old new : Option Files) → (OneOf names meta_name → ⊥)
    → Change (KeepsBeside (OneOf names)) old new → MetaStands meta old → MetaStands meta new

-- the same of one other file
abbrev pub StandsBesideOne : Type 0
StandsBesideOne =
    (meta : Meta) (other : List ℕ) (old new : Option Files) → other ≢ meta_name
    → Change (KeepsOtherFiles other) old new → MetaStands meta old → MetaStands meta new

-- these records more, and then those more, are both more
abbrev pub AddsOn : Type 0
AddsOn = (xs ys : List MetaRecord) (i j k : Image) → AddsRecords xs i j → AddsRecords ys j k → AddsRecords (xs ++ ys) i k

-- an image that has allowed records more reads as the state that they come to
abbrev pub ReadsMore : Type 0
ReadsMore =
    (state : MetaState) (added : List MetaRecord) (i j : Image) → ReadsAs state i → AddsRecords added i j
    → allowed_after state added ≡ true → ReadsAs (state_after state added) j

-- bytes that are a journal of allowed records are not damaged
abbrev pub RecordsAreWhole : Type 0
RecordsAreWhole = (entries : List MetaRecord) (bytes : List ℕ) (offset : ℕ) → HasRecords entries bytes → IsMetaDamaged bytes offset → ⊥
