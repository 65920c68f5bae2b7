-- The laws of exports that callers go by, each of which a public function proves.
use Rattle.std.specs.Prelude.{◌≡◌, ℕ, Bool, true, List, [], Option, drop, length, map, take}
use Rattle.voy_disk.specs.Files.{Files}
use Rattle.voy_disk.specs.Images.{Image, ImagesOf}
use Rattle.voy_disk.specs.Steps.{Every, Goes, Lawful}
use Rattle.voy_export.specs.Ends.{export_end}
use Rattle.voy_export.specs.Exports.{Exports, exports_in}
use Rattle.voy_export.specs.Recording.{Recording, recording_of, whole_queue}
use Rattle.voy_export.specs.Sound.{SoundExports}
use Rattle.voy_export.specs.Steps.{AddsEvents, ExportStep, MayExport, export_step, last_vsn}
use Rattle.voy_meta.specs.Allowed.{allowed_after, writes}
use Rattle.voy_meta.specs.State.{state_of}
use Rattle.voy_queue.specs.Putting.{MayFollowInTurn, Put, commit_of, entry_of, pending_with, recorded_end}
use Rattle.voy_schema.specs.Lawful.{is_lawful}
use Rattle.voy_schema.specs.declared.table.Table.{Table}
use Rattle.voy_tables.specs.declared.change.Role.{Role}

-- a step that may be done keeps an export disk sound
abbrev pub StepsKeepSound : Type 0
StepsKeepSound =
    (recording : Recording) (exports : Exports) (step : ExportStep)
    → SoundExports recording exports → MayExport recording exports step → SoundExports recording (export_step exports step)

-- so where each image is sound, and lawful steps lead from them, each image after is
abbrev pub MovesKeepSound : Type 0
MovesKeepSound =
    (recording : Recording) (old new : Option Files)
    → Every (ImagesOf old) (λ image. SoundExports recording (exports_in recording.schema image))
    → Goes (exports_in recording.schema) export_step (MayExport recording) (ImagesOf old) (ImagesOf new)
    → Every (ImagesOf new) (λ image. SoundExports recording (exports_in recording.schema image))

-- these are the next events of the whole queue behind the first so many
abbrev pub AreNext : Recording → ℕ → List Put → Type 0
AreNext recording n puts = puts ≡ take (length puts) (drop n (whole_queue recording))

-- what an export adds to a sound disk are the next events of the whole queue
abbrev pub ExportsAreNext : Type 0
ExportsAreNext =
    (schema : List Table) (files : Image) (exports : Exports) (role : Role) (size : ℕ) (max : Option ℕ) (end : Bool)
    → (sound : SoundExports (recording_of schema files) exports) → writes (state_of sound.entries) role ≡ true
    → AreNext (recording_of schema files) (last_vsn (state_of sound.entries)) (export_end schema size files role (state_of sound.entries) max end).puts

-- the next events, put behind a sound queue and committed, segment after segment, are steps that may be done
abbrev pub CommitsAreLawful : Type 0
CommitsAreLawful =
    (recording : Recording) (image : Image) (role : Role) (size : ℕ) (puts : List Put) (count : ℕ)
    → is_lawful recording.schema ≡ true
    → (sound : SoundExports recording (exports_in recording.schema image)) → writes (state_of sound.entries) role ≡ true
    → MayFollowInTurn recording.schema role size (recorded_end (state_of sound.entries) role) puts
    → allowed_after (state_of sound.entries) (map (entry_of role) (pending_with recording.schema size (recorded_end (state_of sound.entries) role) [] puts)) ≡ true
    → AreNext recording (last_vsn (state_of sound.entries)) puts
    → Lawful export_step (MayExport recording) (exports_in recording.schema image)
    (map AddsEvents (map (commit_of role) (take count (pending_with recording.schema size (recorded_end (state_of sound.entries) role) [] puts))))
