-- What reads of the four disks of a place, whatever a stop leaves of each.
use Rattle.std.specs.Prelude.{◌≡◌, Option}
use Rattle.voy_disk.specs.Files.{Files}
use Rattle.voy_disk.specs.Images.{Image, ImagesOf}
use Rattle.voy_disk.specs.Steps.{Follows}
use Rattle.voy_disk.specs.declared.place.Place.{Place}
use Rattle.voy_journal.specs.Journal.{KeepsPayloads}
use Rattle.voy_store.specs.Stored.{store_name}

-- one image of each disk
pub record Choice : Type 0 where
  pub recording : Image
  pub export : Image
  pub target : Image
  pub source : Image

-- the choices that the disks of a place leave, where all four tell their files
pub record Choices {D : Type 0} (files : D → Option Files) (place : Place D) (c : Choice) : Type 0 where
  pub recording : ImagesOf (files place.recording) c.recording
  pub export : ImagesOf (files place.export) c.export
  pub target : ImagesOf (files place.target) c.target
  pub source : ImagesOf (files place.source) c.source

-- the recording and the export have the same bytes, and each store's journal the same payloads
pub record ReadsAlike (i j : Choice) : Type 0 where
  pub recording : j.recording ≡ i.recording
  pub export : j.export ≡ i.export
  pub target : KeepsPayloads store_name i.target j.target
  pub source : KeepsPayloads store_name i.source j.source

-- whatever a stop leaves reads as something that it would have left before
abbrev pub StaysAlike : {D : Type 0} → (D → Option Files) → Place D → Place D → Type 0
StaysAlike files old new = Follows ReadsAlike (Choices files old) (Choices files new)
