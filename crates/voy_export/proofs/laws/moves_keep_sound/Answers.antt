use Rattle.voy_disk.specs.ReachLaws.{goes_keeps}
use Rattle.voy_disk.specs.Images.{ImagesOf}
use Rattle.voy_export.specs.Exports.{exports_in}
use Rattle.voy_export.specs.Sound.{SoundExports}
use Rattle.voy_export.specs.Steps.{MayExport, export_step}
use Rattle.voy_export.proofs.laws.moves_keep_sound.Goals as goal

pub returns : goal.returns
returns c = λ recording old new sound goes.
    goes_keeps export_step (MayExport recording) (SoundExports recording) (c.steps_keep_sound.ensures recording) (exports_in recording.schema) (ImagesOf old) (ImagesOf new) sound goes
