-- What each command comes to in this program, and the folders of a move.
use Rattle.std.specs.Prelude.{◌≡◌, ℕ, true, false, List, ◌++◌, codes}
use Rattle.voy_words.specs.declared.asked.Command.{Command}
use Rattle.voy_words.specs.declared.asked.Command.TheVariants as command
use Rattle.voy_words.specs.declared.phrase.Phrase.TheVariants.{ExportFromSource, ExportFromTarget, ImportToTarget, ImportToSource, CutoverToTarget, CutoverToSource, LoadSource, CutoverStatus, Report, Rehearse}
use Rattle.voy_command.specs.declared.commands.Task.{Task}
use Rattle.voy_command.specs.declared.commands.Task.TheVariants.{DryRun, Show, Unbuilt}

-- the dry run of an import and the two show phrases are built, and no other phrase is
abbrev pub task_of : Command → Task
task_of (command.ExportSource max bytes) = Unbuilt ExportFromSource
task_of (command.ExportTarget max bytes) = Unbuilt ExportFromTarget
task_of (command.ImportTarget options true) = DryRun
task_of (command.ImportTarget options false) = Unbuilt ImportToTarget
task_of (command.ImportSource options) = Unbuilt ImportToSource
task_of (command.CutoverTarget fall_back) = Unbuilt CutoverToTarget
task_of command.CutoverSource = Unbuilt CutoverToSource
task_of command.LoadSource = Unbuilt LoadSource
task_of command.Status = Unbuilt CutoverStatus
task_of command.Report = Unbuilt Report
task_of (command.Show side) = Show side
task_of (command.Rehearse number changes channels) = Unbuilt Rehearse

-- the path of what has this name in a folder
abbrev pub folder_below : List ℕ → List ℕ → List ℕ
folder_below folder name = folder ++ (codes "/" ++ name)

-- the four folders of a move
pub record IsBelow (folder recording export target source : List ℕ) : Type 0 where
  pub is_recording : recording ≡ folder_below folder (codes "recording")
  pub is_export : export ≡ folder_below folder (codes "export")
  pub is_target : target ≡ folder_below folder (codes "target")
  pub is_source : source ≡ folder_below folder (codes "source")
