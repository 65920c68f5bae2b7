-- Which options and words may stand behind each phrase, as a command of `clap`.
use Rattle.std.specs.Prelude.{ℕ, List, true, Some, codes}
use Rattle.clap.specs.Walk.{Rule}
use Rattle.clap.specs.Simple.{App, new_app, new_rule, on_top, with_rule}
use Rattle.clap.specs.declared.builder.action.ArgAction.TheVariants.{SetTrue}
use Rattle.voy_words.specs.declared.phrase.Phrase.{Phrase}
use Rattle.voy_words.specs.declared.phrase.Phrase.TheVariants.{ExportFromSource, ExportFromTarget, ImportToTarget, ImportToSource, CutoverToTarget, CutoverToSource, LoadSource, CutoverStatus, Report, ShowTarget, ShowSource, Rehearse}
use Rattle.voy_words.specs.declared.setting.Setting.TheVariants.{MaxChanges, SegmentMaxBytes, BatchSize, EventChannels, MaxEventsPerBatch, Window, ParallelJobs, Number, Changes, Channels}
use Rattle.voy_words.specs.Table.{setting_name}

-- an option with a value
abbrev pub option_rule : List ℕ → Rule
option_rule name = record (new_rule name) { long = Some name }

-- an option without one
abbrev pub flag_rule : List ℕ → Rule
flag_rule name = record (option_rule name) { action = Some SetTrue }

-- an option with a value that must be there
abbrev pub required_rule : List ℕ → Rule
required_rule name = record (option_rule name) { required = true }

-- a word of its own that must be there
abbrev pub word_rule : List ℕ → Rule
word_rule name = record (new_rule name) { required = true }

-- no option, no word, no help and no version
abbrev pub bare_app : App
bare_app = on_top (λ top. record top { no_binary_name = true; disable_help_flag = true; disable_version_flag = true })
    (new_app (codes "rest"))

unfoldable pub export_app : App
export_app = with_rule (with_rule bare_app (option_rule (setting_name MaxChanges)))
    (option_rule (setting_name SegmentMaxBytes))

unfoldable pub import_app : App
import_app = with_rule (with_rule (with_rule (with_rule bare_app (option_rule (setting_name EventChannels)))
    (option_rule (setting_name MaxEventsPerBatch)))
    (option_rule (setting_name Window)))
    (option_rule (setting_name ParallelJobs))

unfoldable pub import_target_app : App
import_target_app = with_rule (with_rule import_app (option_rule (setting_name BatchSize))) (flag_rule (codes "dry-run"))

unfoldable pub cutover_app : App
cutover_app = with_rule bare_app (required_rule (codes "prepare-for-fall-back"))

unfoldable pub rehearse_app : App
rehearse_app = with_rule (with_rule (with_rule bare_app (word_rule (setting_name Number))) (word_rule (setting_name Changes)))
    (word_rule (setting_name Channels))

-- what may stand behind the phrase
abbrev pub grammar_of : Phrase → App
grammar_of ExportFromSource = export_app
grammar_of ExportFromTarget = export_app
grammar_of ImportToTarget = import_target_app
grammar_of ImportToSource = import_app
grammar_of CutoverToTarget = cutover_app
grammar_of CutoverToSource = bare_app
grammar_of LoadSource = bare_app
grammar_of CutoverStatus = bare_app
grammar_of Report = bare_app
grammar_of ShowTarget = bare_app
grammar_of ShowSource = bare_app
grammar_of Rehearse = rehearse_app
