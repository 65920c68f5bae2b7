-- What the words of a command line ask for.
use Rattle.std.specs.Prelude.{ℕ, Bool, List, [], ◌∷◌, true, false, Option, Some, None, Result, Ok, Err, codes, if◌then◌else◌, option_map, option_and_then, unwrap_or}
use Rattle.std.specs.List.{list_any}
use Rattle.std.specs.Str.{bytes_eq}
use Rattle.clap.specs.Faults.{fault_of}
use Rattle.clap.specs.Kinds.{Kinds}
use Rattle.clap.specs.Simple.{App, matches_of}
use Rattle.clap.specs.Walk.{Row, first_of}
use Rattle.voy_tables.specs.declared.change.Side.TheVariants.{Target, Source}
use Rattle.voy_words.specs.declared.asked.Asked.{Asked}
use Rattle.voy_words.specs.declared.asked.Command.{Command}
use Rattle.voy_words.specs.declared.asked.Command.TheVariants as command
use Rattle.voy_words.specs.declared.error.Usage.{Usage}
use Rattle.voy_words.specs.declared.error.Usage.TheVariants as usage
use Rattle.voy_words.specs.declared.error.WordsError.{WordsError}
use Rattle.voy_words.specs.declared.error.WordsError.TheVariants as error
use Rattle.voy_words.specs.declared.phrase.Phrase.{Phrase}
use Rattle.voy_words.specs.declared.phrase.Phrase.TheVariants.{ExportFromSource, ExportFromTarget, ImportToTarget, ImportToSource, CutoverToTarget, CutoverToSource, LoadSource, CutoverStatus, Report, ShowTarget, ShowSource, Rehearse}
use Rattle.voy_words.specs.declared.setting.Setting.{Setting}
use Rattle.voy_words.specs.declared.setting.Setting.TheVariants.{MaxChanges, SegmentMaxBytes, BatchSize, EventChannels, MaxEventsPerBatch, Window, ParallelJobs, Number, Changes, Channels}
use Rattle.voy_words.specs.Grammar.{grammar_of}
use Rattle.voy_words.specs.Table.{least_of, most_of, number_of, phrase_words, setting_name}
use Rattle.voy_words.specs.Values.{number_between, truth_of}

-- ---- the phrase

-- the words behind these first ones, where the words begin so
abbrev pub after : List (List ℕ) → List (List ℕ) → Option (List (List ℕ))
after [] words = Some words
after (first ∷ more) [] = None
after (first ∷ more) (word ∷ words) = if bytes_eq word first then after more words else None

-- the table's phrases in its order
unfoldable pub phrases : List Phrase
phrases = ExportFromSource ∷ ExportFromTarget ∷ ImportToTarget ∷ ImportToSource ∷ CutoverToTarget ∷ CutoverToSource
    ∷ LoadSource ∷ CutoverStatus ∷ Report ∷ ShowTarget ∷ ShowSource ∷ Rehearse ∷ []

abbrev pub found_phrase : Phrase → Option (List (List ℕ)) → Option (Phrase × List (List ℕ)) → Option (Phrase × List (List ℕ))
found_phrase phrase None others = others
found_phrase phrase (Some rest) others = Some (phrase, rest)

-- the phrase with which the words begin, and the words behind it
abbrev pub found : List Phrase → List (List ℕ) → Option (Phrase × List (List ℕ))
found [] words = None
found (phrase ∷ more) words = found_phrase phrase (after (phrase_words phrase) words) (found more words)

-- ---- the words behind it

abbrev pub is_dashes : List ℕ → Bool
is_dashes word = bytes_eq word (codes "--")

abbrev pub is_clean : Kinds → Bool
is_clean [] = true
is_clean (kind ∷ kinds) = false

-- the values that the words give, where no word is `--` and `clap` takes them
unfoldable pub values_of : App → List (List ℕ) → Option (List Row)
values_of app words =
    if list_any is_dashes words then None
    else if is_clean (fault_of app words) then Some (matches_of app words)
    else None

-- a number that may be left out
abbrev pub asked_by : Setting → Option (List ℕ) → Option (Option ℕ)
asked_by setting None = Some None
asked_by setting (Some text) = option_map (λ number. Some number) (number_between (least_of setting) (most_of setting) text)

-- the number that the values give; `Some None` where they give none, and `None` where the text is no number of its range
unfoldable pub asked : Setting → List Row → Option (Option ℕ)
asked setting values = asked_by setting (first_of (setting_name setting) values)

-- the number, or its default
abbrev pub asked_or : Setting → ℕ → List Row → Option ℕ
asked_or setting default values = option_map (λ number. unwrap_or number default) (asked setting values)

-- a number that must be there
abbrev pub stated : Setting → List Row → Option ℕ
stated setting values = option_and_then (λ number. number) (asked setting values)

abbrev pub export_of : (Option ℕ → ℕ → Command) → List Row → Option Command
export_of make values =
    option_and_then (λ max. option_map (λ bytes. make max bytes)
    (asked_or SegmentMaxBytes 16777216 values))
    (asked MaxChanges values)

-- what an import with batches of so many rows keeps to
unfoldable pub options_of : ℕ → List Row → Option Asked
options_of rows values =
    option_and_then (λ channels.
    option_and_then (λ events.
    option_and_then (λ window.
    option_map (λ jobs. record { batch_rows = rows; channels = channels; max_events = events; window = window; jobs = jobs })
    (asked_or ParallelJobs 1 values))
    (asked_or Window 8192 values))
    (asked_or MaxEventsPerBatch 500 values))
    (asked EventChannels values)

abbrev pub says_true : Option (List ℕ) → Bool
says_true None = false
says_true (Some text) = bytes_eq text (codes "true")

abbrev pub import_target_of : List Row → Option Command
import_target_of values =
    option_and_then (λ rows. option_map (λ options. command.ImportTarget options (says_true (first_of (codes "dry-run") values)))
    (options_of rows values))
    (asked_or BatchSize 20000 values)

abbrev pub import_source_of : List Row → Option Command
import_source_of values = option_map (λ options. command.ImportSource options) (options_of 20000 values)

abbrev pub cutover_target_of : List Row → Option Command
cutover_target_of values = option_map (λ fall_back. command.CutoverTarget fall_back)
    (option_and_then truth_of (first_of (codes "prepare-for-fall-back") values))

abbrev pub rehearse_of : List Row → Option Command
rehearse_of values =
    option_and_then (λ number.
    option_and_then (λ changes.
    option_map (λ channels. command.Rehearse number changes channels)
    (stated Channels values))
    (stated Changes values))
    (stated Number values)

-- the command of a phrase with these values
abbrev pub command_by : Phrase → List Row → Option Command
command_by ExportFromSource values = export_of (λ max bytes. command.ExportSource max bytes) values
command_by ExportFromTarget values = export_of (λ max bytes. command.ExportTarget max bytes) values
command_by ImportToTarget values = import_target_of values
command_by ImportToSource values = import_source_of values
command_by CutoverToTarget values = cutover_target_of values
command_by CutoverToSource values = Some command.CutoverSource
command_by LoadSource values = Some command.LoadSource
command_by CutoverStatus values = Some command.Status
command_by Report values = Some command.Report
command_by ShowTarget values = Some (command.Show Target)
command_by ShowSource values = Some (command.Show Source)
command_by Rehearse values = rehearse_of values

-- the command of a phrase with these words behind it
unfoldable pub command_of : Phrase → List (List ℕ) → Option Command
command_of phrase rest = option_and_then (command_by phrase) (values_of (grammar_of phrase) rest)

-- ---- the whole

abbrev pub or_rest : Phrase → Option Command → Result Command Usage
or_rest phrase None = Err (usage.Rest (number_of phrase))
or_rest phrase (Some asks) = Ok asks

abbrev pub reading_behind : Option (Phrase × List (List ℕ)) → Result Command Usage
reading_behind None = Err usage.Phrase
reading_behind (Some behind) = or_rest behind.0 (command_of behind.0 behind.1)

-- what these words ask for
unfoldable pub reading : List (List ℕ) → Result Command Usage
reading words = reading_behind (found phrases words)

-- what words lack, where an answer names it
abbrev pub cause_of : WordsError → Option Usage
cause_of (error.Usage why) = Some why
cause_of error.NoMemory = None
