-- The phrases of the commands with their numbers, and the numbers that options take.
use Rattle.std.specs.Prelude.{ℕ, List, [], ◌∷◌, codes}
use Rattle.voy_words.specs.declared.phrase.Phrase.{Phrase}
use Rattle.voy_words.specs.declared.phrase.Phrase.TheVariants.{ExportFromSource, ExportFromTarget, ImportToTarget, ImportToSource, CutoverToTarget, CutoverToSource, LoadSource, CutoverStatus, Report, ShowTarget, ShowSource, Rehearse}
use Rattle.voy_words.specs.declared.setting.Setting.{Setting}
use Rattle.voy_words.specs.declared.setting.Setting.TheVariants.{MaxChanges, SegmentMaxBytes, BatchSize, EventChannels, MaxEventsPerBatch, Window, ParallelJobs, Number, Changes, Channels}

-- the words of a phrase
abbrev pub phrase_words : Phrase → List (List ℕ)
phrase_words ExportFromSource = codes "export" ∷ codes "data" ∷ codes "from" ∷ codes "source" ∷ []
phrase_words ExportFromTarget = codes "export" ∷ codes "data" ∷ codes "from" ∷ codes "target" ∷ []
phrase_words ImportToTarget = codes "import" ∷ codes "data" ∷ codes "to" ∷ codes "target" ∷ []
phrase_words ImportToSource = codes "import" ∷ codes "data" ∷ codes "to" ∷ codes "source" ∷ []
phrase_words CutoverToTarget = codes "initiate" ∷ codes "cutover" ∷ codes "to" ∷ codes "target" ∷ []
phrase_words CutoverToSource = codes "initiate" ∷ codes "cutover" ∷ codes "to" ∷ codes "source" ∷ []
phrase_words LoadSource = codes "load" ∷ codes "source" ∷ []
phrase_words CutoverStatus = codes "cutover" ∷ codes "status" ∷ []
phrase_words Report = codes "get" ∷ codes "data-migration-report" ∷ []
phrase_words ShowTarget = codes "show" ∷ codes "target" ∷ []
phrase_words ShowSource = codes "show" ∷ codes "source" ∷ []
phrase_words Rehearse = codes "rehearse" ∷ []

-- its number, counted from 0
abbrev pub number_of : Phrase → ℕ
number_of ExportFromSource = 0
number_of ExportFromTarget = 1
number_of ImportToTarget = 2
number_of ImportToSource = 3
number_of CutoverToTarget = 4
number_of CutoverToSource = 5
number_of LoadSource = 6
number_of CutoverStatus = 7
number_of Report = 8
number_of ShowTarget = 9
number_of ShowSource = 10
number_of Rehearse = 11

-- what stands behind the `--` of an option; the three last are words of their own
abbrev pub setting_name : Setting → List ℕ
setting_name MaxChanges = codes "max-changes"
setting_name SegmentMaxBytes = codes "segment-max-bytes"
setting_name BatchSize = codes "batch-size"
setting_name EventChannels = codes "event-channels"
setting_name MaxEventsPerBatch = codes "max-events-per-batch"
setting_name Window = codes "window"
setting_name ParallelJobs = codes "parallel-jobs"
setting_name Number = codes "number"
setting_name Changes = codes "changes"
setting_name Channels = codes "channels"

-- the least number that it takes
abbrev pub least_of : Setting → ℕ
least_of MaxChanges = 0
least_of SegmentMaxBytes = 1
least_of BatchSize = 1
least_of EventChannels = 1
least_of MaxEventsPerBatch = 1
least_of Window = 1
least_of ParallelJobs = 1
least_of Number = 0
least_of Changes = 0
least_of Channels = 1

-- the greatest number that it takes
abbrev pub most_of : Setting → ℕ
most_of MaxChanges = 4294967295
most_of SegmentMaxBytes = 1073741824
most_of BatchSize = 1000000
most_of EventChannels = 512
most_of MaxEventsPerBatch = 1000
most_of Window = 65536
most_of ParallelJobs = 64
most_of Number = 4294967295
most_of Changes = 1000000
most_of Channels = 512
