-- The exit status of each answer, and the text that it gives on `err`.
use Rattle.std.specs.Prelude.{ℕ, List, [], ◌∷◌, ◌++◌, codes, decimal}
use Rattle.voy_event.specs.Refusal.{text_of_why}
use Rattle.voy_schema.specs.Reading.{why_text}
use Rattle.voy_tables.specs.declared.change.Side.TheVariants as side
use Rattle.voy_words.specs.Table.{phrase_words}
use Rattle.voy_words.specs.declared.phrase.Phrase.{Phrase}
use Rattle.voy_command.specs.declared.answer.Answer.{Answer}
use Rattle.voy_command.specs.declared.answer.Answer.TheVariants.{Done, Waiting, Shown, NoCommand, NoReading, Fault, NoMemory, Damaged, Invalid, Refused, OutputFault, TooLong, NotBuilt}
use Rattle.voy_command.specs.declared.answer.Cause.{Cause}
use Rattle.voy_command.specs.declared.answer.Cause.TheVariants.{MissingSchema, Schema, Segment}
use Rattle.voy_command.specs.declared.answer.FileName.{FileName}
use Rattle.voy_command.specs.declared.answer.FileName.TheVariants as file
use Rattle.voy_command.specs.declared.answer.Unbuilt.{Unbuilt}
use Rattle.voy_command.specs.declared.answer.Unbuilt.TheVariants.{Command, Metadata}
use Rattle.voy_command.specs.declared.answer.Which.{Which}
use Rattle.voy_command.specs.declared.answer.Which.TheVariants.{Recording, Export, Store}

abbrev pub status_of : Answer → ℕ
status_of Done = 0
status_of Waiting = 4
status_of Shown = 0
status_of NoCommand = 1
status_of (NoReading phrase) = 1
status_of (Fault disk) = 2
status_of NoMemory = 3
status_of (Damaged disk file offset) = 5
status_of (Invalid vsn) = 7
status_of (Refused cause) = 8
status_of OutputFault = 9
status_of (TooLong file line) = 10
status_of (NotBuilt what) = 11

-- a disk goes by the name of its folder
unfoldable pub disk_name : Which → List ℕ
disk_name Recording = codes "recording"
disk_name Export = codes "export"
disk_name (Store side.Target) = codes "target"
disk_name (Store side.Source) = codes "source"

unfoldable pub file_name : FileName → List ℕ
file_name file.Schema = codes "schema.json"
file_name file.Segment = codes "segment.0.ndjson"
file_name file.Journal = codes "store.journal"

-- words with a blank between
abbrev pub spaced : List (List ℕ) → List ℕ
spaced [] = []
spaced (word ∷ []) = word
spaced (word ∷ next ∷ words) = word ++ (codes " " ++ spaced (next ∷ words))

unfoldable pub phrase_text : Phrase → List ℕ
phrase_text phrase = spaced (phrase_words phrase)

-- the file that breaks a rule, its line, and the rule
abbrev pub cause_file : Cause → FileName
cause_file MissingSchema = file.Schema
cause_file (Schema table why) = file.Schema
cause_file (Segment line why) = file.Segment

abbrev pub cause_line : Cause → ℕ
cause_line MissingSchema = 0
cause_line (Schema table why) = table
cause_line (Segment line why) = line

unfoldable pub cause_why : Cause → List ℕ
cause_why MissingSchema = codes "missing"
cause_why (Schema table why) = why_text why
cause_why (Segment line why) = text_of_why why

-- a line of a file
abbrev pub line_text : FileName → ℕ → List ℕ
line_text file line = file_name file ++ codes " line " ++ decimal line

unfoldable pub unbuilt_text : Unbuilt → List ℕ
unbuilt_text (Command phrase) = phrase_text phrase
unbuilt_text Metadata = codes "meta.journal"

-- what an answer says on `err`; nothing where the command did its work
unfoldable pub text_on_err : Answer → List ℕ
text_on_err Done = []
text_on_err Waiting = []
text_on_err Shown = []
text_on_err NoCommand = codes "voyager: no such command\n"
text_on_err (NoReading phrase) = codes "voyager: the words after \"" ++ phrase_text phrase ++ codes "\" have no reading\n"
text_on_err (Fault disk) = codes "voyager: disk fault: " ++ disk_name disk ++ codes "\n"
text_on_err NoMemory = codes "voyager: out of memory\n"
text_on_err (Damaged disk file offset) = codes "voyager: damaged: " ++ (disk_name disk ++ codes "/" ++ file_name file) ++ (codes " at " ++ decimal offset ++ codes "\n")
text_on_err (Invalid vsn) = codes "voyager: invalid stream at vsn " ++ decimal vsn ++ codes "\n"
text_on_err (Refused cause) = codes "voyager: recording: " ++ line_text (cause_file cause) (cause_line cause) ++ (codes ": " ++ cause_why cause ++ codes "\n")
text_on_err OutputFault = codes "voyager: output fault\n"
text_on_err (TooLong file line) = codes "voyager: limit: " ++ line_text file line ++ codes "\n"
text_on_err (NotBuilt what) = codes "voyager: not built: " ++ unbuilt_text what ++ codes "\n"
