-- What every command shares, and what each says of its own.
use Rattle.std.specs.Prelude.{◌≡◌, ◌⊎◌, ℕ, List}
use Rattle.voy_command.specs.Course.{Course, DiskFailed, OutFailed, Prints, PrintsFront, PrintsNothing, disk_at}
use Rattle.voy_command.specs.Place.{StaysAlike}
use Rattle.voy_command.specs.declared.answer.Answer.{Answer}
use Rattle.voy_command.specs.declared.answer.Answer.TheVariants.{Fault, NoMemory, OutputFault}
use Rattle.voy_command.specs.declared.answer.Which.{Which}

-- a command's own part: the answers to its work with the text that each prints, its refusals, the answer and text that it
-- owes by what it was given, the disks that it calls, and what it leaves of them after an answer
pub record Part : Type 1 where
  pub works : Answer → List ℕ → Type 0
  pub refuses : Answer → Type 0
  pub owes : Answer → List ℕ → Type 0
  pub calls : Which → Type 0
  pub leaves : Answer → Type 0

-- why a command answers so, with what is on the output then
pub data Comes {D K : Type 0} (part : Part) (c : Course D K) : Answer → Type 0 where
  worked : {a : Answer} {text : List ℕ} → part.works a text → Prints text c → Comes part c a
  refused : {a : Answer} → part.refuses a → PrintsNothing c → Comes part c a
  disk_failed : {disk : Which} → part.calls disk → DiskFailed disk c → PrintsNothing c → Comes part c (Fault disk)
  out_failed : {a : Answer} {text : List ℕ} → part.works a text → OutFailed c → PrintsFront text c → Comes part c OutputFault
  no_memory : PrintsNothing c → Comes part c NoMemory
  no_memory_to_print : {a : Answer} {text : List ℕ} → part.works a text → PrintsFront text c → Comes part c NoMemory

-- no count rose of a disk that the command calls, nor the output's; a count at its type's end counts as risen
pub record NoneFailed {D K : Type 0} (part : Part) (c : Course D K) : Type 0 where
  pub disks : (disk : Which) → part.calls disk → ¬ DiskFailed disk c
  pub out : ¬ OutFailed c

-- what is owed is answered and printed where no count rose, or memory was not found
abbrev pub IsComplete : {D K : Type 0} → Part → Course D K → Answer → Type 0
IsComplete part c answer =
    (a : Answer) (text : List ℕ) → part.owes a text → NoneFailed part c → (answer ≡ NoMemory) ⊎ ((answer ≡ a) × Prints text c)

-- one command did its part
pub record Does {D K : Type 0} (part : Part) (c : Course D K) (answer : Answer) : Type 0 where
  pub comes : Comes part c answer
  pub complete : IsComplete part c answer
  pub recording : c.files c.new.place.recording ≡ c.files c.old.place.recording
  pub closed : (disk : Which) → ¬ part.calls disk → disk_at disk c.new.place ≡ disk_at disk c.old.place
  pub leaves : part.leaves answer
  pub moves : StaysAlike c.files c.old.place c.new.place
