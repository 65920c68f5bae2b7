-- Why a part that several commands share stopped.
use Rattle.std.specs.Prelude.{◌≡◌, ◌⊎◌, Option, Err}
use Rattle.voy_disk.specs.Files.{Files, IfTold}
use Rattle.voy_disk.specs.declared.disk.DiskError.{DiskError}
use Rattle.voy_disk.specs.declared.disk.DiskError.TheVariants.{Failed}
use Rattle.voy_disk.specs.declared.disk.DiskError.TheVariants as disk
use Rattle.voy_command.specs.Files.{file_bytes, schema_name}
use Rattle.voy_command.specs.Recorded.{recorded_schema}
use Rattle.voy_command.specs.declared.answer.Answer.{Answer}
use Rattle.voy_command.specs.declared.answer.Answer.TheVariants.{Fault, NoMemory, OutputFault, Refused}
use Rattle.voy_command.specs.declared.answer.Cause.{Cause}
use Rattle.voy_command.specs.declared.answer.Which.TheVariants.{Recording}

-- what is answered of a disk's error
abbrev pub disk_stop : Answer → DiskError → Answer
disk_stop fault Failed = fault
disk_stop fault disk.NoMemory = NoMemory

-- memory was not found, or the schema is refused for this cause
abbrev pub RefusesSchema : (Cause → Type 0) → Answer → Type 0
RefusesSchema why a = (a ≡ NoMemory) ⊎ ((cause : Cause) × (a ≡ Refused cause) × why cause)

-- the schema was not read: memory was not found, the recording's disk failed, or the schema is refused for this cause
abbrev pub StopsSchema : Option Files → Type 0 → Answer → Type 0
StopsSchema recording rose a =
    ((a ≡ Fault Recording) × rose)
    ⊎ RefusesSchema (λ cause. IfTold recording (λ fs. recorded_schema (file_bytes (fs schema_name)) ≡ Err cause)) a

-- the output failed, or memory was not found
abbrev pub IsOutputStop : Type 0 → Answer → Type 0
IsOutputStop rose a = (a ≡ NoMemory) ⊎ ((a ≡ OutputFault) × rose)
