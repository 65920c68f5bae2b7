-- Why a part of `show` stopped.
use Rattle.std.specs.Prelude.{◌≡◌, ◌⊎◌, ℕ, List, Option}
use Rattle.voy_disk.specs.Files.{Files, IfTold, bytes_now}
use Rattle.voy_schema.specs.declared.table.Table.{Table}
use Rattle.voy_store.specs.Stored.{IsStoreDamaged, store_name}
use Rattle.voy_store.specs.declared.open_error.OpenError.{OpenError}
use Rattle.voy_store.specs.declared.open_error.OpenError.TheVariants as opening
use Rattle.voy_tables.specs.declared.change.Side.{Side}
use Rattle.voy_command.specs.declared.answer.Answer.{Answer}
use Rattle.voy_command.specs.declared.answer.Answer.TheVariants.{Fault, NoMemory, Damaged}
use Rattle.voy_command.specs.declared.answer.FileName.TheVariants.{Journal}
use Rattle.voy_command.specs.declared.answer.Which.TheVariants.{Store}

-- what is answered of a store that was not opened
abbrev pub open_stop : Side → OpenError → Answer
open_stop side opening.Fault = Fault (Store side)
open_stop side (opening.Damaged offset) = Damaged (Store side) Journal offset
open_stop side opening.NoMemory = NoMemory

-- the store was not read: memory was not found, its disk failed, or its journal is damaged at this gate
abbrev pub StopsStore : Side → List Table → Option Files → Type 0 → Answer → Type 0
StopsStore side schema store rose a =
    (a ≡ NoMemory)
    ⊎ (((a ≡ Fault (Store side)) × rose)
    ⊎ ((offset : ℕ) × (a ≡ Damaged (Store side) Journal offset) × IfTold store (λ fs. IsStoreDamaged schema (bytes_now (fs store_name)) offset)))
