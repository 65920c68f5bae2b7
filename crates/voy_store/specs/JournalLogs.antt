-- What a journal tells of a history, and what a stop may leave of it.
use Rattle.std.specs.Prelude.{◌≡◌, ℕ, List, Option}
use Rattle.std.specs.Option.{option_and_then}
use Rattle.voy_disk.specs.Files.{Files}
use Rattle.voy_disk.specs.Images.{Image}
use Rattle.voy_journal.specs.Journal.{known_payloads, payloads_in}
use Rattle.voy_journal.specs.declared.state.Journal.{Journal}
use Rattle.voy_schema.specs.declared.table.Table.{Table}
use Rattle.voy_store.specs.Stored.{history_in, store_name}
use Rattle.voy_txn.specs.History.{History}

-- the history of these payloads, where they are told and each is a transaction
abbrev pub history_told : List Table → Option (List (List ℕ)) → Option History
history_told schema payloads = option_and_then (history_in schema) payloads

-- the history of the payloads that a journal over these files knows
abbrev pub history_on : List Table → Journal → Option Files → Option History
history_on schema journal files = history_told schema (known_payloads journal files)

-- one of these images of a disk reads so in its `store.journal`: it has this history, or it has none
pub record HasHistory (schema : List Table) (images : Image → Type 0) (read : Option History) : Type 0 where
  pub image : Image
  pub is : images image
  pub reads : history_told schema (payloads_in store_name image) ≡ read
