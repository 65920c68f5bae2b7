-- What the bytes of `store.journal` say: a history, or where they are damaged.
use Rattle.std.specs.Prelude.{◌≡◌, ◌⊎◌, ◌&&◌, ℕ, List, [], ◌∷◌, Option, Some, None, codes, is_none, if◌then◌else◌}
use Rattle.std.specs.Option.{option_and_then, option_map}
use Rattle.voy_journal.specs.Grammar.{DamagedAt, HasPayloads}
use Rattle.voy_journal.specs.Refusals.{refused_gate}
use Rattle.voy_schema.specs.declared.table.Table.{Table}
use Rattle.voy_txn.specs.Commits.{is_next}
use Rattle.voy_txn.specs.Contents.{Contents, contents_after, contents_of}
use Rattle.voy_txn.specs.History.{History}
use Rattle.voy_txn.specs.Items.{violation_of}
use Rattle.voy_txn.specs.Reading.{txn_reading}
use Rattle.voy_txn.specs.declared.txn.Txn.{Txn}

-- the name of a store's journal
unfoldable pub store_name : List ℕ
store_name = codes "store.journal"

-- the transactions of these payloads, in order, where each payload is one
abbrev pub history_in : List Table → List (List ℕ) → Option History
history_in schema [] = Some []
history_in schema (payload ∷ payloads) = option_and_then (λ txn. option_map (λ history. txn ∷ history) (history_in schema payloads)) (txn_reading schema payload)

-- a transaction that a store that knows this may take, and whose items fit
abbrev pub if_taken : List Table → Contents → Txn → Option Txn
if_taken schema contents txn = if is_next contents txn && is_none (violation_of schema contents.tables txn) then Some txn else None

-- what a store that knows this knows after a payload, where it is a transaction that the store may take
abbrev pub contents_with : List Table → Contents → List ℕ → Option Contents
contents_with schema contents payload =
    option_map (contents_after schema contents) (option_and_then (if_taken schema contents) (txn_reading schema payload))

-- the offset of the gate of the first of these payloads that is no transaction, or one that a store with the history
-- before it does not take
abbrev pub bad_gate : List Table → List (List ℕ) → Option ℕ
bad_gate schema payloads = refused_gate (contents_with schema) (contents_of schema []) payloads

-- the bytes are a journal of this history, which a store can take from its beginning
pub record IsStored (schema : List Table) (bytes : List ℕ) (history : History) : Type 0 where
  pub payloads : List (List ℕ)
  pub has : HasPayloads payloads bytes
  pub read : history_in schema payloads ≡ Some history
  pub good : bad_gate schema payloads ≡ None

-- a payload of the journal is bad, and its gate is the first such
pub record HasBadPayload (schema : List Table) (bytes : List ℕ) (offset : ℕ) : Type 0 where
  pub payloads : List (List ℕ)
  pub has : HasPayloads payloads bytes
  pub bad : bad_gate schema payloads ≡ Some offset

-- the bytes are no journal, for the gate at this offset, or one of which the payload at this gate is bad
abbrev pub IsStoreDamaged : List Table → List ℕ → ℕ → Type 0
IsStoreDamaged schema bytes offset = DamagedAt offset bytes ⊎ HasBadPayload schema bytes offset
