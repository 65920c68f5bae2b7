-- The laws of payloads, each of which a public function proves.
use Rattle.std.specs.Prelude.{◌≡◌, ◌<◌, ℕ, List, Some, true, slice_index}
use Rattle.voy_schema.specs.Lawful.{is_lawful}
use Rattle.voy_schema.specs.declared.table.Table.{Table}
use Rattle.voy_txn.specs.LawfulTxn.{IsPayload}
use Rattle.voy_txn.specs.Reading.{txn_reading}
use Rattle.voy_txn.specs.declared.txn.Txn.{Txn}

-- bytes are the payload of one transaction at most
abbrev pub PayloadsReadBack : Type 0
PayloadsReadBack =
    (schema : List Table) (bytes : List ℕ) (a b : Txn) → is_lawful schema ≡ true
    → IsPayload schema bytes a → IsPayload schema bytes b → a ≡ b

-- a payload reads as its transaction
abbrev pub PayloadsHaveReadings : Type 0
PayloadsHaveReadings =
    (schema : List Table) (bytes : List ℕ) (txn : Txn) → is_lawful schema ≡ true
    → IsPayload schema bytes txn → txn_reading schema bytes ≡ Some txn

-- bytes that read as a transaction are its payload
abbrev pub ReadingsArePayloads : Type 0
ReadingsArePayloads =
    (schema : List Table) (bytes : List ℕ) (txn : Txn) → is_lawful schema ≡ true → ((place : ℕ) → slice_index bytes place < 256)
    → txn_reading schema bytes ≡ Some txn → IsPayload schema bytes txn
