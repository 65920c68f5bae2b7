-- The exact bytes that an opening leaves of `meta.journal`.
use Rattle.std.specs.Prelude.{◌≡◌, ◌==◌, ℕ, List, Some, length, if◌then◌else◌}
use Rattle.voy_disk.specs.File.{settled, written}
use Rattle.voy_disk.specs.Files.{Files, bytes_now}
use Rattle.voy_journal.specs.Exact.{entry_and_gate, opened_bytes}
use Rattle.voy_journal.specs.Grammar.{HasPayloads, entries}
use Rattle.voy_meta.specs.Meta.{meta_name, records_of}
use Rattle.voy_meta.specs.Records.{payload_of}
use Rattle.voy_meta.specs.State.{state_of}
use Rattle.voy_meta.specs.declared.limits.TheConstants.{VERSION}
use Rattle.voy_meta.specs.declared.record.MetaRecord.{MetaRecord}
use Rattle.voy_meta.specs.declared.record.MetaRecord.TheVariants.{Version}

-- bytes that are a journal of these records, with the version of today behind them where another stands
abbrev pub with_version : List (List ℕ) → List MetaRecord → List ℕ → List ℕ
with_version payloads records bytes =
    if (state_of records).version == VERSION then bytes
    else written bytes (length (entries payloads)) (entry_and_gate (payload_of (Version VERSION)))

-- an opening leaves the bytes of a journal that was opened, and the version behind them, all safe
abbrev pub OpensMeta : Files → Files → Type 0
OpensMeta old new =
    (payloads : List (List ℕ)) (records : List MetaRecord) → HasPayloads payloads (bytes_now (old meta_name)) → records_of payloads ≡ Some records
    → new meta_name ≡ Some (settled (with_version payloads records (opened_bytes (bytes_now (old meta_name)))))
