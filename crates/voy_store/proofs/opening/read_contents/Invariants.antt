use Rattle.std.proofs.Common.{◌≡◌, ◌+◌, drop, length, take}
use Rattle.voy_contents.specs.Known.{known, schema_of}
use Rattle.voy_journal.specs.Grammar.{entries}
use Rattle.voy_journal.specs.Refusals.{refused_from}
use Rattle.voy_store.specs.Stored.{bad_gate, contents_with}
use Rattle.voy_store.specs.Taking.{AreTaken}
use Rattle.voy_store.proofs.OpeningLemmas.{bytes_of}
use Rattle.voy_store.proofs.opening.read_contents.Given as goal

abbrev pub invariant-loop-payload : goal.invariant-loop-payload
invariant-loop-payload l = record {
  schema : schema_of l.contents ≡ l.fn.schema.tables;
  taken : AreTaken l.fn.schema.tables (bytes_of (take l.payload-index l.payloads)) (known l.contents);
  rest : refused_from (contents_with l.fn.schema.tables) (known l.contents) l.offset (bytes_of (drop l.payload-index l.payloads))
      ≡ bad_gate l.fn.schema.tables (bytes_of l.payloads);
  place : l.offset + length (entries (bytes_of (drop l.payload-index l.payloads))) ≡ length (entries (bytes_of l.payloads));
}
