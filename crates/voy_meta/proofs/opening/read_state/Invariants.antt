use Rattle.std.proofs.Common.{◌≡◌, ◌+◌, drop, length}
use Rattle.voy_journal.specs.Grammar.{entries}
use Rattle.voy_journal.specs.Refusals.{knows_after, refused_from}
use Rattle.voy_meta.specs.Meta.{bad_gate, state_with}
use Rattle.voy_meta.specs.State.{empty_state}
use Rattle.voy_meta.proofs.OpeningLemmas.{bytes_of}
use Rattle.voy_meta.proofs.opening.read_state.Given as goal

abbrev pub invariant-loop-payload : goal.invariant-loop-payload
invariant-loop-payload l = record {
  known : knows_after state_with l.state (bytes_of (drop l.payload-index l.payloads)) ≡ knows_after state_with empty_state (bytes_of l.payloads);
  rest : refused_from state_with l.state l.offset (bytes_of (drop l.payload-index l.payloads)) ≡ bad_gate (bytes_of l.payloads);
  place : l.offset + length (entries (bytes_of (drop l.payload-index l.payloads))) ≡ length (entries (bytes_of l.payloads));
}
