use Rattle.std.proofs.Common.{◌≡◌, ◌≤◌, ◌+◌, ◌∙◌, Some, arith, length}
use Rattle.std.specs.Option.{option_and_then}
use Rattle.voy_contents.specs.Known.{known}
use Rattle.voy_journal.specs.declared.limits.TheConstants.{MAX_PAYLOAD_BYTES}
use Rattle.voy_store.specs.Stored.{if_taken}
use Rattle.voy_store.proofs.OpeningLemmas.{gate_below, place_more, rest_more, short_at, taken_more}
use Rattle.voy_txn.specs.Contents.{contents_after}
use Rattle.voy_txn.specs.Reading.{txn_reading}
use Rattle.voy_store.proofs.opening.read_contents.Goals as goal

pub take_payload-requires : goal.take_payload-requires
take_payload-requires c =
    let payload = c.payload-item.result in
    let short : length payload.items ≤ MAX_PAYLOAD_BYTES =
    short_at c.args.payloads.now c.loop-payload.payload-index payload c.requires.fits.fit c.loop-payload-test.true c.payload-item.is in
    rw c.deref.ensures.value short

pub overflow_add-offset : goal.overflow_add-offset
overflow_add-offset c =
    let payload = c.payload-item.result in
    let below = gate_below c.args.schema.tables c.args.payloads.now c.loop-payload.payload-index payload c.loop-payload-test.true c.payload-item.is
    c.loop-payload.offset _ c.requires.fits.short c.loop-payload.invariant.place in
    omega (arith, below, c.len.ensures, payload.ok.0)

pub loop-payload-preserved : goal.loop-payload-preserved
loop-payload-preserved c =
    let schema = c.args.schema.tables in
    let all = c.args.payloads.now in
    let i = c.loop-payload.payload-index in
    let payload = c.payload-item.result in
    let within = c.loop-payload-test.true in
    let is = c.payload-item.is in
    let before = c.loop-payload.invariant in
    let txn = c.in-Some._txn in
    let old = known c.loop-payload.contents in
    let new = known c.take_payload.new.contents in
    let offset = c.loop-payload.offset in
    let next = offset + (5 + c.len.result) in
    let taken : option_and_then (if_taken schema old) (txn_reading schema payload.items) ≡ Some txn =
    rw (before.schema, c.deref.ensures.value) at (c.in_ok-_txn.ensures.taken ∙ c.in-Some.is) in
    let after : new ≡ contents_after schema old txn = rw (c.in-Some.is, before.schema) at c.in_ok-_txn.ensures.after in
    let moved : next ≡ offset + (5 + length payload.items) = omega (arith, c.len.ensures, payload.ok.0) in
    record {
      schema = c.take_payload.ensures.schema ∙ before.schema;
      taken = taken_more schema all i payload within is txn old new before.taken taken after;
      rest = rest_more schema all i payload within is offset next txn old new _ moved taken after before.rest;
      place = place_more schema all i payload within is offset next _ moved before.place;
    }
