use Rattle.std.proofs.Common.{◌≡◌, ◌+◌, ◌∙◌, Bool, Some, ap, arith, length, sym}
use Rattle.voy_meta.specs.Meta.{state_with}
use Rattle.voy_meta.specs.Opening.{if_taken}
use Rattle.voy_meta.proofs.OpeningLemmas.{gate_below, known_more, place_more, rest_more}
use Rattle.voy_meta.proofs.opening.read_state.Goals as goal

pub overflow_add-offset : goal.overflow_add-offset
overflow_add-offset c =
    let payload = c.payload-item.result in
    let below = gate_below c.args.payloads.now c.loop-payload.payload-index payload c.loop-payload-test.true c.payload-item.is
    c.loop-payload.offset _ c.requires.fits.short c.loop-payload.invariant.place in
    omega (arith, below, c.len.ensures, payload.ok.0)

pub loop-payload-preserved : goal.loop-payload-preserved
loop-payload-preserved c =
    let all = c.args.payloads.now in
    let i = c.loop-payload.payload-index in
    let payload = c.payload-item.result in
    let within = c.loop-payload-test.true in
    let is = c.payload-item.is in
    let before = c.loop-payload.invariant in
    let old = c.loop-payload.state in
    let new = c.take_payload.new.state in
    let offset = c.loop-payload.offset in
    let next = offset + (5 + c.len.result) in
    let answered : state_with old c.deref.result.now ≡ if_taken c.in_ok-take_payload.field-0 new = c.in_ok-take_payload.ensures in
    let taken : state_with old payload.items ≡ Some new =
    ap (state_with old) (sym c.deref.ensures.value) ∙ answered ∙ ap (λ (b : Bool). if_taken b new) c.if-not-branch.false in
    let moved : next ≡ offset + (5 + length payload.items) = omega (arith, c.len.ensures, payload.ok.0) in
    record {
      known = known_more all i payload within is old new _ taken before.known;
      rest = rest_more all i payload within is offset next old new _ moved taken before.rest;
      place = place_more all i payload within is offset next _ moved before.place;
    }
