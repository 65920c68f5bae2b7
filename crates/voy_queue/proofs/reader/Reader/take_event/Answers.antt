use Rattle.std.proofs.Common.{◌∙◌, subst, sym}
use Rattle.std.proofs.lemmas.Result.{err_from_is_err_and}
use Rattle.voy_queue.proofs.ReaderLemmas.{one_left, same_segment}
use Rattle.voy_queue.specs.Reader.{left_behind}
use Rattle.voy_queue.specs.Reading.{QueueReading}
use Rattle.voy_queue.specs.Segment.{Tells}
use Rattle.voy_queue.proofs.reader.Reader.take_event.Goals as goal

pub take_event-requires-clause-stands : goal.take_event-requires-clause-stands
take_event-requires-clause-stands g c = c.args.self.now.stands c.in-Some.segment (sym c.take.ensures.value ∙ c.in-Some.is)

pub returns-in_err-event-clause-damaged : goal.returns-in_err-event-clause-damaged
returns-in_err-event-clause-damaged g c =
    let old = c.args.self.now in
    let schema = c.args.schema.now.tables in
    let current = sym c.take.ensures.value ∙ c.in-Some.is in
    let failed = err_from_is_err_and c.from_residual.result c.from_residual.ensures.1 in
    rw (failed.1, failed.2) (λ fs told. subst (λ (reading : QueueReading). Tells c.in_err-event.field-0.0 reading) (sym (one_left schema old fs c.in-Some.segment current c.requires))
    (c.in_err-event.ensures.damaged fs told (left_behind schema old fs c.in-Some.segment.state.last_vsn)))

pub returns-clause-some : goal.returns-clause-some
returns-clause-some g c fs told =
    let old = c.args.self.now in
    let schema = c.args.schema.now.tables in
    let current = sym c.take.ensures.value ∙ c.in-Some.is in
    one_left schema old fs c.in-Some.segment current c.requires
    ∙ c.in_ok-event.ensures.some fs told (left_behind schema old fs c.in-Some.segment.state.last_vsn)
    ∙ same_segment schema old fs c.in_ok-event.event c.take_event.new.self c.in-Some.segment.state c.take_event.new.self.state c.in_ok-event.ensures.state
