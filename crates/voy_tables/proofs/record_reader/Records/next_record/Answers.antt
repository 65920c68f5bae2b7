use Rattle.std.proofs.Common.{◌∷◌, sym, ap, ◌∙◌}
use Rattle.csv.specs.Records.{fields_of}
use Rattle.voy_tables.proofs.ReaderLemmas.{took, none_left}
use Rattle.voy_tables.specs.Unread.{IsReading, records_left}
use Rattle.voy_tables.proofs.record_reader.Records.next_record.Goals as goal

pub invariant_of-self : goal.invariant_of-self
invariant_of-self c =
    let before : IsReading c.self.inside.source = rw c.if-self.false at c.self.invariant in
    let s = rw (c.in-Some-Ok.is, c.in-Some-Ok.field-0-is) at ((c.next.ensures.steps before.turns_left before.untrimmed).0 before.ready) in
    rw c.if-self.false (took c.self.inside.source c.next.new.self _ before s.0 s.1 s.2).reading

pub returns-in-Some-Ok : goal.returns-in-Some-Ok
returns-in-Some-Ok c =
    let before : IsReading c.self.inside.source = rw c.if-self.false at c.self.invariant in
    let s = rw (c.in-Some-Ok.is, c.in-Some-Ok.field-0-is) at ((c.next.ensures.steps before.turns_left before.untrimmed).0 before.ready) in
    sym c.self.view_is
    ∙ ap (λ b. records_left b c.self.inside.source) c.if-self.false
    ∙ (took c.self.inside.source c.next.new.self _ before s.0 s.1 s.2).left
    ∙ ap (λ b. fields_of c.in-Some-Ok.line ∷ records_left b c.next.new.self) (sym c.if-self.false)

pub returns : goal.returns
returns c =
    let before : IsReading c.self.inside.source = rw c.if-self.false at c.self.invariant in
    let s = rw c.in-None.is at ((c.next.ensures.steps before.turns_left before.untrimmed).0 before.ready) in
    sym c.self.view_is ∙ ap (λ b. records_left b c.self.inside.source) c.if-self.false ∙ none_left c.self.inside.source c.next.new.self before s
