use Rattle.std.proofs.Common.{◌∙◌, sym}
use Rattle.voy_queue.proofs.reader.Reader.end_segment.Goals as goal

pub end-requires : goal.end-requires
end-requires g c = record { stands = c.args.self.now.stands c.in-Some.segment (sym c.take.ensures.value ∙ c.in-Some.is) }
