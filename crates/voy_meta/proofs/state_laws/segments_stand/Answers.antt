use Rattle.voy_meta.proofs.OrderLemmas.{first_of_its_part, open_is_the_writers, segments_in_order}
use Rattle.voy_meta.proofs.state_laws.segments_stand.Goals as goal

pub returns : goal.returns
returns c = record { order = segments_in_order; writer = open_is_the_writers; first = first_of_its_part }
