use Rattle.std.proofs.Common.{ap, not}
use Rattle.voy_tables.specs.SameLaws.{same_tuple-by_counts}
use Rattle.voy_tables.proofs.tuples.have_same_tuple.Goals as goal

pub returns-then-has_counting_tuple-2 : goal.returns-then-has_counting_tuple-2
returns-then-has_counting_tuple-2 c =
    rw (same_tuple-by_counts, ← c.if-has_counting_tuple.ensures, ← c.if-has_counting_tuple-2.ensures) (rw (← c.as_slice.ensures) c.have_same_values.ensures)

pub returns-else-has_counting_tuple-2 : goal.returns-else-has_counting_tuple-2
returns-else-has_counting_tuple-2 c =
    rw (same_tuple-by_counts, ← c.if-has_counting_tuple.ensures, ← c.if-has_counting_tuple-2.ensures) c.if-has_counting_tuple-2.false

pub returns-else-has_counting_tuple : goal.returns-else-has_counting_tuple
returns-else-has_counting_tuple c =
    rw (same_tuple-by_counts, ← c.if-has_counting_tuple.ensures) (ap not c.has_counting_tuple-else-has_counting_tuple.ensures)
