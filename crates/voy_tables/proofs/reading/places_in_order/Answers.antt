use Rattle.std.proofs.Common.{◌∷◌, [], ◌++◌, add-one, zero-add, ap, ◌∙◌}
use Rattle.voy_tables.proofs.FieldLemmas.{range_with_len-more}
use Rattle.voy_tables.proofs.reading.places_in_order.Goals as goal

pub loop-place-preserved : goal.loop-place-preserved
loop-place-preserved c =
    rw (add-one c.loop-place.place, range_with_len-more 0 c.loop-place.place, zero-add c.loop-place.place)
    (c.in_ok-push.ensures.ok ∙ ap (λ places. places ++ c.loop-place.place ∷ []) c.loop-place.invariant)
