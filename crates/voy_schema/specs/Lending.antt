-- What a list ends as, once an item that it lends has been changed.
use Rattle.std.specs.Prelude.{ℕ, List, slice_set}
use Rattle.std.specs.Borrow.{Fml, RattleType, MutBor, Lends}
use Rattle.voy_schema.specs.contracts.items.Items.{the_row}

-- the item at this place is the last value written through `r`
abbrev pub LendsItem : (T : RattleType) → MutBor (List T.Denot) → ℕ → MutBor T.Denot → Fml
LendsItem T it at r = Lends (the_row T) T it r (slice_set it.now at)
