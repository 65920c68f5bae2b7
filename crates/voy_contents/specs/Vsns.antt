-- The vsn of each channel.
use Rattle.std.specs.Prelude.{ℕ, slice_get}
use Rattle.std.specs.Option.{unwrap_or}
use Rattle.voy_contents.specs.declared.vsns.Vsns.{Vsns}

-- those that are not in the list have the vsn of the last epoch
abbrev pub vsns_in : Vsns → ℕ → ℕ
vsns_in v = λ channel. unwrap_or (slice_get v.vsns channel) v.epoch
