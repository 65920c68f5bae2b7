-- The lists by key that a `Chains` keeps.
use Rattle.std.specs.Prelude.{◌≡◌, ℕ, ◌≤◌, List, length, reverse}
use Rattle.voy_link.specs.Indices.{nowhere}
use Rattle.voy_link.specs.Links.{AreApart, AreWithin, AreThreaded}
use Rattle.voy_link.specs.declared.chains.Chains.{Chains}

-- there is room for members at the first `places` places
pub record HasPlaces (c : Chains) (places : ℕ) : Type 0 where
  pub ahead : places ≤ length c.nexts.items
  pub back : places ≤ length c.prevs.items

-- the chains have these members, each at one of the first `places` places and with one of the first `keys` keys
pub record HasMembers (places keys : ℕ) (c : Chains) (ms : List (ℕ × ℕ)) : Type 0 where
  pub room : HasPlaces c places
  pub ahead_ends : length c.nexts.items ≤ nowhere
  pub back_ends : length c.prevs.items ≤ nowhere
  pub first_keys : length c.firsts.items ≡ keys
  pub last_keys : length c.lasts.items ≡ keys
  pub within : AreWithin places keys ms
  pub apart : AreApart ms
  pub ahead : AreThreaded nowhere c.firsts.items c.nexts.items ms
  pub behind : AreThreaded nowhere c.lasts.items c.prevs.items (reverse ms)
