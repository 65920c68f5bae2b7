use Rattle.std.proofs.Common.{◌≡◌, ◌-◌}
use Rattle.std.specs.List.{list_all, range_with_len}
use Rattle.std.specs.Prelude.{nat_le}
use Rattle.voy_txn.specs.Commits.{is_none_above}
use Rattle.voy_txn.proofs.next.is_none_above.Given as goal

abbrev pub invariant-loop-channel : goal.invariant-loop-channel
invariant-loop-channel g l =
    let vsns = (g.S.Store.contents l.store).vsns in
    list_all (λ channel. nat_le (vsns channel) l.vsn) (range_with_len l.channel (l.channels - l.channel)) ≡ is_none_above l.channels vsns l.vsn
