use Rattle.std.proofs.Common.{ap, sym, ◌∙◌}
use Rattle.std.proofs.lemmas.Bool.{le-leb, lt-leb}
use Rattle.std.specs.Prelude.{nat_le}
use Rattle.voy_contents.specs.Vsns.{vsns_in}
use Rattle.voy_txn.specs.RangeLaws.{no_number, number_fails, number_passes}
use Rattle.voy_contents.proofs.vsns.Vsns.is_none_above.Goals as goal

pub returns-then-last-vsn : goal.returns-then-last-vsn
returns-then-last-vsn c =
    number_fails (λ channel. nat_le (vsns_in c.args.self.now channel) c.args.vsn) c.loop-channel.channel c.args.channels _ c.loop-channel-test.true
    (ap (λ last. nat_le last c.args.vsn) (sym c.last.ensures) ∙ lt-leb c.last.result c.args.vsn c.if-last-vsn.true) c.loop-channel.invariant

pub loop-channel-preserved : goal.loop-channel-preserved
loop-channel-preserved c =
    number_passes (λ channel. nat_le (vsns_in c.args.self.now channel) c.args.vsn) c.loop-channel.channel c.args.channels _ c.loop-channel-test.true
    (ap (λ last. nat_le last c.args.vsn) (sym c.last.ensures) ∙ le-leb c.last.result c.args.vsn c.if-last-vsn.false) c.loop-channel.invariant

pub returns : goal.returns
returns c =
    no_number (λ channel. nat_le (vsns_in c.args.self.now channel) c.args.vsn) c.loop-channel.channel c.args.channels _ c.loop-channel-test.false c.loop-channel.invariant
