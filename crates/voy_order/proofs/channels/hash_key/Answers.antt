use Rattle.std.proofs.Common.{ap, sym, ◌∙◌}
use Rattle.voy_order.specs.Channels.{fnv1a}
use Rattle.std.specs.Prelude.{◌∷◌, ◌≤◌}
use Rattle.std.proofs.Common.{subst}
use Rattle.voy_order.proofs.KeyLemmas.{hash_begins, hash_ends, hash_goes_on, hash_is_whole}
use Rattle.voy_order.proofs.channels.hash_key.Goals as goal

pub loop-init : goal.loop-init
loop-init c = hash_begins c.args.table.now c.args.row.now c.args.start

pub returns-in_default : goal.returns-in_default
returns-in_default c = hash_ends _ _ _ _ _ _ c.loop.invariant (sym c.next_column.ensures ∙ c.in_default.is)

pub loop-preserved : goal.loop-preserved
loop-preserved c =
    hash_goes_on c.args.table.now c.args.row.now c.args.start c.loop.last c.loop.hash c.loop.counter c.in-Some.place c.hash_behind_zero-hash.result c.requires
    c.loop.invariant (sym c.next_column.ensures ∙ c.in-Some.is) (c.hash_behind_zero-hash.ensures ∙ ap (λ text. fnv1a c.loop.hash (0 ∷ text)) c.key_text.ensures)

pub returns : goal.returns
returns c = hash_is_whole _ _ _ _ _ _ c.loop.invariant (subst (λ n. n ≤ c.loop.counter) c.len-end.ensures c.loop-test.false)
