use Rattle.std.proofs.Common.{◌∙◌, ◌<◌, ℕ, List, Bor, ap, sym, arith, map, drop, length}
use Rattle.voy_words.specs.Reading.{after}
use Rattle.voy_words.proofs.WordLemmas.{none_after, none_left}
use Rattle.voy_words.proofs.phrase.after.Goals as goal

pub returns-in-empty : goal.returns-in-empty
returns-in-empty c =
    let below : c.loop-word.word-index < length c.args.first.now = omega arith in
    sym (c.loop-word.invariant
    ∙ ap (after (map (λ (word : Bor (List ℕ)). word.now) (drop c.loop-word.word-index c.args.first.now))) (none_left c.loop-word.rest.now c.in-empty.len_below)
    ∙ none_after c.args.first.now c.loop-word.word-index below)
