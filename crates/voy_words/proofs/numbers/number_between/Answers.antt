use Rattle.std.proofs.Common.{rules, ◌≡◌, true}
use Rattle.voy_words.specs.Values.{is_number}
use Rattle.voy_words.proofs.NumberLemmas.{number_reads}
use Rattle.voy_words.proofs.numbers.number_between.Goals as goal

pub returns-in_default : goal.returns-in_default
returns-in_default c =
    let is : is_number c.args.text.now ≡ true = search rules in
    let reads = number_reads c.args.text.now c.parse.result c.parse.ensures.value.0 is in
    absurd (c.in_default.not-Ok _ reads)
