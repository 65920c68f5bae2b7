use Rattle.std.proofs.Common.{◌≡◌, drop, map, string_bytes}
use Rattle.voy_words.specs.Reading.{found}
use Rattle.voy_words.proofs.phrase.first_of.Given as goal

abbrev pub invariant-loop-phrase : goal.invariant-loop-phrase
invariant-loop-phrase l = found l.phrases (map string_bytes l.fn.words) ≡ found (drop l.phrase-index l.phrases) (map string_bytes l.fn.words)
