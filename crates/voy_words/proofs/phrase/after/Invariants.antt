use Rattle.std.proofs.Common.{◌≡◌, ℕ, List, Bor, map, drop, string_bytes}
use Rattle.voy_words.specs.Reading.{after}
use Rattle.voy_words.proofs.phrase.after.Given as goal

abbrev pub invariant-loop-word : goal.invariant-loop-word
invariant-loop-word l = after (map (λ (w : Bor (List ℕ)). w.now) l.first) (map string_bytes l.fn.words)
    ≡ after (map (λ (w : Bor (List ℕ)). w.now) (drop l.word-index l.first)) (map string_bytes l.rest)
