-- What the reading of words makes of a command's answer.
use Rattle.std.proofs.Common.{◌≡◌, ◌<◌, ℕ, List, Option, Some, None, Err, ap, arith, subst, sym, ◌∙◌}
use Rattle.voy_schema.specs.Refusal.{Refuses}
use Rattle.voy_words.specs.Reading.{cause_of, command_of, or_rest, reading, reading_behind, found, phrases}
use Rattle.voy_words.specs.Table.{number_of}
use Rattle.voy_words.specs.declared.asked.Command.{Command}
use Rattle.voy_words.specs.declared.error.Usage.{Usage}
use Rattle.voy_words.specs.declared.error.Usage.TheVariants as usage
use Rattle.voy_words.specs.declared.error.WordsError.{WordsError}
use Rattle.voy_words.specs.declared.error.WordsError.TheVariants as words_error
use Rattle.voy_words.specs.declared.phrase.Phrase.{Phrase}
use Rattle.voy_words.specs.declared.phrase.Phrase.TheVariants.{ExportFromSource, ExportFromTarget, ImportToTarget, ImportToSource, CutoverToTarget, CutoverToSource, LoadSource, CutoverStatus, Report, ShowTarget, ShowSource, Rehearse}
use Rattle.voy_command.specs.Answered.{IsUnread, no_reading}
use Rattle.voy_command.specs.declared.answer.Answer.TheVariants.{NoReading}

-- words that an error calls faulty are so
pub refuses_usage : (words : List (List ℕ)) (error : WordsError) (why : Usage) → error ≡ words_error.Usage why
    → Refuses cause_of (reading words) error → reading words ≡ Err why
refuses_usage words error why is refuses = subst (Refuses cause_of (reading words)) is refuses

few : (phrase : Phrase) → number_of phrase < 12
few ExportFromSource = omega arith
few ExportFromTarget = omega arith
few ImportToTarget = omega arith
few ImportToSource = omega arith
few CutoverToTarget = omega arith
few CutoverToSource = omega arith
few LoadSource = omega arith
few CutoverStatus = omega arith
few Report = omega arith
few ShowTarget = omega arith
few ShowSource = omega arith
few Rehearse = omega arith

pub rest_is_a_phrase : (words : List (List ℕ)) (number : ℕ) → reading words ≡ Err (usage.Rest number) → number < 12
unfolding reading
rest_is_a_phrase words number is = by_phrase (found phrases words) is where
  by_command : (phrase : Phrase) (command : Option Command) → or_rest phrase command ≡ Err (usage.Rest number) → number < 12
  by_command phrase None is = let same : number_of phrase ≡ number = cc in subst (λ n. n < 12) same (few phrase)
  by_command phrase (Some command) is = cc

  by_phrase : (behind : Option (Phrase × List (List ℕ))) → reading_behind behind ≡ Err (usage.Rest number) → number < 12
  by_phrase None is = cc
  by_phrase (Some behind) is = by_command behind.0 (command_of behind.0 behind.1) is

-- words without a reading are answered with their phrase
pub phrase_told : (words : List (List ℕ)) (number : ℕ) (phrase : Phrase) → reading words ≡ Err (usage.Rest number)
    → (number < 12 → number_of phrase ≡ number) → IsUnread words (NoReading phrase)
phrase_told words number phrase is numbered = no_reading (is ∙ ap (λ n. Err (usage.Rest n)) (sym (numbered (rest_is_a_phrase words number is))))
