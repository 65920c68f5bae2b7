-- What the words behind a phrase come to, by what `clap` answers.
use Rattle.std.proofs.Common.{◌≡◌, ◌∙◌, ℕ, List, [], ◌∷◌, None, true, false, ap, sym, refl, inl, inr}
use Rattle.std.specs.List.{list_any}
use Rattle.clap.specs.Faults.{fault_of, is_simple_and_free}
use Rattle.clap.specs.Kinds.{HasKind, IsAmong, Kinds}
use Rattle.clap.specs.Matches.{found_of}
use Rattle.clap.specs.Simple.{App, HasMatchesOf, is_simple, matches_of}
use Rattle.clap.specs.Values.{kind_of}
use Rattle.clap.specs.Walk.{rows_of}
use Rattle.clap.specs.declared.error.Error.{Error}
use Rattle.clap.specs.declared.error.kind.ErrorKind.{ErrorKind}
use Rattle.clap.specs.declared.error.kind.ErrorKind.TheVariants.{OutOfMemory}
use Rattle.clap.specs.declared.parser.matches.ArgMatches.{ArgMatches}
use Rattle.voy_words.specs.declared.phrase.Phrase.{Phrase}
use Rattle.voy_words.specs.Grammar.{grammar_of}
use Rattle.voy_words.specs.Reading.{command_by, command_of, is_clean, is_dashes, values_of}
use Rattle.voy_words.proofs.GrammarLemmas.{are_free, are_simple}

-- a word is `--`
pub dashes_refused : (phrase : Phrase) (words : List (List ℕ)) → list_any is_dashes words ≡ true → None ≡ command_of phrase words
unfolding command_of values_of
dashes_refused phrase words dashes = rw dashes

-- a command that is the phrase's grammar takes the words
pub words_taken : (phrase : Phrase) (app : App) (words : List (List ℕ)) (m : ArgMatches) → app ≡ grammar_of phrase → list_any is_dashes words ≡ false
    → HasMatchesOf app words m → (is_simple_and_free app ≡ true → fault_of app words ≡ [])
    → command_by phrase (rows_of (found_of m)) ≡ command_of phrase words
unfolding command_of values_of
words_taken phrase app words m is plain has clean =
    let faultless : fault_of (grammar_of phrase) words ≡ [] =
    sym (ap (λ a. fault_of a words) is) ∙ clean (ap is_simple_and_free is ∙ are_free phrase) in
    let rows : rows_of (found_of m) ≡ matches_of (grammar_of phrase) words =
    (has (ap is_simple is ∙ are_simple phrase)).0 ∙ ap (λ a. matches_of a words) is in
    rw (rows, plain, faultless)

-- one of some kinds is there only where they are not empty
pub not_clean : (kind : ErrorKind) (kinds : Kinds) → IsAmong kind kinds → is_clean kinds ≡ false
not_clean kind [] among = absurd among
not_clean kind (k ∷ kinds) among = refl

-- an error other than want of memory is one of the kinds
pub some_kind : (kinds : Kinds) (e : Error) → HasKind kinds e → (kind_of e ≡ OutOfMemory → ⊥) → is_clean kinds ≡ false
some_kind kinds e (inl memory) other = absurd (other memory)
some_kind kinds e (inr among) other = not_clean (kind_of e) kinds among

-- it refuses them
pub words_refused : (phrase : Phrase) (app : App) (words : List (List ℕ)) (e : Error) → app ≡ grammar_of phrase → list_any is_dashes words ≡ false
    → (is_simple_and_free app ≡ true → HasKind (fault_of app words) e) → (kind_of e ≡ OutOfMemory → ⊥)
    → None ≡ command_of phrase words
unfolding command_of values_of
words_refused phrase app words e is plain has other =
    let faulty : is_clean (fault_of (grammar_of phrase) words) ≡ false =
    sym (ap (λ a. is_clean (fault_of a words)) is) ∙ some_kind (fault_of app words) e (has (ap is_simple_and_free is ∙ are_free phrase)) other in
    rw (plain, faulty)
