-- What is left of a feed in front of a line, and behind it.
use Rattle.std.proofs.Common.{◌≡◌, ◌≤◌, ◌<◌, ◌+◌, ◌-◌, ◌^◌, ℕ, suc, Bool, true, nat_lt, List, [], ◌∷◌, Some, None, length, refl, sym, subst, ap, ◌∙◌, arith}
use Rattle.std.proofs.lemmas.Bool.Decides.{nat_tests}
use Rattle.std.specs.Prelude.{Ok, Err, min}
use Rattle.voy_disk.specs.Files.{Files, bytes_now}
use Rattle.voy_event.specs.RecordedLine.{recorded_line_reading}
use Rattle.voy_event.specs.declared.limits.TheConstants.{MAX_RECORDED_LINE_BYTES}
use Rattle.voy_event.specs.declared.line_error.LineWhy.{LineWhy}
use Rattle.voy_event.specs.declared.line_error.LineWhy.TheVariants as why
use Rattle.voy_event.specs.declared.recorded.Recorded.{Recorded}
use Rattle.voy_feed.specs.Feed.{StandsOn, bytes_behind, changes_left, lines_given, lines_left}
use Rattle.voy_feed.specs.Kept.{behind_change, lines_reading, nothing_left, refused_at, with_line}
use Rattle.voy_feed.specs.declared.error.FeedError.TheVariants as error
use Rattle.voy_feed.specs.declared.feed.Feed.{Feed}
use Rattle.voy_feed.specs.declared.limits.TheConstants.{MAX_CHANGE_FILE_BYTES}
use Rattle.voy_files.specs.Bytes.{bytes_between}
use Rattle.voy_files.specs.Lines.{lines_of}
use Rattle.voy_files.specs.RangeLaws.{left_behind}
use Rattle.voy_files.specs.Reader.{StandsAt, TakesLine, bytes_taken, line_limit, unread}
use Rattle.voy_files.specs.declared.line_reader.LineReader.{LineReader}
use Rattle.voy_schema.specs.declared.table.Table.{Table}

pub same_reader : (x y : LineReader) → Some x ≡ Some y → x ≡ y
same_reader x y same = cc

-- the same reader stands at the same place
pub same_place : (x y : LineReader) (n m : ℕ) → Some x ≡ Some y → m ≡ n → StandsAt x n → StandsAt y m
same_place x y n m same same_number stands =
    subst (λ (r : LineReader). StandsAt r m) (same_reader x y same) (subst (StandsAt x) (sym same_number) stands)

pub same_limit : (x y : LineReader) → Some x ≡ Some y → line_limit x ≡ MAX_RECORDED_LINE_BYTES → line_limit y ≡ MAX_RECORDED_LINE_BYTES
same_limit x y same limit = ap line_limit (sym (same_reader x y same)) ∙ limit

-- where no byte is left, no change is
pub none_left : (schema : List Table) (feed : Feed) (files : Files) (start : List ℕ)
    → start ≡ bytes_behind feed (bytes_now (files feed.name)) → start ≡ [] → changes_left schema feed files ≡ nothing_left
none_left schema feed files start is none =
    ap (λ bytes. lines_reading schema (suc feed.given) (lines_of bytes)) (sym is ∙ none)

-- the number of the next line, as the code computes it
pub next_number : (given : ℕ) (lines : List (List ℕ)) (line : List ℕ) (left : List (List ℕ))
    → given + length lines ≤ MAX_CHANGE_FILE_BYTES → lines ≡ line ∷ left → min (given + 1) (2 ^ 64 - 1) ≡ suc given
next_number given lines line left few is =
    let count : length lines ≡ suc (length left) = ap length is in
    omega (arith, few, count)

-- a feed of the same file and the same place
pub same_left : (schema : List Table) (old new : Feed) (files : Files)
    → new.name ≡ old.name → new.at ≡ old.at → new.end ≡ old.end → new.given ≡ old.given
    → changes_left schema new files ≡ changes_left schema old files
same_left schema old new files same_name same_at same_end same_given =
    ap (λ name. lines_reading schema (suc new.given) (lines_of (bytes_between new.at new.end (bytes_now (files name))))) same_name
    ∙ ap (λ at. lines_reading schema (suc new.given) (lines_of (bytes_between at new.end (bytes_now (files old.name))))) same_at
    ∙ ap (λ end. lines_reading schema (suc new.given) (lines_of (bytes_between old.at end (bytes_now (files old.name))))) same_end
    ∙ ap (λ given. lines_reading schema (suc given) (lines_of (bytes_between old.at old.end (bytes_now (files old.name))))) same_given

same_lines : (old new : Feed) (files : Files)
    → new.name ≡ old.name → new.at ≡ old.at → new.end ≡ old.end → lines_left new files ≡ lines_left old files
same_lines old new files same_name same_at same_end =
    ap (λ name. lines_of (bytes_between new.at new.end (bytes_now (files name)))) same_name
    ∙ ap (λ at. lines_of (bytes_between at new.end (bytes_now (files old.name)))) same_at
    ∙ ap (λ end. lines_of (bytes_between old.at end (bytes_now (files old.name)))) same_end

-- with no reader, the feed still stands on its file
pub stands_without : (old new : Feed) (files : Files) → StandsOn old files → new.lines ≡ None
    → new.name ≡ old.name → new.at ≡ old.at → new.end ≡ old.end → new.given ≡ old.given → StandsOn new files
stands_without old new files stands none same_name same_at same_end same_given = record {
  unread = λ reader is. (let never : None ≡ Some reader = sym none ∙ is in cc);
  few = (let few = stands.few in
      let lines : length (lines_left new files) ≡ length (lines_left old files) = ap length (same_lines old new files same_name same_at same_end) in
      omega (arith, few, lines, same_given));
}

-- the feed went behind a line
pub record GoesBehind (old new : Feed) (files : Files) (feed : Bool) (line start left : List ℕ) : Type 0 where
  pub stands : StandsOn old files
  pub begins : start ≡ bytes_behind old (bytes_now (files old.name))
  pub lines : lines_of start ≡ line ∷ lines_of left
  pub takes : TakesLine feed line start left
  pub name : new.name ≡ old.name
  pub at : new.at ≡ old.at + bytes_taken feed line
  pub end : new.end ≡ old.end
  pub given : new.given ≡ min (old.given + 1) (2 ^ 64 - 1)

module _ (old new : Feed) (files : Files) (feed : Bool) (line start left : List ℕ) (goes : GoesBehind old new files feed line start left) where
  abbrev bytes : List ℕ
  bytes = bytes_now (files old.name)

  old_lines : lines_left old files ≡ line ∷ lines_of left
  old_lines = ap lines_of (sym goes.begins) ∙ goes.lines

  pub left_now : left ≡ bytes_behind new (bytes_now (files new.name))
  left_now =
      left_behind feed line left old.at old.end bytes (rw goes.begins at goes.takes)
      ∙ ap (λ at. bytes_between at old.end bytes) (sym goes.at)
      ∙ ap (λ end. bytes_between new.at end bytes) (sym goes.end)
      ∙ ap (λ name. bytes_between new.at new.end (bytes_now (files name))) (sym goes.name)

  pub number_now : new.given ≡ suc old.given
  number_now = goes.given ∙ next_number old.given (lines_left old files) line (lines_of left) goes.stands.few old_lines

  -- the change of the line, and behind it what is left
  pub change_behind : (schema : List Table) (recorded : Recorded) → recorded_line_reading schema line ≡ Ok recorded
      → changes_left schema old files ≡ behind_change (lines_given new) recorded (changes_left schema new files)
  change_behind schema recorded reads =
      ap (lines_reading schema (suc old.given)) old_lines
      ∙ ap (λ reading. with_line (suc old.given) reading (lines_reading schema (suc (suc old.given)) (lines_of left))) reads
      ∙ ap (λ number. behind_change number recorded (lines_reading schema (suc number) (lines_of left))) (sym number_now)
      ∙ ap (λ bytes. behind_change new.given recorded (lines_reading schema (suc new.given) (lines_of bytes))) left_now

  pub stands_behind : (reader : LineReader) → new.lines ≡ Some reader → unread reader files ≡ left → StandsOn new files
  stands_behind reader is unread_left = record {
    unread = λ other is_other. (let same : reader ≡ other = same_reader reader other (sym is ∙ is_other) in
        ap (λ r. unread r files) (sym same) ∙ unread_left ∙ left_now);
    few = (let few = goes.stands.few in
        let before : length (lines_left old files) ≡ suc (length (lines_of left)) = ap length old_lines in
        let now : length (lines_left new files) ≡ length (lines_of left) = ap (λ bytes. length (lines_of bytes)) (sym left_now) in
        let number = number_now in
        omega (arith, few, before, now, number));
  }

-- the error that names the line number as the code computes it
named : (number line : ℕ) (one other : LineWhy) → error.Line number one ≡ error.Line line other → refused_at number one ≡ refused_at line other
named number line one other is =
    let same_number : number ≡ line = cc in
    let same_why : one ≡ other = cc in
    ap (λ n. refused_at n one) same_number ∙ ap (refused_at line) same_why

-- a line that has no reading is refused
pub refused_left : (schema : List Table) (old : Feed) (files : Files) (start first : List ℕ) (rest : List (List ℕ)) (cause : LineWhy)
    → StandsOn old files → start ≡ bytes_behind old (bytes_now (files old.name)) → lines_of start ≡ first ∷ rest
    → recorded_line_reading schema first ≡ Err cause
    → (number line : ℕ) (other : LineWhy) → number ≡ min (old.given + 1) (2 ^ 64 - 1) → error.Line number cause ≡ error.Line line other
    → changes_left schema old files ≡ refused_at line other
refused_left schema old files start first rest cause stands begins lines refuses number line other counts is =
    let first_lines : lines_left old files ≡ first ∷ rest = ap lines_of (sym begins) ∙ lines in
    let given : suc old.given ≡ number = sym (counts ∙ next_number old.given (lines_left old files) first rest stands.few first_lines) in
    ap (lines_reading schema (suc old.given)) first_lines
    ∙ ap (λ reading. with_line (suc old.given) reading (lines_reading schema (suc (suc old.given)) rest)) refuses
    ∙ ap (λ n. refused_at n cause) given
    ∙ named number line cause other is

-- a line past the limit is too long
pub long_refused : (schema : List Table) (line : List ℕ) → MAX_RECORDED_LINE_BYTES < length line → recorded_line_reading schema line ≡ Err why.TooLong
long_refused schema line long =
    let past : nat_lt 4194304 (length line) ≡ true = grind (arith, nat_tests, long) in
    rw past refl
