-- The lines of a segment, its closing line, and lines past the limit.
use Rattle.std.proofs.Common.{◌≡◌, ◌≢◌, ℕ, ◌+◌, ◌<◌, ◌≤◌, Bool, true, false, ◌&&◌, List, [], ◌∷◌, Result, Ok, Err, Option, Some, None, zero-add, length, nat_lt, refl, sym, ap, ◌∙◌, inl, inr, ◌⊎◌, arith}
use Rattle.std.proofs.lemmas.Bool.Decides.{nat_tests}
use Rattle.std.specs.Cmp.Lexicographic.{same_text}
use Rattle.std.specs.Str.{bytes_eq}
use Rattle.voy_event.specs.EventLine.{max_event_line_bytes}
use Rattle.voy_event.specs.Events.{closing_line, ends_part}
use Rattle.voy_disk.specs.Faults.{Rose}
use Rattle.voy_disk.specs.File.{File}
use Rattle.voy_disk.specs.Files.{bytes_now}
use Rattle.voy_event.specs.declared.event.Event.{Event}
use Rattle.voy_event.specs.declared.line_error.LineWhy.{LineWhy}
use Rattle.voy_event.specs.declared.line_error.LineWhy.TheVariants as why
use Rattle.voy_schema.specs.declared.value.Value.{Value}
use Rattle.voy_tables.specs.Lists.{empty_lists}
use Rattle.std.specs.List.{list_any}
use Rattle.voy_files.specs.LineLaws.{lines_of-some}
use Rattle.voy_files.specs.Lines.{lines_of}
use Rattle.voy_schema.specs.declared.table.Table.{Table}
use Rattle.voy_command.specs.Commands.DryRun.Outcome.{outcome_of_lines, refusing, shown, with_fold, with_rest}
use Rattle.voy_command.specs.Commands.DryRun.Folding.{Stops, fold_from, outcome_from, rest_from}
use Rattle.voy_command.specs.Commands.DryRun.Segment.{Queue, event_lines, folded, is_empty, queue_of, without_closing}
use Rattle.voy_command.specs.Files.{file_bytes}
use Rattle.voy_command.specs.Commands.DryRun.Outcome.{is_refusal}
use Rattle.voy_command.specs.declared.answer.Answer.{Answer}
use Rattle.voy_command.specs.declared.answer.Answer.TheVariants as answer
use Rattle.voy_command.specs.declared.answer.FileName.TheVariants.{Segment}
use Rattle.voy_command.specs.declared.commands.dry_run.fold.Fold.{Fold}
use Rattle.voy_command.proofs.FoldingLaws.{lines_refused}
use Rattle.voy_contents.specs.Tables.{lists_in, schema_in}

more_behind : (line : List ℕ) (lines : List (List ℕ)) → lines ≢ [] → without_closing (line ∷ lines) ≡ line ∷ without_closing lines
more_behind line [] some = absurd (some refl)
more_behind line (next ∷ lines) some = refl

-- a line that does not close the segment is one of its lines
pub line_stays : (line rest : List ℕ) → (bytes_eq line closing_line && is_empty rest) ≡ false
    → without_closing (line ∷ lines_of rest) ≡ line ∷ without_closing (lines_of rest)
line_stays line [] open_line = by_test (bytes_eq line closing_line) refl where
  by_test : (t : Bool) → bytes_eq line closing_line ≡ t → without_closing (line ∷ lines_of []) ≡ line ∷ without_closing (lines_of [])
  by_test true is = let h = rw is at open_line in cc
  by_test false is = rw is refl
line_stays line (b ∷ rest) open_line = more_behind line (lines_of (b ∷ rest)) (lines_of-some b rest)

-- a stop at a line is one of the part that took it
pub stops_by : (fault : Answer) (rose given : Type 0) (f : Fold) (line : List ℕ) (a : Answer)
    → (((lines : List (List ℕ)) → outcome_from f (line ∷ lines) ≡ refusing a) → given) → Stops f line a
    → (a ≡ answer.NoMemory) ⊎ (((a ≡ fault) × rose) ⊎ ((is_refusal a ≡ true) × given))
stops_by fault rose given f line a gives (inl memory) = inl memory
stops_by fault rose given f line a gives (inr stop) = inr (inr (stop.0, gives stop.1))

-- a stop of a part is one of the whole, where its causes are
pub stops_along : (fault a : Answer) (rose rose' refuses given given' : Type 0) → (rose → rose') → (given → given')
    → (a ≡ answer.NoMemory) ⊎ (((a ≡ fault) × rose) ⊎ (refuses × given)) → (a ≡ answer.NoMemory) ⊎ (((a ≡ fault) × rose') ⊎ (refuses × given'))
stops_along fault a rose rose' refuses given given' f h (inl memory) = inl memory
stops_along fault a rose rose' refuses given given' f h (inr (inl failed)) = inr (inl (failed.0, f failed.1))
stops_along fault a rose rose' refuses given given' f h (inr (inr stop)) = inr (inr (stop.0, h stop.1))

-- a count that rose later rose
pub rose_from : (a b c : ℕ) → a ≤ b → Rose b c → Rose a c
rose_from a b c below rose = omega arith

-- the event lines of a file are those of the bytes that it reads now
pub file_lines : (file : Option File) (bytes : List ℕ) → bytes ≡ bytes_now file → event_lines (file_bytes file) ≡ without_closing (lines_of bytes)
file_lines None bytes is = rw is refl
file_lines (Some f) bytes is = rw is refl

closing_size : length closing_line ≡ 2
unfolding closing_line
closing_size = refl

closing_is_short : (line : List ℕ) → max_event_line_bytes < length line → bytes_eq line closing_line ≡ false
closing_is_short line long = by_test (bytes_eq line closing_line) refl where
  by_test : (t : Bool) → bytes_eq line closing_line ≡ t → bytes_eq line closing_line ≡ false
  by_test true is =
      let same : line ≡ closing_line = same_text line closing_line (sym is) in
      let short : length line ≡ 2 = ap length same ∙ closing_size in
      absurd (omega arith)
  by_test false is = is

-- a line past the limit is refused, whatever stands behind it
pub long_line : (f : Fold) (line : List ℕ) (rest : List (List ℕ)) → max_event_line_bytes < length line
    → outcome_from f (without_closing (line ∷ rest)) ≡ refusing (answer.TooLong Segment (f.last + 1))
long_line f line rest long =
    ap (outcome_from f) (stays rest)
    ∙ lines_refused (schema_in f.tables) (lists_in f.tables) f.last f.ended line why.TooLong (without_closing rest) (rw past refl)
  where
    past : nat_lt max_event_line_bytes (length line) ≡ true
    past = grind (arith, nat_tests)

    stays : (lines : List (List ℕ)) → without_closing (line ∷ lines) ≡ line ∷ without_closing lines
    stays [] = rw (closing_is_short line long) refl
    stays (next ∷ lines) = refl

with_fold_from : (schema : List Table) (queue : Queue) (f : Result (List (List (List Value))) ℕ) → with_fold schema queue f ≡ fold_from schema 0 false queue f
with_fold_from schema queue (Err vsn) = refl
with_fold_from schema queue (Ok lists) = rest_of schema queue.events lists queue.refused where
  rest_of : (schema : List Table) (events : List Event) (lists : List (List (List Value))) (refused : Option (ℕ × LineWhy))
      → with_rest schema events lists refused ≡ rest_from schema 0 false events lists refused
  rest_of schema events lists None = ap (λ n. shown schema lists n (list_any ends_part events)) (sym (zero-add (length events)))
  rest_of schema events lists (Some refused) = refl

-- a fold of no events has the whole outcome before it
pub begins : (schema : List Table) (f : Fold) (lines : List (List ℕ)) → schema_in f.tables ≡ schema → lists_in f.tables ≡ empty_lists schema
    → f.last ≡ 0 → f.ended ≡ false → outcome_of_lines schema lines ≡ outcome_from f lines
begins schema f lines tables lists last ended =
    with_fold_from schema (queue_of schema 1 false lines) (folded schema (empty_lists schema) (queue_of schema 1 false lines).events)
    ∙ rw (tables, lists, last, ended) refl
