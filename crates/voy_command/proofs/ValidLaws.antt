-- A valid stream is folded to its end, and no other one is.
use Rattle.std.proofs.Common.{◌≡◌, ◌↔◌, ℕ, ◌+◌, Bool, true, false, List, [], ◌∷◌, Option, Some, None, Result, Ok, Err, is_some, refl, sym, ap, ◌∙◌, subst}
use Rattle.std.specs.Prelude.{if◌then◌else◌, is_ok, map, slice_get}
use Rattle.std.specs.List.{cons_option, list_any}
use Rattle.voy_disk.specs.Files.{Files}
use Rattle.voy_event.specs.EventLaws.{event_is_lawful}
use Rattle.voy_event.specs.EventLine.{line_reading}
use Rattle.voy_event.specs.Events.{change_in, changes_in, ends_part}
use Rattle.voy_event.specs.LawfulEvent.{IsLawful, IsLawfulFrom}
use Rattle.voy_event.specs.declared.event.Event.{Event}
use Rattle.voy_event.specs.declared.event.What.{What}
use Rattle.voy_event.specs.declared.event.What.TheVariants as what
use Rattle.voy_event.specs.declared.line_error.LineWhy.{LineWhy}
use Rattle.voy_schema.specs.Rows.{tuple_of}
use Rattle.voy_schema.specs.declared.table.Table.{Table}
use Rattle.voy_schema.specs.declared.table.UniqueKey.{UniqueKey}
use Rattle.voy_schema.specs.declared.value.Value.{Value}
use Rattle.voy_tables.specs.Changes.{row_change}
use Rattle.voy_tables.specs.Laws.{EmptyListsHaveNoRows, ListsAreTables, MisfitIsNoneWhereItFits}
use Rattle.voy_tables.specs.Lists.{empty_lists, lists_after, look, misfit_of}
use Rattle.voy_tables.specs.Standing.{are_tables}
use Rattle.voy_tables.specs.Tables.{FitInTurn, IsClean, do_change, no_rows, tuple_in}
use Rattle.voy_tables.specs.declared.change.Change.{Change}
use Rattle.voy_tables.specs.declared.change.Misfit.{Misfit}
use Rattle.voy_command.specs.Commands.DryRun.{DryRunCalls, DryRunOwes, DryRunRefuses, DryRunWorks, dry_run_part}
use Rattle.voy_command.specs.Commands.DryRun as own
use Rattle.voy_command.specs.Course.{Course, disk_at}
use Rattle.voy_command.specs.Part.{Comes, Does}
use Rattle.voy_command.specs.Commands.DryRun.Outcome.{Outcome, dry_run_outcome, end_answer, is_refusal, outcome_of_lines, refusing, with_fold, with_rest}
use Rattle.voy_command.specs.Files.{file_bytes, schema_name, segment_name}
use Rattle.voy_command.specs.Commands.DryRun.Folding.{event_misfit, lists_with}
use Rattle.voy_command.specs.Commands.DryRun.Segment.{Queue, add_event, as_next, event_lines, folded, queue_of}
use Rattle.voy_command.specs.Commands.DryRun.Valid.{FoldsWhereValid, IsValidInput, ValidStreamsFold, changes_of, reaches_cutover, segment_queue}
use Rattle.voy_command.specs.declared.answer.Answer.{Answer}
use Rattle.voy_command.specs.declared.answer.Answer.TheVariants.{Invalid, Refused, TooLong, NotBuilt}
use Rattle.voy_command.specs.declared.answer.FileName.TheVariants.{Segment}
use Rattle.voy_command.specs.declared.answer.Unbuilt.TheVariants.{Metadata}
use Rattle.voy_command.specs.declared.answer.Which.{Which}
use Rattle.voy_command.specs.declared.answer.Which.TheVariants.{Recording, Export, Store}
use Rattle.voy_tables.specs.declared.change.Side.TheVariants.{Target, Source}
use Rattle.voy_command.proofs.PartLaws.{completes, same_disk_keeps, stays_alike}
use Rattle.voy_command.proofs.FoldingLaws.{chosen, folded_more, is_refusal-line_refusal}

-- ---- no rows

no_tuple_of : (t : Table) (unique : ℕ) → tuple_of t unique None ≡ None
unfolding tuple_of
no_tuple_of t unique = by_key (slice_get t.unique_keys unique) refl where
  by_key : (found : Option UniqueKey) → slice_get t.unique_keys unique ≡ found → tuple_of t unique None ≡ None
  by_key None is = rw is refl
  by_key (Some key) is = rw is refl

no_tuple : (schema : List Table) (table unique : ℕ) → tuple_in schema table unique None ≡ None
unfolding tuple_in
no_tuple schema table unique = by_table (slice_get schema table) refl where
  by_table : (found : Option Table) → slice_get schema table ≡ found → tuple_in schema table unique None ≡ None
  by_table None is = rw is refl
  by_table (Some t) is = rw is (no_tuple_of t unique)

-- no row has a tuple where there is none
no_rows_are_clean : (schema : List Table) → IsClean schema no_rows
no_rows_are_clean schema p q unique values same first second = let never : None ≡ Some values = sym (no_tuple schema p.table unique) ∙ first in cc

are_tables-empty : (schema : List Table) → are_tables schema (empty_lists schema) ≡ true
are_tables-empty [] = refl
are_tables-empty (t ∷ schema) = are_tables-empty schema

-- ---- the events of a queue are lawful

abbrev AreLawful : List Table → List Event → Type 0
AreLawful schema [] = Unit {0}
AreLawful schema (e ∷ events) = IsLawful schema e × AreLawful schema events

as_next-read : (vsn : ℕ) (ended : Bool) (r : Result Event LineWhy) (e : Event) → as_next vsn ended r ≡ Ok e → r ≡ Ok e
as_next-read vsn ended (Err why) e next = cc
as_next-read vsn ended (Ok x) e next = ap Ok (chosen _ x e next).1

queue_is_lawful : (schema : List Table) (number : ℕ) (ended : Bool) (lines : List (List ℕ)) → AreLawful schema (queue_of schema number ended lines).events
queue_is_lawful schema number ended [] = tt
queue_is_lawful schema number ended (line ∷ lines) =
    by_reading (as_next number ended (line_reading schema line)) refl (λ cut. queue_is_lawful schema (number + 1) cut lines)
  where
    by_reading : (r : Result Event LineWhy) → as_next number ended (line_reading schema line) ≡ r
        → ((cut : Bool) → AreLawful schema (queue_of schema (number + 1) cut lines).events)
        → AreLawful schema (add_event number r (λ cut. queue_of schema (number + 1) cut lines)).events
    by_reading (Err why) read behind = tt
    by_reading (Ok e) read behind = (event_is_lawful schema line e (as_next-read number ended (line_reading schema line) e read), behind (ends_part e))

-- ---- the fold of lawful events

-- the fold is whole exactly where each change fits the tables that those before it leave
folds : ListsAreTables → MisfitIsNoneWhereItFits → (schema : List Table) (lists : List (List (List Value))) (events : List Event)
    → are_tables schema lists ≡ true → AreLawful schema events
    → (is_ok (folded schema lists events) ≡ true) ↔ FitInTurn schema (look schema lists) (changes_of schema events)
folds done fit schema lists [] stand lawful = (λ _. tt, λ _. refl)
folds done fit schema lists (e ∷ events) stand lawful =
    subst (λ f. (is_ok f ≡ true) ↔ FitInTurn schema (look schema lists) (changes_of schema (e ∷ events))) (sym (folded_more schema lists e events))
    (by_what e.what lawful.0.what (λ after stands. folds done fit schema after events stands lawful.1))
  where
    by_change : (c : Change) → IsLawfulFrom schema e.role (what.Change c)
        → (are_tables schema (lists_after schema (row_change schema c) lists) ≡ true
        → (is_ok (folded schema (lists_after schema (row_change schema c) lists) events) ≡ true)
        ↔ FitInTurn schema (look schema (lists_after schema (row_change schema c) lists)) (changes_of schema events))
        → (m : Option Misfit) → misfit_of schema (row_change schema c) lists ≡ m
        → (is_ok (if is_some m then Err e.vsn else folded schema (lists_after schema (row_change schema c) lists) events) ≡ true)
        ↔ FitInTurn schema (look schema lists) (row_change schema c ∷ changes_of schema events)
    by_change c lawful behind (Some misfit) is = (
      λ never. cc,
      λ fits. let none = sym is ∙ (fit schema lists c stand lawful.well_formed).1 fits.0 in cc,
    )
    by_change c lawful behind None is =
        let after = done schema lists c stand lawful.well_formed in
        let whole : look schema (lists_after schema (row_change schema c) lists) ≡ do_change (row_change schema c) (look schema lists) = λ i id. after.give id i in
        let rest = behind after.stand in (
          λ folds_on. ((fit schema lists c stand lawful.well_formed).0 is, subst (λ tables. FitInTurn schema tables (changes_of schema events)) whole (rest.0 folds_on)),
          λ fits. rest.1 (subst (λ tables. FitInTurn schema tables (changes_of schema events)) (sym whole) fits.1),
        )

    by_what : (w : What) → IsLawfulFrom schema e.role w
        → ((after : List (List (List Value))) → are_tables schema after ≡ true
        → (is_ok (folded schema after events) ≡ true) ↔ FitInTurn schema (look schema after) (changes_of schema events))
        → (is_ok (if is_some (event_misfit schema lists w) then Err e.vsn else folded schema (lists_with schema lists w) events) ≡ true)
        ↔ FitInTurn schema (look schema lists) (map (row_change schema) (cons_option (change_in w) (changes_in events)))
    by_what (what.Change c) lawful behind =
        by_change c lawful (behind (lists_after schema (row_change schema c) lists)) (misfit_of schema (row_change schema c) lists) refl
    by_what what.CutoverTarget lawful behind = behind lists stand
    by_what what.CutoverSource lawful behind = behind lists stand

-- ---- the outcome

-- with a whole fold and no refused line it is that of the end
whole_ends : (schema : List Table) (queue : Queue) (f : Result (List (List (List Value))) ℕ) → is_ok f ≡ true → queue.refused ≡ None
    → (with_fold schema queue f).answer ≡ end_answer (list_any ends_part queue.events)
whole_ends schema queue (Err vsn) whole none = cc
whole_ends schema queue (Ok lists) whole none = rw none refl

-- it is a refusal without them
else_refused : (schema : List Table) (queue : Queue) (f : Result (List (List (List Value))) ℕ) → is_refusal (with_fold schema queue f).answer ≡ false
    → (is_ok f ≡ true) × (queue.refused ≡ None)
else_refused schema queue (Err vsn) answered = cc
else_refused schema queue (Ok lists) answered = (refl, by_rest queue.refused answered) where
  by_rest : (refused : Option (ℕ × LineWhy)) → is_refusal (with_rest schema queue.events lists refused).answer ≡ false → refused ≡ None
  by_rest None answered = refl
  by_rest (Some refused) answered = let never : true ≡ false = sym (is_refusal-line_refusal refused.0 refused.1) ∙ answered in cc

segments_fold : ListsAreTables → MisfitIsNoneWhereItFits → EmptyListsHaveNoRows → (schema : List Table) (segment : Option (List ℕ))
    → FoldsWhereValid schema segment (outcome_of_lines schema (event_lines segment)).answer
segments_fold done fit empty schema segment =
    let queue = segment_queue schema segment in
    let whole : look schema (empty_lists schema) ≡ no_rows = λ i id. empty schema id i in
    let fits : (is_ok (folded schema (empty_lists schema) queue.events) ≡ true) ↔ FitInTurn schema no_rows (changes_of schema queue.events) =
    subst (λ tables. (is_ok (folded schema (empty_lists schema) queue.events) ≡ true) ↔ FitInTurn schema tables (changes_of schema queue.events)) whole
    (folds done fit schema (empty_lists schema) queue.events (are_tables-empty schema) (queue_is_lawful schema 1 false (event_lines segment))) in
    record {
      ends = λ valid. whole_ends schema queue (folded schema (empty_lists schema) queue.events) (fits.1 valid.valid.fit) valid.read;
      else_refused = λ answered.
          let both = else_refused schema queue (folded schema (empty_lists schema) queue.events) answered in
          record { read = both.1; valid = record { clean = no_rows_are_clean schema; fit = fits.0 both.0 } };
    }

pub valid_streams_fold : ListsAreTables → MisfitIsNoneWhereItFits → EmptyListsHaveNoRows → ValidStreamsFold
valid_streams_fold done fit empty file schema segment readable = rw readable (segments_fold done fit empty schema segment)

-- ---- what a dry run owes for a valid stream

outcome_ends : ValidStreamsFold → (export recording : Files) (schema : List Table) → IsValidInput export recording schema
    → (dry_run_outcome export recording).answer ≡ end_answer (reaches_cutover schema (file_bytes (export segment_name)))
outcome_ends law export recording schema input =
    rw input.no_metadata ((law (file_bytes (recording schema_name)) schema (file_bytes (export segment_name)) input.readable).ends input.valid)

-- what is owed is the dry run's one work
pub owed_is_done : ValidStreamsFold → (export recording : Option Files) (a b : Answer) (text other : List ℕ)
    → DryRunOwes export recording a text → DryRunWorks export recording b other → (b ≡ a) × (other ≡ text)
owed_is_done law export recording a b text other (own.valid_stream {e} {r} {schema} is_e is_r input) (own.done outcome) =
    let o = outcome e is_e r is_r in
    (sym (ap (λ (z : Outcome). z.answer) o) ∙ outcome_ends law e r schema input, sym (ap (λ (z : Outcome). z.text) o))
owed_is_done law export recording a b text other (own.valid_stream {e} {r} {schema} is_e is_r input) (own.waiting outcome) =
    let o = outcome e is_e r is_r in
    (sym (ap (λ (z : Outcome). z.answer) o) ∙ outcome_ends law e r schema input, sym (ap (λ (z : Outcome). z.text) o))

-- and no refusal
pub owed_is_no_refusal : ValidStreamsFold → (export recording : Option Files) (a b : Answer) (text : List ℕ)
    → DryRunOwes export recording a text → DryRunRefuses export recording b → ⊥
owed_is_no_refusal law export recording a b text (own.valid_stream {e} {r} {schema} is_e is_r input) refuses = by_refusal b refuses where
  never : (refusal : Answer) (ended : Bool) → is_refusal refusal ≡ true → refusal ≡ end_answer ended → ⊥
  never refusal true is same = let false_is_true : false ≡ true = sym (ap is_refusal same) ∙ is in cc
  never refusal false is same = let false_is_true : false ≡ true = sym (ap is_refusal same) ∙ is in cc

  ends_so : (refusal : Answer) → dry_run_outcome e r ≡ refusing refusal → refusal ≡ end_answer (reaches_cutover schema (file_bytes (e segment_name)))
  ends_so refusal o = sym (ap (λ (z : Outcome). z.answer) o) ∙ outcome_ends law e r schema input

  by_refusal : (b : Answer) → DryRunRefuses export recording b → ⊥
  by_refusal b (own.metadata outcome) = never (NotBuilt Metadata) _ refl (ends_so (NotBuilt Metadata) (outcome e is_e r is_r))
  by_refusal b (own.refused {cause} outcome) = never (Refused cause) _ refl (ends_so (Refused cause) (outcome e is_e r is_r))
  by_refusal b (own.invalid {vsn} outcome) = never (Invalid vsn) _ refl (ends_so (Invalid vsn) (outcome e is_e r is_r))
  by_refusal b (own.too_long {line} outcome) = never (TooLong Segment line) _ refl (ends_so (TooLong Segment line) (outcome e is_e r is_r))

-- ---- the whole dry run

-- an answer that has its cause, over disks with the same files as before
pub does_dry_run : {D K : Type 0} → ValidStreamsFold → (c : Course D K) (a : Answer) → Comes (dry_run_part c) c a
    → c.files c.new.place.recording ≡ c.files c.old.place.recording → c.files c.new.place.export ≡ c.files c.old.place.export
    → c.new.place.target ≡ c.old.place.target → c.new.place.source ≡ c.old.place.source → Does (dry_run_part c) c a
does_dry_run law c a comes recording export target source = record {
  comes = comes;
  complete = completes (dry_run_part c) c (owed_is_done law _ _) (owed_is_no_refusal law _ _) a comes;
  recording = recording;
  closed = closed;
  leaves = export;
  moves = stays_alike c.files c.old.place c.new.place recording export (same_disk_keeps c.files _ _ target) (same_disk_keeps c.files _ _ source);
}
  where
    closed : (disk : Which) → ¬ DryRunCalls disk → disk_at disk c.new.place ≡ disk_at disk c.old.place
    closed Recording not = absurd (not own.recording)
    closed Export not = absurd (not own.export)
    closed (Store Target) not = target
    closed (Store Source) not = source
