-- How the outcome of a segment goes on, or stops, at its next line.
use Rattle.std.proofs.Common.{◌≡◌, ℕ, suc, ◌+◌, Bool, true, false, cond, ◌&&◌, ◌||◌, not, List, ◌∷◌, Option, Some, None, Result, Ok, Err, length, map, option_map, is_some, refl, sym, ap, ◌∙◌, inl, inr, arith}
use Rattle.std.specs.Prelude.{if◌then◌else◌}
use Rattle.std.proofs.lemmas.Bool.Decides.{nat_tests}
use Rattle.std.specs.Bool.{◌==◌}
use Rattle.std.specs.List.{cons_option, list_any}
use Rattle.voy_event.specs.EventLine.{line_reading}
use Rattle.voy_event.specs.Events.{change_in, changes_in, ends_part, is_by_source, vsn_changes}
use Rattle.voy_event.specs.declared.event.Event.{Event}
use Rattle.voy_event.specs.declared.event.What.{What}
use Rattle.voy_event.specs.declared.event.What.TheVariants as what
use Rattle.voy_event.specs.declared.line_error.LineWhy.{LineWhy}
use Rattle.voy_event.specs.declared.line_error.LineWhy.TheVariants.{BadValue}
use Rattle.voy_event.specs.declared.line_error.LineWhy.TheVariants as why
use Rattle.voy_files.specs.LineLaws.{both_hold, is_false}
use Rattle.voy_schema.specs.declared.table.Table.{Table}
use Rattle.voy_schema.specs.declared.value.Value.{Value}
use Rattle.voy_tables.specs.Changes.{row_change}
use Rattle.voy_tables.specs.Folds.{misfit_among}
use Rattle.voy_tables.specs.Lists.{fold_lists, misfit_of}
use Rattle.voy_tables.specs.declared.change.Change.{Change}
use Rattle.voy_tables.specs.declared.change.Misfit.{Misfit}
use Rattle.voy_command.specs.Commands.DryRun.Outcome.{is_refusal, line_refusal, refusing, shown}
use Rattle.voy_command.specs.Commands.DryRun.Folding.{GoesOn, IsNext, IsNoFit, IsNoNext, Stops, Takes, event_misfit, fold_from, lines_from, lists_with, rest_from}
use Rattle.voy_command.specs.Commands.DryRun.Segment.{as_next, folded, queue_of, unless_misfit}
use Rattle.voy_command.specs.declared.answer.Answer.{Answer}
use Rattle.voy_command.specs.declared.answer.Answer.TheVariants as answer
use Rattle.voy_command.specs.declared.commands.dry_run.fold.Fold.{Fold}
use Rattle.voy_contents.specs.Tables.{lists_in, schema_in}

Lists : Type 0
Lists = List (List (List Value))

-- an event that passed its test
pub chosen : (t : Bool) (e f : Event) → cond {A = Result Event LineWhy} t (Ok e) (Err BadValue) ≡ Ok f → (t ≡ true) × (e ≡ f)
chosen true e f h = (refl, cc)
chosen false e f h = cc

-- the next event has the next vsn, and none came behind a cutover
pub next_is : (vsn : ℕ) (ended : Bool) (r : Result Event LineWhy) (e : Event) → as_next vsn ended r ≡ Ok e → (e.vsn ≡ vsn) × (ended ≡ false)
next_is vsn ended (Err w) e h = cc
next_is vsn ended (Ok x) e h =
    let took = chosen _ x e h in
    let parts : (((x.vsn == vsn) && is_by_source x.role) ≡ true) × (not ended ≡ true) = both_hold _ _ took.0 in
    let first : ((x.vsn == vsn) ≡ true) × (is_by_source x.role ≡ true) = both_hold _ _ parts.0 in
    let same : x.vsn ≡ vsn = grind (arith, nat_tests, first.0) in
    (ap (λ (y : Event). y.vsn) (sym took.1) ∙ same, is_false ended parts.1)

rest_more : (schema : List Table) (last : ℕ) (e : Event) (events : List Event) (lists : List (List (List Value))) (refused : Option (ℕ × LineWhy))
    → rest_from schema last false (e ∷ events) lists refused ≡ rest_from schema (last + 1) (ends_part e) events lists refused
rest_more schema last e events lists None =
    let count : last + suc (length events) ≡ last + 1 + length events = omega arith in
    ap (λ n. shown schema lists n (ends_part e || list_any ends_part events)) count
rest_more schema last e events lists (Some refused) = refl

fold_more : (schema : List Table) (last : ℕ) (e : Event) (events : List Event) (refused : Option (ℕ × LineWhy)) (f : Result (List (List (List Value))) ℕ)
    → fold_from schema last false (record { events = e ∷ events; refused = refused }) f
    ≡ fold_from schema (last + 1) (ends_part e) (record { events = events; refused = refused }) f
fold_more schema last e events refused (Err vsn) = refl
fold_more schema last e events refused (Ok lists) = rest_more schema last e events lists refused

-- what the fold of one event and those behind it is
abbrev Folded : List Table → List (List (List Value)) → ℕ → What → List Event → Type 0
Folded schema lists vsn w events =
    unless_misfit (fold_lists schema lists (map (row_change schema) (cons_option (change_in w) (changes_in events))))
    (misfit_among schema lists (cons_option (option_map (λ c. (vsn, c)) (change_in w)) (vsn_changes events)))
    ≡ (if is_some (event_misfit schema lists w) then Err vsn else folded schema (lists_with schema lists w) events)

change_folds : (schema : List Table) (lists : List (List (List Value))) (vsn : ℕ) (c : Change) (events : List Event) (m : Option Misfit)
    → misfit_of schema (row_change schema c) lists ≡ m → Folded schema lists vsn (what.Change c) events
change_folds schema lists vsn c events None is = rw is refl
change_folds schema lists vsn c events (Some why) is = rw is refl

-- the fold goes on behind an event that fits, and ends at one that does not
pub folded_more : (schema : List Table) (lists : List (List (List Value))) (e : Event) (events : List Event)
    → folded schema lists (e ∷ events) ≡ (if is_some (event_misfit schema lists e.what) then Err e.vsn else folded schema (lists_with schema lists e.what) events)
folded_more schema lists e events = by_what e.what where
  by_what : (w : What) → Folded schema lists e.vsn w events
  by_what (what.Change c) = change_folds schema lists e.vsn c events (misfit_of schema (row_change schema c) lists) refl
  by_what what.CutoverTarget = refl
  by_what what.CutoverSource = refl

-- with a next event that fits, the outcome is that of the lines behind it
pub lines_more : (schema : List Table) (lists : List (List (List Value))) (last : ℕ) (ended : Bool) (line : List ℕ) (e : Event) (lines : List (List ℕ))
    → as_next (last + 1) ended (line_reading schema line) ≡ Ok e → event_misfit schema lists e.what ≡ None
    → lines_from schema lists last ended (line ∷ lines) ≡ lines_from schema (lists_with schema lists e.what) (last + 1) (ends_part e) lines
lines_more schema lists last ended line e lines next fits =
    let facts : (e.vsn ≡ last + 1) × (ended ≡ false) = next_is (last + 1) ended (line_reading schema line) e next in
    let behind = queue_of schema (last + 1 + 1) (ends_part e) lines in
    let folds : folded schema lists (e ∷ behind.events) ≡ folded schema (lists_with schema lists e.what) behind.events =
    folded_more schema lists e behind.events ∙ rw fits refl in
    rw (next, facts.1)
    (ap (fold_from schema last false (record { events = e ∷ behind.events; refused = behind.refused })) folds
    ∙ fold_more schema last e behind.events behind.refused (folded schema (lists_with schema lists e.what) behind.events))

-- a line that states no next event ends the outcome
pub lines_refused : (schema : List Table) (lists : List (List (List Value))) (last : ℕ) (ended : Bool) (line : List ℕ) (why : LineWhy) (lines : List (List ℕ))
    → as_next (last + 1) ended (line_reading schema line) ≡ Err why
    → lines_from schema lists last ended (line ∷ lines) ≡ refusing (line_refusal (last + 1) why)
lines_refused schema lists last ended line why lines next = rw next refl

-- so does an event that does not fit
pub lines_misfit : (schema : List Table) (lists : List (List (List Value))) (last : ℕ) (ended : Bool) (line : List ℕ) (e : Event) (lines : List (List ℕ))
    → as_next (last + 1) ended (line_reading schema line) ≡ Ok e → is_some (event_misfit schema lists e.what) ≡ true
    → lines_from schema lists last ended (line ∷ lines) ≡ refusing (answer.Invalid e.vsn)
lines_misfit schema lists last ended line e lines next misfit =
    let behind = queue_of schema (last + 1 + 1) (ends_part e) lines in
    let folds : folded schema lists (e ∷ behind.events) ≡ Err e.vsn = folded_more schema lists e behind.events ∙ rw misfit refl in
    rw next (ap (fold_from schema last ended (record { events = e ∷ behind.events; refused = behind.refused })) folds)

pub goes_on : (old new : Fold) (line : List ℕ) (e : Event) → IsNext old line e → Takes old e new → GoesOn old line new
goes_on old new line e next takes = λ lines.
    let vsn : (e.vsn ≡ old.last + 1) × (old.ended ≡ false) = next_is (old.last + 1) old.ended (line_reading (schema_in old.tables) line) e next in
    lines_more (schema_in old.tables) (lists_in old.tables) old.last old.ended line e lines next takes.fits
    ∙ rw (takes.schema, takes.lists, takes.last, takes.ended, vsn.0) refl

pub next_vsn : (old new : Fold) (line : List ℕ) (e : Event) → IsNext old line e → Takes old e new → new.last ≡ old.last + 1
next_vsn old new line e next takes = takes.last ∙ (next_is _ _ _ _ next).0

pub is_refusal-line_refusal : (line : ℕ) (w : LineWhy) → is_refusal (line_refusal line w) ≡ true
is_refusal-line_refusal line why.TooLong = refl
is_refusal-line_refusal line why.NotJson = refl
is_refusal-line_refusal line why.BadOp = refl
is_refusal-line_refusal line why.Missing = refl
is_refusal-line_refusal line why.Unknown = refl
is_refusal-line_refusal line why.BadValue = refl

pub stops_no_next : (old : Fold) (line : List ℕ) (a : Answer) → IsNoNext old line a → Stops old line a
stops_no_next old line a (inl memory) = inl memory
stops_no_next old line a (inr refused) = inr (
  rw refused.2 (is_refusal-line_refusal (old.last + 1) refused.0),
  λ lines.
      lines_refused (schema_in old.tables) (lists_in old.tables) old.last old.ended line refused.0 lines refused.1 ∙ ap refusing (sym refused.2),
)

pub stops_no_fit : (old : Fold) (line : List ℕ) (e : Event) (a : Answer) → IsNext old line e → IsNoFit old e a → Stops old line a
stops_no_fit old line e a next (inl memory) = inl memory
stops_no_fit old line e a next (inr misfit) = inr (
  rw misfit.1 refl,
  λ lines.
      lines_misfit (schema_in old.tables) (lists_in old.tables) old.last old.ended line e lines next misfit.0 ∙ ap refusing (sym misfit.1),
)
