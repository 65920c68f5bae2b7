-- The turns of an export of snapshots, put together: an end that comes of a table and of the end behind it.
use Rattle.std.proofs.Common.{◌≡◌, ◌<◌, ◌+◌, ◌-◌, ℕ, zero, suc, List, [], ◌∷◌, ◌++◌, Option, Some, Result, Ok, Err, drop, length, map, refl, sym, ap, ◌∙◌, subst, arith}
use Rattle.std.specs.Prelude.{IfErr, IfOk, slice_get, slice_index_or}
use Rattle.std.proofs.lemmas.List.{length-append}
use Rattle.voy_disk.specs.Files.{Files, IfTold}
use Rattle.voy_disk.specs.Images.{Image, ImagesOf, now_image}
use Rattle.voy_disk.specs.PrefixLaws.{does_on, leaves_more, leaves_on}
use Rattle.voy_disk.specs.ReachLaws.{after_more, goes_nothing, goes_on}
use Rattle.voy_disk.specs.StepLaws.{follows_nothing, follows_weaker}
use Rattle.voy_disk.specs.Steps.{Does, Follows, Goes, LeavesPrefix, after_all}
use Rattle.voy_export.specs.Calls.{AtEnd, IsUnnamed, Tells, snapshot_entries, snapshot_entry, snapshot_steps}
use Rattle.voy_export.specs.Ends.{SnapshotEnd, Stop, behind_rows, ends_with, finished, past, refused, tables_end, with_file}
use Rattle.voy_export.specs.Exports.{exports_in}
use Rattle.voy_export.specs.Names.{csv_file}
use Rattle.voy_export.specs.Recording.{recording_of, rows_in}
use Rattle.voy_export.specs.Snapshots.{ComesTo, Counts, HasRowsAt, ReadsTable, Stops, StopsAtFile, StopsCounting, Turns, counted, end_from}
use Rattle.voy_export.specs.Steps.{AddsSnapshot, ExportStep, MayExport, export_step}
use Rattle.voy_export.specs.declared.error.ExportError.{ExportError}
use Rattle.voy_export.specs.declared.error.ExportError.TheVariants.{Fault, Limit, NoMemory, Refused}
use Rattle.voy_meta.specs.State.{after_record, state_after}
use Rattle.voy_meta.specs.declared.state.MetaState.{MetaState}
use Rattle.voy_schema.specs.declared.table.Table.{Table}
use Rattle.voy_schema.specs.declared.value.Value.{Value}
use Rattle.voy_tables.specs.RowText.{row_lines}

-- ---- answers

abbrev Answer : Type 0
Answer = Result (Unit {0}) ExportError

pub at_end_on : (answer : Answer) {P Q : Type 0} → (P → Q) → AtEnd answer P → AtEnd answer Q
at_end_on (Ok value) on holds = on holds
at_end_on (Err (Refused file line why)) on holds = on holds
at_end_on (Err (Limit file line)) on holds = on holds
at_end_on (Err (Fault which)) on holds = tt
at_end_on (Err NoMemory) on holds = tt

-- what holds whatever the answer
pub holds_at_end : {T : Type 0} (answer : Result T ExportError) {P : Type 0} → P → AtEnd answer P
holds_at_end (Ok value) holds = holds
holds_at_end (Err (Refused file line why)) holds = holds
holds_at_end (Err (Limit file line)) holds = holds
holds_at_end (Err (Fault which)) holds = tt
holds_at_end (Err NoMemory) holds = tt

unnamed_at_end : (error : ExportError) (P : Type 0) → IsUnnamed error → AtEnd {T = Unit {0}} (Err error) P
unnamed_at_end (Refused file line why) P unnamed = absurd unnamed
unnamed_at_end (Limit file line) P unnamed = absurd unnamed
unnamed_at_end (Fault which) P unnamed = tt
unnamed_at_end NoMemory P unnamed = tt

unnamed_tells : (error : ExportError) (stop : Stop) → IsUnnamed error → Tells stop error
unnamed_tells (Refused file line why) stop unnamed = absurd unnamed
unnamed_tells (Limit file line) stop unnamed = absurd unnamed
unnamed_tells (Fault which) stop unnamed = tt
unnamed_tells NoMemory stop unnamed = tt

module _ (schema : List Table) (files : Image) where
  does_more : (xs ys : List ExportStep) (i j k : Image) → Does (exports_in schema) export_step xs i j → Does (exports_in schema) export_step ys j k
      → Does (exports_in schema) export_step (xs ++ ys) i k
  does_more xs ys i j k first second =
      second ∙ ap (λ exports. after_all export_step exports ys) first ∙ sym (after_more export_step (MayExport (recording_of schema files)) xs ys (exports_in schema i))

  nothing_does : (images : Image → Type 0) → Follows (Does (exports_in schema) export_step []) images images
  nothing_does images = follows_weaker (follows_nothing images) (λ i j same. ap (exports_in schema) same)

  nothing_leaves : (steps : List ExportStep) (images : Image → Type 0) → LeavesPrefix (Does (exports_in schema) export_step) steps images images
  nothing_leaves steps images = follows_weaker (follows_nothing images) (λ i j same. (0, ap (exports_in schema) same))

  nothing_moves : (images : Image → Type 0) → Goes (exports_in schema) export_step (MayExport (recording_of schema files)) images images
  nothing_moves images = goes_nothing export_step (MayExport (recording_of schema files)) (exports_in schema) images

  -- ---- where nothing more is done

  pub all_done : (state : MetaState) (a : Option Files) → ComesTo schema files (ends_with finished) (Ok tt) state state a a
  all_done state a = record {
    done = refl;
    told = tt;
    all = nothing_does (ImagesOf a);
    state = refl;
    prefix = nothing_leaves [] (ImagesOf a);
    moves = nothing_moves (ImagesOf a);
  }

  stopped_with : (stop : Stop) (error : ExportError) (state : MetaState) (a : Option Files) → Tells stop error → ComesTo schema files (ends_with stop) (Err error) state state a a
  stopped_with stop error state a tells = record {
    done = tt;
    told = tells;
    all = holds_at_end {T = Unit {0}} (Err error) (nothing_does (ImagesOf a));
    state = holds_at_end {T = Unit {0}} (Err error) refl;
    prefix = nothing_leaves [] (ImagesOf a);
    moves = nothing_moves (ImagesOf a);
  }

  -- cut short, with some steps done
  pub cut_short : (end : SnapshotEnd) (error : ExportError) (old new : MetaState) (a b : Option Files) → IsUnnamed error
      → LeavesPrefix (Does (exports_in schema) export_step) (snapshot_steps (length schema) (length old.snapshots) end.added) (ImagesOf a) (ImagesOf b)
      → Goes (exports_in schema) export_step (MayExport (recording_of schema files)) (ImagesOf a) (ImagesOf b)
      → ComesTo schema files end (Err error) old new a b
  cut_short end error old new a b unnamed prefix moves = record {
    done = tt;
    told = unnamed_tells error end.stop unnamed;
    all = unnamed_at_end error _ unnamed;
    state = unnamed_at_end error _ unnamed;
    prefix = prefix;
    moves = moves;
  }

  pub stopped : (end : SnapshotEnd) (error : ExportError) (state : MetaState) (a : Option Files) → Stops error end → ComesTo schema files end (Err error) state state a a
  stopped end (Refused file line why) state a stops = subst (λ end. ComesTo schema files end (Err (Refused file line why)) state state a a) (sym stops) (stopped_with (refused file line why) (Refused file line why) state a refl)
  stopped end (Limit file line) state a stops = subst (λ end. ComesTo schema files end (Err (Limit file line)) state state a a) (sym stops) (stopped_with (past file line) (Limit file line) state a refl)
  stopped end (Fault which) state a stops = cut_short end (Fault which) state state a a tt (nothing_leaves (snapshot_steps (length schema) (length state.snapshots) end.added) (ImagesOf a)) (nothing_moves (ImagesOf a))
  stopped end NoMemory state a stops = cut_short end NoMemory state state a a tt (nothing_leaves (snapshot_steps (length schema) (length state.snapshots) end.added) (ImagesOf a)) (nothing_moves (ImagesOf a))

  -- ---- a table more

  module _ (rows : List (List Value)) (rest : SnapshotEnd) (old new : MetaState) (a b : Option Files)
      (counts : length new.snapshots ≡ suc (length old.snapshots))
      (comes : new ≡ after_record old (snapshot_entry (length schema) (length old.snapshots) rows))
      (does : Follows (Does (exports_in schema) export_step (AddsSnapshot (snapshot_entry (length schema) (length old.snapshots) rows) (row_lines rows) ∷ [])) (ImagesOf a) (ImagesOf b))
      (moves : Goes (exports_in schema) export_step (MayExport (recording_of schema files)) (ImagesOf a) (ImagesOf b)) where
    abbrev step : ExportStep
    step = AddsSnapshot (snapshot_entry (length schema) (length old.snapshots) rows) (row_lines rows)

    pub table_more : (answer : Answer) (last : MetaState) (c : Option Files) → ComesTo schema files rest answer new last b c
        → ComesTo schema files (behind_rows rows rest) answer old last a c
    table_more answer last c behind = record {
      done = behind.done;
      told = behind.told;
      all = at_end_on answer (λ all. does_on (Does (exports_in schema) export_step) does_more (step ∷ []) (snapshot_steps (length schema) (suc (length old.snapshots)) rest.added) does
          (subst (λ n. Follows (Does (exports_in schema) export_step (snapshot_steps (length schema) n rest.added)) (ImagesOf b) (ImagesOf c)) counts all)) behind.all;
      state = at_end_on answer (λ state. state ∙ ap (λ n. state_after new (snapshot_entries (length schema) n rest.added)) counts
          ∙ ap (λ s. state_after s (snapshot_entries (length schema) (suc (length old.snapshots)) rest.added)) comes) behind.state;
      prefix = leaves_on (Does (exports_in schema) export_step) does_more (step ∷ []) (snapshot_steps (length schema) (suc (length old.snapshots)) rest.added) does
          (subst (λ n. LeavesPrefix (Does (exports_in schema) export_step) (snapshot_steps (length schema) n rest.added) (ImagesOf b) (ImagesOf c)) counts behind.prefix);
      moves = goes_on export_step (MayExport (recording_of schema files)) (exports_in schema) (ImagesOf a) (ImagesOf b) (ImagesOf c) moves behind.moves;
    }

  -- a table of which nothing or all was done, and then nothing more
  pub table_failed : (rows : List (List Value)) (rest : SnapshotEnd) (error : ExportError) (old new : MetaState) (a b : Option Files) → IsUnnamed error
      → LeavesPrefix (Does (exports_in schema) export_step) (AddsSnapshot (snapshot_entry (length schema) (length old.snapshots) rows) (row_lines rows) ∷ []) (ImagesOf a) (ImagesOf b)
      → Goes (exports_in schema) export_step (MayExport (recording_of schema files)) (ImagesOf a) (ImagesOf b)
      → ComesTo schema files (behind_rows rows rest) (Err error) old new a b
  table_failed rows rest error old new a b unnamed prefix moves =
      cut_short (behind_rows rows rest) error old new a b unnamed
      (leaves_more (Does (exports_in schema) export_step) (AddsSnapshot (snapshot_entry (length schema) (length old.snapshots) rows) (row_lines rows) ∷ [])
      (snapshot_steps (length schema) (suc (length old.snapshots)) rest.added) prefix)
      moves

-- ---- one snapshot more is recorded

pub one_more : (old new : MetaState) (of number : ℕ) (rows : List (List Value)) → length old.snapshots ≡ number → new ≡ after_record old (snapshot_entry of number rows)
    → length new.snapshots ≡ number + 1
unfolding after_record
one_more old new of number rows next comes =
    let size = length-append old.snapshots (record { bytes = length (row_lines rows); rows = length rows } ∷ []) in
    ap (λ (s : MetaState). length s.snapshots) comes ∙ size ∙ ap (λ n. n + 1) next

pub tables_more : (old new : MetaState) (of number : ℕ) (rows : List (List Value)) → new ≡ after_record old (snapshot_entry of number rows) → new.tables ≡ of
unfolding after_record
tables_more old new of number rows comes = ap (λ (s : MetaState). s.tables) comes

-- ---- the end from a table on

drop_from : (schema : List Table) (number : ℕ) (table : Table) → slice_get schema number ≡ Some table → drop number schema ≡ table ∷ drop (suc number) schema
drop_from [] number table found = cc
drop_from (t ∷ schema) zero table found = let same : t ≡ table = cc in ap (λ x. x ∷ schema) same
drop_from (t ∷ schema) (suc number) table found = drop_from schema number table found

drop_at : (schema : List Table) (number : ℕ) (table : Table) → slice_get schema number ≡ Some table → drop number schema ≡ table ∷ drop (number + 1) schema
drop_at schema number table found =
    let next : suc number ≡ number + 1 = omega arith in
    drop_from schema number table found ∙ ap (λ n. table ∷ drop n schema) next

-- a table that is recorded is counted
pub end_counted : (schema : List Table) (files : Image) (done number sum : ℕ) (table : Table) → slice_get schema number ≡ Some table → number < done
    → end_from schema files done number sum ≡ counted table sum (files (csv_file table)) (λ next. end_from schema files done (number + 1) next)
end_counted schema files done number sum table found below =
    let more : done - number ≡ suc (done - (number + 1)) = omega (arith, below) in
    ap (λ tables. tables_end files (done - number) sum tables) (drop_at schema number table found)
    ∙ ap (λ n. tables_end files n sum (table ∷ drop (number + 1) schema)) more

-- another is read
pub end_read : (schema : List Table) (files : Image) (done number sum : ℕ) (table : Table) → slice_get schema number ≡ Some table → done ≡ number
    → end_from schema files done number sum ≡ with_file table sum (files (csv_file table)) (λ next. end_from schema files (done + 1) (number + 1) next)
end_read schema files done number sum table found is =
    let none : done - number ≡ 0 = omega (arith, is) in
    let none_behind : done + 1 - (number + 1) ≡ 0 = omega (arith, is) in
    ap (λ tables. tables_end files (done - number) sum tables) (drop_at schema number table found)
    ∙ ap (λ n. tables_end files n sum (table ∷ drop (number + 1) schema)) none
    ∙ ap (λ n. with_file table sum (files (csv_file table)) (λ next. tables_end files n next (drop (number + 1) schema))) (sym none_behind)

drop_all : (schema : List Table) (number : ℕ) → number ≡ length schema → drop number schema ≡ []
drop_all [] number is = ap (λ n. drop n []) is
drop_all (t ∷ schema) zero is = absurd (omega (arith, is))
drop_all (t ∷ schema) (suc number) is = drop_all schema number (omega (arith, is))

-- behind the last one
pub end_all : (schema : List Table) (files : Image) (done number sum : ℕ) → number ≡ length schema → end_from schema files done number sum ≡ ends_with finished
end_all schema files done number sum is = ap (λ tables. tables_end files (done - number) sum tables) (drop_all schema number is) ∙ nothing (done - number) where
  nothing : (n : ℕ) → tables_end files n sum [] ≡ ends_with finished
  nothing zero = refl
  nothing (suc n) = refl

-- ---- turns

pub turn_counted : (schema : List Table) (files : Image) (number sum next : ℕ) (table : Table) (state : MetaState) (a : Option Files)
    → slice_get schema number ≡ Some table → number < length state.snapshots → Counts table sum (files (csv_file table)) next
    → Turns schema files number sum (Ok next) state state a a
turn_counted schema files number sum next table state a found below counts = λ answer last c behind.
    let same : end_from schema files (length state.snapshots) number sum ≡ end_from schema files (length state.snapshots) (number + 1) next =
    end_counted schema files (length state.snapshots) number sum table found below ∙ counts (λ n. end_from schema files (length state.snapshots) (number + 1) n) in
    subst (λ end. ComesTo schema files end answer state last a c) (sym same) behind

pub turn_not_counted : (schema : List Table) (files : Image) (number sum : ℕ) (error : ExportError) (table : Table) (state : MetaState) (a : Option Files)
    → slice_get schema number ≡ Some table → number < length state.snapshots → StopsCounting table sum (files (csv_file table)) error
    → Turns schema files number sum (Err error) state state a a
turn_not_counted schema files number sum error table state a found below stops =
    stopped schema files (end_from schema files (length state.snapshots) number sum) error state a
    (subst (Stops error) (sym (end_counted schema files (length state.snapshots) number sum table found below))
    (stops (λ n. end_from schema files (length state.snapshots) (number + 1) n)))

pub turn_of_count : (schema : List Table) (recording : Option Files) (fs : Files) (number sum : ℕ) (result : Result ℕ ExportError) (table : Table) (state : MetaState) (a : Option Files)
    → slice_get schema number ≡ Some table → number < length state.snapshots → recording ≡ Some fs
    → IfOk result (λ next. IfTold recording (λ fs. Counts table sum (now_image fs (csv_file table)) next))
    → IfErr result (λ error. IfTold recording (λ fs. StopsCounting table sum (now_image fs (csv_file table)) error))
    → Turns schema (now_image fs) number sum result state state a a
turn_of_count schema recording fs number sum (Ok next) table state a found below is counts stops = turn_counted schema (now_image fs) number sum next table state a found below (counts fs is)
turn_of_count schema recording fs number sum (Err error) table state a found below is counts stops = turn_not_counted schema (now_image fs) number sum error table state a found below (stops fs is)

pub turn_not_read : (schema : List Table) (files : Image) (number sum : ℕ) (error : ExportError) (table : Table) (state : MetaState) (a : Option Files)
    → slice_get schema number ≡ Some table → length state.snapshots ≡ number → StopsAtFile table sum (files (csv_file table)) error
    → Turns schema files number sum (Err error) state state a a
turn_not_read schema files number sum error table state a found is stops =
    stopped schema files (end_from schema files (length state.snapshots) number sum) error state a
    (subst (Stops error) (sym (end_read schema files (length state.snapshots) number sum table found is))
    (stops (λ n. end_from schema files (length state.snapshots + 1) (number + 1) n)))

rows_at : (schema : List Table) (files : Image) (number : ℕ) (table : Table) (rows : List (List Value)) → slice_get schema number ≡ Some table
    → rows_in table (files (csv_file table)) ≡ Some rows
    → slice_get (map (λ (table : Table). rows_in table (files (csv_file table))) schema) number ≡ Some (Some rows)
rows_at [] files number table rows found reads = cc
rows_at (t ∷ schema) files zero table rows found reads =
    let same : t ≡ table = cc in
    ap (λ (table : Table). Some (rows_in table (files (csv_file table)))) same ∙ ap Some reads
rows_at (t ∷ schema) files (suc number) table rows found reads = rows_at schema files number table rows found reads

-- the recording has the rows that were read
pub has_rows : (schema : List Table) (files : Image) (number sum next : ℕ) (table : Table) (rows : List (List Value)) → slice_get schema number ≡ Some table
    → ReadsTable table sum (files (csv_file table)) rows next → HasRowsAt (recording_of schema files) schema number rows
has_rows schema files number sum next table rows found reads = record { same = refl; has = rows_at schema files number table rows found reads.read }

pub turn_exported : (schema : List Table) (files : Image) (number sum next : ℕ) (table : Table) (rows : List (List Value)) (old new : MetaState) (a b : Option Files)
    → slice_get schema number ≡ Some table → length old.snapshots ≡ number → ReadsTable table sum (files (csv_file table)) rows next
    → new ≡ after_record old (snapshot_entry (length schema) number rows)
    → Follows (Does (exports_in schema) export_step (AddsSnapshot (snapshot_entry (length schema) number rows) (row_lines rows) ∷ [])) (ImagesOf a) (ImagesOf b)
    → Goes (exports_in schema) export_step (MayExport (recording_of schema files)) (ImagesOf a) (ImagesOf b)
    → Turns schema files number sum (Ok next) old new a b
turn_exported schema files number sum next table rows old new a b found is reads comes does moves = λ answer last c behind.
    let counts : length new.snapshots ≡ length old.snapshots + 1 = one_more old new (length schema) number rows is comes ∙ ap (λ n. n + 1) (sym is) in
    let ends : end_from schema files (length old.snapshots) number sum ≡ behind_rows rows (end_from schema files (length new.snapshots) (number + 1) next) =
    end_read schema files (length old.snapshots) number sum table found is ∙ reads.goes_on (λ n. end_from schema files (length old.snapshots + 1) (number + 1) n)
    ∙ ap (λ n. behind_rows rows (end_from schema files n (number + 1) next)) (sym counts) in
    subst (λ end. ComesTo schema files end answer old last a c) (sym ends)
    (table_more schema files rows (end_from schema files (length new.snapshots) (number + 1) next) old new a b (counts ∙ omega arith)
    (comes ∙ ap (λ n. after_record old (snapshot_entry (length schema) n rows)) (sym is))
    (subst (λ n. Follows (Does (exports_in schema) export_step (AddsSnapshot (snapshot_entry (length schema) n rows) (row_lines rows) ∷ [])) (ImagesOf a) (ImagesOf b)) (sym is) does)
    moves answer last c behind)

pub turn_failed : (schema : List Table) (files : Image) (number sum next : ℕ) (error : ExportError) (table : Table) (rows : List (List Value)) (old new : MetaState) (a b : Option Files)
    → slice_get schema number ≡ Some table → length old.snapshots ≡ number → ReadsTable table sum (files (csv_file table)) rows next → IsUnnamed error
    → LeavesPrefix (Does (exports_in schema) export_step) (AddsSnapshot (snapshot_entry (length schema) number rows) (row_lines rows) ∷ []) (ImagesOf a) (ImagesOf b)
    → Goes (exports_in schema) export_step (MayExport (recording_of schema files)) (ImagesOf a) (ImagesOf b)
    → Turns schema files number sum (Err error) old new a b
turn_failed schema files number sum next error table rows old new a b found is reads unnamed prefix moves =
    let ends : end_from schema files (length old.snapshots) number sum ≡ behind_rows rows (end_from schema files (length old.snapshots + 1) (number + 1) next) =
    end_read schema files (length old.snapshots) number sum table found is ∙ reads.goes_on (λ n. end_from schema files (length old.snapshots + 1) (number + 1) n) in
    subst (λ end. ComesTo schema files end (Err error) old new a b) (sym ends)
    (table_failed schema files rows (end_from schema files (length old.snapshots + 1) (number + 1) next) error old new a b unnamed
    (subst (λ n. LeavesPrefix (Does (exports_in schema) export_step) (AddsSnapshot (snapshot_entry (length schema) n rows) (row_lines rows) ∷ []) (ImagesOf a) (ImagesOf b)) (sym is) prefix)
    moves)

-- the table that stands at a place
pub found_at : (schema : List Table) (number : ℕ) (table other : Table) → number < length schema → table ≡ slice_index_or schema number other → slice_get schema number ≡ Some table
found_at [] number table other within is = absurd (omega (arith, within))
found_at (t ∷ schema) zero table other within is = ap Some (sym is)
found_at (t ∷ schema) (suc number) table other within is = found_at schema number table other (omega (arith, within)) is
