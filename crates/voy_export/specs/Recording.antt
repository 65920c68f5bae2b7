-- What a recording states: the rows of each table and the kept changes of both exporters; and the whole queue that comes of it.
use Rattle.std.specs.Prelude.{ℕ, suc, List, [], ◌∷◌, ◌++◌, Option, Some, None, length, map}
use Rattle.std.specs.Option.{option_and_then}
use Rattle.std.specs.Result.{result_ok}
use Rattle.voy_disk.specs.Images.{Image}
use Rattle.voy_event.specs.declared.event.What.{What}
use Rattle.voy_event.specs.declared.event.What.TheVariants.{Change, CutoverSource, CutoverTarget}
use Rattle.voy_event.specs.declared.recorded.Recorded.{Recorded}
use Rattle.voy_export.specs.Names.{csv_file}
use Rattle.voy_feed.specs.Kept.{Numbered, change_file, kept}
use Rattle.voy_queue.specs.Putting.{Put}
use Rattle.voy_schema.specs.declared.table.Table.{Table}
use Rattle.voy_schema.specs.declared.value.Value.{Value}
use Rattle.voy_tables.specs.Readings.{recorded_rows}
use Rattle.voy_tables.specs.declared.change.Role.{Role}
use Rattle.voy_tables.specs.declared.change.Role.TheVariants as role

pub record Recording : Type 0 where
  pub schema : List Table
  -- the rows of each table; none where its file is absent or has no reading
  pub rows : List (Option (List (List Value)))
  -- the kept changes of each exporter
  pub source : List Recorded
  pub target : List Recorded

abbrev pub rows_in : Table → Option (List ℕ) → Option (List (List Value))
rows_in table file = option_and_then (λ bytes. result_ok (recorded_rows table bytes)) file

abbrev pub changes_in : List Table → Image → Role → List Recorded
changes_in schema files role = map (λ (change : Numbered). change.recorded) (kept schema (files (change_file role)))

-- what these files state by the schema
abbrev pub recording_of : List Table → Image → Recording
recording_of schema files = record {
  schema = schema;
  rows = map (λ (table : Table). rows_in table (files (csv_file table))) schema;
  source = changes_in schema files role.Source;
  target = changes_in schema files role.Target;
}

-- the event of a recorded change, with its place
abbrev pub change_put : Role → (vsn : ℕ) → Recorded → Put
change_put role vsn recorded = record {
  event = record { vsn = vsn; role = role; what = Change recorded.change };
  spot = Some recorded.spot;
}

abbrev pub cutover_of : Role → What
cutover_of role.Source = CutoverTarget
cutover_of role.Target = CutoverSource

abbrev pub cutover_put : Role → (vsn : ℕ) → Put
cutover_put role vsn = record { event = record { vsn = vsn; role = role; what = cutover_of role }; spot = None }

-- the events of these changes, numbered behind this vsn, and behind them the cutover
abbrev pub part_puts : Role → (vsn : ℕ) → List Recorded → List Put
part_puts role vsn [] = cutover_put role (suc vsn) ∷ []
part_puts role vsn (recorded ∷ more) = change_put role (suc vsn) recorded ∷ part_puts role (suc vsn) more

-- the queue when all is exported: the source's changes and its cutover, then the target's and its cutover
abbrev pub whole_queue : Recording → List Put
whole_queue recording =
    part_puts role.Source 0 recording.source ++ part_puts role.Target (suc (length recording.source)) recording.target
