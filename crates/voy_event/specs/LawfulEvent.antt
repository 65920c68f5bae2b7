-- What holds of every event that was read, and is asked of every event that is written.
use Rattle.std.specs.Prelude.{◌≡◌, ◌≤◌, ◌<◌, ◌^◌, List, true, false}
use Rattle.voy_schema.specs.declared.table.Table.{Table}
use Rattle.voy_tables.specs.Changes.{is_well_formed}
use Rattle.voy_tables.specs.declared.change.Change.{Change}
use Rattle.voy_tables.specs.declared.change.Role.{Role}
use Rattle.voy_tables.specs.declared.change.Role.TheVariants as exporter
use Rattle.voy_event.specs.ChangeLine.{has_long_row}
use Rattle.voy_event.specs.declared.event.Event.{Event}
use Rattle.voy_event.specs.declared.event.What.{What}
use Rattle.voy_event.specs.declared.event.What.TheVariants as what

-- a change that belongs to the schema, with the texts of its rows within their limit
pub record IsLawfulChange (tables : List Table) (c : Change) : Type 0 where
  pub well_formed : is_well_formed tables c ≡ true
  pub short : has_long_row c ≡ false

-- a lawful change, or a cutover by the exporter whose part it ends
abbrev pub IsLawfulFrom : List Table → Role → What → Type 0
IsLawfulFrom tables role (what.Change c) = IsLawfulChange tables c
IsLawfulFrom tables role what.CutoverTarget = role ≡ exporter.Source
IsLawfulFrom tables role what.CutoverSource = role ≡ exporter.Target

pub record IsLawful (tables : List Table) (event : Event) : Type 0 where
  pub from_one : 1 ≤ event.vsn
  pub fits : event.vsn < 2 ^ 64
  pub what : IsLawfulFrom tables event.role event.what

-- a change that belongs to the schema
abbrev pub IsWritableChange : List Table → Change → Type 0
IsWritableChange tables c = is_well_formed tables c ≡ true

abbrev pub IsWritableWhat : List Table → What → Type 0
IsWritableWhat tables (what.Change c) = IsWritableChange tables c
IsWritableWhat tables what.CutoverTarget = Unit {0}
IsWritableWhat tables what.CutoverSource = Unit {0}

-- an event that may be written: its change belongs to the schema, and its vsn is from 1
pub record IsWritable (tables : List Table) (event : Event) : Type 0 where
  pub from_one : 1 ≤ event.vsn
  pub what : IsWritableWhat tables event.what
