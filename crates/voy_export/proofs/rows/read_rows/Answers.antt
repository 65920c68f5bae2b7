use Rattle.std.proofs.Common.{◌≡◌, Ok, ◌∙◌, subst}
use Rattle.voy_export.specs.Ends.{with_rows}
use Rattle.voy_export.specs.Snapshots.{Stops}
use Rattle.voy_tables.specs.Readings.{recorded_rows}
use Rattle.voy_export.proofs.TableLemmas.{bytes_told, err_on, none_found, none_there, ok_on, some_found}
use Rattle.voy_export.proofs.rows.read_rows.Goals as goal

pub returns-in-Ok-Some-clause-reads : goal.returns-in-Ok-Some-clause-reads
returns-in-Ok-Some-clause-reads g c =
    ok_on c.rows_of.result (λ rows reads fs is bytes there.
    subst (λ bytes. recorded_rows c.args.table.now bytes ≡ Ok rows) (c.as_slice.ensures.value ∙ some_found _ _ c.in-Ok-Some.field-0 c.in-Ok-Some.bytes c.in-Ok-Some.field-0-is (c.in-Ok-Some.ensures.whole fs is) ∙ bytes_told (fs c.args.file) bytes there) reads)
    c.rows_of.ensures.reads

pub returns-in-Ok-Some-clause-stops : goal.returns-in-Ok-Some-clause-stops
returns-in-Ok-Some-clause-stops g c =
    err_on c.rows_of.result (λ failed stops fs is bytes there rest.
    subst (λ bytes. Stops failed (with_rows c.args.file (recorded_rows c.args.table.now bytes) rest)) (c.as_slice.ensures.value ∙ some_found _ _ c.in-Ok-Some.field-0 c.in-Ok-Some.bytes c.in-Ok-Some.field-0-is (c.in-Ok-Some.ensures.whole fs is) ∙ bytes_told (fs c.args.file) bytes there) (stops rest))
    c.rows_of.ensures.stops

pub returns-in-Ok-None-clause-stops : goal.returns-in-Ok-None-clause-stops
returns-in-Ok-None-clause-stops g c = λ fs is bytes there rest. absurd (none_there (fs c.args.file) bytes (none_found _ _ c.in-Ok-None.field-0 c.in-Ok-None.field-0-is (c.in-Ok-None.ensures.whole fs is)) there)
