use Rattle.std.proofs.Common.{◌≡◌, ℕ, List, Some, ap, ◌∙◌, inr, is_some, refl, true}
use Rattle.std.proofs.lemmas.Result.{IfErr-weaker, IfOk-weaker}
use Rattle.voy_disk.specs.Files.{Files, bytes_now}
use Rattle.voy_command.specs.Files.{file_bytes, schema_name}
use Rattle.voy_command.specs.declared.answer.Cause.TheVariants.{MissingSchema}
use Rattle.voy_command.specs.Recorded.{recorded_schema}
use Rattle.voy_command.proofs.RecordedLaws.{file_there, no_bytes, refuses_schema}
use Rattle.voy_command.proofs.recorded.read_schema.Given.{Over}
use Rattle.voy_command.proofs.recorded.read_schema.Goals as goal

-- the file that was read is the schema's
reads_schema : (g : Over) (c : goal.After-drop-name-inside g) (fs : Files) → g.D.Disk.files c.args.recording.now ≡ Some fs
    → file_bytes (fs schema_name) ≡ Some c.as_slice.result.now
reads_schema g c fs is =
    let there : true ≡ is_some (fs c.in-Ok.name) =
    (rw c.in-Ok-Some.field-0-is at c.in-Ok-Some.ensures.found) fs is in
    let whole : c.in-Ok-Some.bytes.items ≡ bytes_now (fs c.in-Ok.name) =
    (rw c.in-Ok-Some.field-0-is at c.in-Ok-Some.ensures.whole) fs is in
    file_there (fs schema_name) c.as_slice.result.now (there ∙ ap (λ (name : List ℕ). is_some (fs name)) c.in-Ok.ensures)
    (c.as_slice.ensures.value ∙ whole ∙ ap (λ (name : List ℕ). bytes_now (fs name)) c.in-Ok.ensures)

pub returns-in-Ok-Some-clause-ok : goal.returns-in-Ok-Some-clause-ok
returns-in-Ok-Some-clause-ok g c =
    IfOk-weaker c.schema_of.result _ _ (λ schema reads. λ fs is. ap recorded_schema (reads_schema g c fs is) ∙ reads) c.schema_of.ensures.ok

pub returns-in-Ok-Some-clause-err : goal.returns-in-Ok-Some-clause-err
returns-in-Ok-Some-clause-err g c =
    IfErr-weaker c.schema_of.result _ _
    (λ a stop. refuses_schema a _ _ _ (λ cause refuses. λ fs is. ap recorded_schema (reads_schema g c fs is) ∙ refuses) stop)
    c.schema_of.ensures.err

pub returns-in-Ok-None-clause-err : goal.returns-in-Ok-None-clause-err
returns-in-Ok-None-clause-err g c = inr (inr (
  MissingSchema,
  refl,
  λ fs is. ap recorded_schema (no_bytes (fs schema_name)
      ((rw c.in-Ok-None.field-0-is at c.in-Ok-None.ensures.found) fs is ∙ ap (λ (name : List ℕ). is_some (fs name)) c.in-Ok.ensures)),
))
