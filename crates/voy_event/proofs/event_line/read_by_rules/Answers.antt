use Rattle.std.proofs.Common.{◌≡◌, ◌∙◌, ℕ, List, Result, Ok, Err, IfOk, IfErr}
use Rattle.voy_schema.specs.declared.table.Table.{Table}
use Rattle.voy_event.specs.EventLaws.{event_is_lawful}
use Rattle.voy_event.specs.EventLine.{line_reading}
use Rattle.voy_event.specs.InTurn.{line_in_turn}
use Rattle.voy_event.specs.InTurnLaws.{line_is_in_turn}
use Rattle.voy_event.specs.LawfulEvent.{IsLawful}
use Rattle.voy_schema.specs.Refusal.{Refuses}
use Rattle.voy_event.specs.Refusal.{cause_of}
use Rattle.voy_event.specs.declared.event.Event.{Event}
use Rattle.voy_event.specs.declared.line_error.LineError.{LineError}
use Rattle.voy_event.specs.declared.line_error.LineError.TheVariants.{Bad, NoMemory}
use Rattle.voy_event.proofs.event_line.read_by_rules.Goals as goal

read_ok : (tables : List Table) (bytes : List ℕ) (r : Result Event LineError)
    → IfOk r (λ e. line_in_turn tables bytes ≡ Ok e) → IfOk r (λ e. line_reading tables bytes ≡ Ok e)
read_ok tables bytes (Ok e) read = line_is_in_turn tables bytes ∙ read
read_ok tables bytes (Err cause) read = tt

read_err : (tables : List Table) (bytes : List ℕ) (r : Result Event LineError)
    → IfErr r (Refuses cause_of (line_in_turn tables bytes)) → IfErr r (Refuses cause_of (line_reading tables bytes))
read_err tables bytes (Ok e) refused = tt
read_err tables bytes (Err (Bad cause)) refused = line_is_in_turn tables bytes ∙ refused
read_err tables bytes (Err NoMemory) refused = tt

read_is_lawful : (tables : List Table) (bytes : List ℕ) (r : Result Event LineError)
    → IfOk r (λ e. line_in_turn tables bytes ≡ Ok e) → IfOk r (IsLawful tables)
read_is_lawful tables bytes (Ok e) read = event_is_lawful tables bytes e (line_is_in_turn tables bytes ∙ read)
read_is_lawful tables bytes (Err cause) read = tt

pub returns-clause-ok : goal.returns-clause-ok
returns-clause-ok c = read_ok c.args.schema.now.tables c.args.bytes.now c.read_in_turn.result c.read_in_turn.ensures.ok

pub returns-clause-err : goal.returns-clause-err
returns-clause-err c = read_err c.args.schema.now.tables c.args.bytes.now c.read_in_turn.result c.read_in_turn.ensures.err

pub returns-clause-lawful : goal.returns-clause-lawful
returns-clause-lawful c = read_is_lawful c.args.schema.now.tables c.args.bytes.now c.read_in_turn.result c.read_in_turn.ensures.ok
