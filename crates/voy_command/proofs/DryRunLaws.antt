-- What the parts of a dry run make of its answer and of its output.
use Rattle.std.proofs.Common.{◌≡◌, Bool, true, false, ◌||◌, [], ◌++◌, Option, Some, None, refl, sym, ◌∙◌, inl, inr, add-zero, subst, is_some}
use Rattle.voy_contents.specs.Tables.{lists_in, schema_in}
use Rattle.voy_disk.specs.File.{File}
use Rattle.voy_disk.specs.Files.{Files, length_of}
use Rattle.voy_report.specs.Show.{tables_text}
use Rattle.voy_command.specs.Commands.DryRun.{DryRunRefuses, DryRunWorks, dry_run_part}
use Rattle.voy_command.specs.Commands.DryRun as own
use Rattle.voy_command.specs.Commands.DryRun.Folding.{outcome_from}
use Rattle.voy_command.specs.Commands.DryRun.Outcome.{WithOutcome, end_answer, import_line, is_refusal, refusing, shown}
use Rattle.voy_command.specs.Commands.DryRun.Printing.{fold_text}
use Rattle.voy_command.specs.Commands.DryRun.Stops.{StopsDryRun}
use Rattle.voy_command.specs.Course.{Course, DiskFailed, PrintsNothing, files_before}
use Rattle.voy_command.specs.Part as part
use Rattle.voy_command.specs.declared.answer.Answer.{Answer}
use Rattle.voy_command.specs.declared.answer.Answer.TheVariants.{Invalid, Refused, TooLong, NotBuilt}
use Rattle.voy_command.specs.declared.answer.FileName.TheVariants as file
use Rattle.voy_command.specs.declared.answer.Unbuilt.TheVariants.{Metadata}
use Rattle.voy_command.specs.declared.answer.Which.TheVariants.{Recording, Export}
use Rattle.voy_command.specs.declared.commands.dry_run.fold.Fold.{Fold}

-- an outcome that is a refusal is one of the dry run's
refusal_refuses : (e r : Option Files) (a : Answer) → is_refusal a ≡ true → WithOutcome e r (λ o. o ≡ refusing a) → DryRunRefuses e r a
refusal_refuses e r (Invalid vsn) h o = own.invalid o
refusal_refuses e r (Refused cause) h o = own.refused o
refusal_refuses e r (TooLong file.Segment line) h o = own.too_long o
refusal_refuses e r (NotBuilt Metadata) h o = own.metadata o
refusal_refuses e r other h o = cc

-- a stop before the printing is what the dry run answers
pub stop_comes : {D K : Type 0} (c : Course D K) (a : Answer)
    → StopsDryRun (files_before Export c) (files_before Recording c) (DiskFailed Export c) (DiskFailed Recording c) a
    → PrintsNothing c → part.Comes (dry_run_part c) c a
stop_comes c a (inl memory) same = subst (part.Comes (dry_run_part c) c) (sym memory) (part.no_memory same)
stop_comes c a (inr (inl failed)) same = subst (part.Comes (dry_run_part c) c) (sym failed.0) (part.disk_failed own.export failed.1 same)
stop_comes c a (inr (inr (inl failed))) same = subst (part.Comes (dry_run_part c) c) (sym failed.0) (part.disk_failed own.recording failed.1 same)
stop_comes c a (inr (inr (inr refused))) same = part.refused (refusal_refuses _ _ a refused.0 refused.1) same

or_false : (b : Bool) → (b || false) ≡ b
or_false true = refl
or_false false = refl

-- behind the last line the outcome is the fold's own
pub ends : (f : Fold) → outcome_from f [] ≡ shown (schema_in f.tables) (lists_in f.tables) f.last f.ended
ends f = rw (add-zero f.last, or_false f.ended) refl

-- a fold that came to its end gives the answer of its end and its text
pub fold_works : (e r : Option Files) (f : Fold) → WithOutcome e r (λ o. o ≡ outcome_from f []) → DryRunWorks e r (end_answer f.ended) (fold_text f)
fold_works e r f is = by_end f.ended (λ x is_x. λ y is_y. is x is_x y is_y ∙ ends f) where
  by_end : (ended : Bool) → WithOutcome e r (λ o. o ≡ shown (schema_in f.tables) (lists_in f.tables) f.last ended)
      → DryRunWorks e r (end_answer ended) (tables_text (schema_in f.tables) (lists_in f.tables) ++ import_line ended f.last)
  by_end true o = own.done o
  by_end false o = own.waiting o

-- a file has a length exactly where it is there
pub has_length : (found : Option File) → is_some (length_of found) ≡ is_some found
has_length None = refl
has_length (Some file) = refl
