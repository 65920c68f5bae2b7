use Rattle.std.proofs.Common.{◌≡◌, ◌+◌, ◌-◌, ◌<◌, ◌≤◌, ◌^◌}
use Rattle.voy_event.specs.EventLine.{max_event_line_bytes}
use Rattle.voy_files.specs.Reader.{bytes_left, line_limit}
use Rattle.voy_disk.specs.Files.{IfTold}
use Rattle.voy_command.specs.Commands.DryRun.Folding.{outcome_from, unread_lines}
use Rattle.voy_command.proofs.commands.dry_run.segment.fold_lines.Given as goal

abbrev pub invariant-loop-fold : goal.invariant-loop-fold
invariant-loop-fold g l = record {
  so_far : IfTold (g.D.Disk.files l.fn.export) (λ fs. outcome_from l.fn.fold (unread_lines l.fn.reader fs) ≡ outcome_from l.fold (unread_lines l.reader fs));
  few : l.fold.last + bytes_left l.reader < 2 ^ 64 - 1;
  limit : line_limit l.reader ≡ max_event_line_bytes;
  same : g.D.Disk.files l.export ≡ g.D.Disk.files l.fn.export;
  later : g.D.Disk.faults l.fn.export ≤ g.D.Disk.faults l.export;
}

abbrev pub decreases-loop-fold : goal.decreases-loop-fold
decreases-loop-fold g l = bytes_left l.reader
