use Rattle.voy_export.proofs.snapshot.export_snapshot.Goals as goal

pub returns-in_err-export_missing-clause-moves : goal.returns-in_err-export_missing-clause-moves
returns-in_err-export_missing-clause-moves g c = λ fs is. (c.in_err-export_missing.ensures.comes fs is).moves

pub returns-clause-moves : goal.returns-clause-moves
returns-clause-moves g c = λ fs is. (c.in_ok-export_missing.ensures.comes fs is).moves
