use Rattle.std.proofs.Common.{◌+◌, arith}
use Rattle.std.proofs.lemmas.Result.{on_ok_weaker}
use Rattle.voy_journal.proofs.ExactBytes.{wrote_both}
use Rattle.voy_journal.proofs.Gates.{gate_there, opened, opened_images, staged, staged_images}
use Rattle.voy_disk.specs.SafeFileLaws.{front_less, front_on}
use Rattle.voy_disk.specs.ChangeLaws.{others_on}
use Rattle.voy_journal.proofs.appending.put_behind.Goals as goal

pub returns-in_err-write_safely-clause-either : goal.returns-in_err-write_safely-clause-either
returns-in_err-write_safely-clause-either g c = λ payload payloads is stands.
    staged_images c.args.name.now c.args.gate _ payloads payload _ _ stands c.in_err-write_safely.ensures.images

pub returns-in_err-write_safely-clause-front : goal.returns-in_err-write_safely-clause-front
returns-in_err-write_safely-clause-front g c =
    front_less c.args.name.now (c.args.gate + 1) c.args.gate (omega arith) c.in_err-write_safely.ensures.front

pub write_safely-requires-2-clause-safe : goal.write_safely-requires-2-clause-safe
write_safely-requires-2-clause-safe g c =
    gate_there c.args.name.now c.args.gate c.args.block.now (g.D.Disk.files c.args.disk.now) _ c.requires.stands c.in_ok-write_safely.ensures.rewrites

pub returns-clause-either : goal.returns-clause-either
returns-clause-either g c = λ payload payloads is stands.
    let at = staged c.args.name.now c.args.gate payloads c.args.block.now (g.D.Disk.files c.args.disk.now) _ stands c.in_ok-write_safely.ensures.rewrites in
    opened_images c.args.name.now c.args.gate payloads payload c.args.block.now _ _ at is c.write_safely-2.ensures.images

pub returns-clause-appends : goal.returns-clause-appends
returns-clause-appends g c = on_ok_weaker c.write_safely-2.result (λ rewrites payload payloads is stands.
    let at = staged c.args.name.now c.args.gate payloads c.args.block.now (g.D.Disk.files c.args.disk.now) _ stands c.in_ok-write_safely.ensures.rewrites in
    opened c.args.name.now c.args.gate payloads payload c.args.block.now _ _ at is rewrites) c.write_safely-2.ensures.rewrites

pub returns-clause-front : goal.returns-clause-front
returns-clause-front g c =
    front_on c.args.name.now c.args.gate (front_less c.args.name.now (c.args.gate + 1) c.args.gate (omega arith) c.in_ok-write_safely.ensures.front)
    c.write_safely-2.ensures.front

pub returns-clause-others : goal.returns-clause-others
returns-clause-others g c = others_on c.in_ok-write_safely.ensures.others c.write_safely-2.ensures.others

pub returns-clause-exact : goal.returns-clause-exact
returns-clause-exact g c = on_ok_weaker c.write_safely-2.result
    (wrote_both c.args.name.now c.args.gate c.args.block.now (g.D.Disk.files c.args.disk.now) _ _ c.requires.stands c.in_ok-write_safely.ensures.rewrites)
    c.write_safely-2.ensures.rewrites
