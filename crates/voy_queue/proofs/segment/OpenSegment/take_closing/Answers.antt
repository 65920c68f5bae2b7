use Rattle.voy_files.specs.Reader.{unread}
use Rattle.voy_queue.proofs.SegmentLemmas.{no_line_at_end, tells_damage}
use Rattle.voy_queue.proofs.segment.OpenSegment.take_closing.Goals as goal

-- no line is left
pub returns-then-not-branch-clause-damaged : goal.returns-then-not-branch-clause-damaged
returns-then-not-branch-clause-damaged g c fs told behind =
    let old = c.args.self.now in
    tells_damage c.damaged.result _ old.number old.offset _ _ c.damaged.ensures c.in_ok-find_line.ensures.number c.in_ok-find_line.ensures.offset
    (no_line_at_end old.number old.state old.offset (unread old.lines fs) behind (c.in_ok-find_line.ensures.none c.if-not-branch.true fs told))
