use Rattle.std.proofs.Common.{drop, take, ◌≡◌, ◌∙◌, ◌-◌, ◌+◌, length, ap, sym, Some, None}
use Rattle.voy_disk.specs.Files.{bytes_now}
use Rattle.voy_files.specs.Reader.{found_line, unread}
use Rattle.voy_queue.proofs.FoundLemmas.{first_splits, left_behind_line}
use Rattle.voy_queue.specs.Names.{segment_name}
use Rattle.voy_queue.proofs.SegmentLemmas.{due_goes_on, due_vsn, not_due_damages, same_events, tells_damage}
use Rattle.voy_meta.specs.declared.state.SegmentState.{SegmentState}
use Rattle.voy_queue.specs.Reading.{due_event}
use Rattle.voy_queue.proofs.segment.OpenSegment.take_event.Goals as goal

-- the line is not the one that is due
pub returns-in_default-clause-damaged : goal.returns-in_default-clause-damaged
returns-in_default-clause-damaged g c fs told behind =
    let old = c.args.self.now in
    let schema = c.args.schema.now.tables in
    let line = found_line c.find_line.new.self.lines in
    let none : due_event schema old.state (old.state.last_vsn - (old.state.last_vsn - c.args.vsn)) line ≡ None =
    ap (λ vsn. due_event schema old.state vsn line) (due_vsn old.state.last_vsn c.args.vsn c.requires.due)
    ∙ ap (λ (state : SegmentState). due_event schema state c.args.vsn line) (sym c.in_ok-find_line.ensures.state) ∙ sym c.in_ok-event.ensures ∙ c.in_default.is in
    tells_damage c.damaged-in_default.result _ old.number old.offset _ _ c.damaged-in_default.ensures c.in_ok-find_line.ensures.number c.in_ok-find_line.ensures.offset
    (not_due_damages schema old.number old.state (old.state.last_vsn - c.args.vsn) old.offset (unread old.lines fs) line (unread c.find_line.new.self.lines fs) behind
    (c.in_ok-find_line.ensures.found c.if-not-branch.false fs told) none)

pub returns-clause-some : goal.returns-clause-some
returns-clause-some g c fs told behind =
    let old = c.args.self.now in
    let schema = c.args.schema.now.tables in
    let line = found_line c.find_line.new.self.lines in
    let due : due_event schema old.state (old.state.last_vsn - (old.state.last_vsn - c.args.vsn)) line ≡ Some c.in-Some.event =
    ap (λ vsn. due_event schema old.state vsn line) (due_vsn old.state.last_vsn c.args.vsn c.requires.due)
    ∙ ap (λ (state : SegmentState). due_event schema state c.args.vsn line) (sym c.in_ok-find_line.ensures.state) ∙ sym c.in_ok-event.ensures ∙ c.in-Some.is in
    due_goes_on schema old.number old.state (old.state.last_vsn - c.args.vsn) old.offset (unread old.lines fs) line (unread c.find_line.new.self.lines fs) behind c.in-Some.event
    (c.in_ok-find_line.ensures.found c.if-not-branch.false fs told) due
    ∙ same_events schema (old.state.last_vsn - c.args.vsn) behind c.in-Some.event old.number _ old.state _ (old.offset + (length line + 1)) _ (unread c.find_line.new.self.lines fs) _
    (c.pass_line.ensures.number ∙ c.in_ok-find_line.ensures.number) (c.pass_line.ensures.state ∙ c.in_ok-find_line.ensures.state)
    (c.pass_line.ensures.offset ∙ ap (λ offset. offset + (length line + 1)) c.in_ok-find_line.ensures.offset)
    (ap (λ lines. unread lines fs) c.pass_line.ensures.lines)

-- what is left is the committed bytes behind the line
pub returns-clause-over : goal.returns-clause-over
returns-clause-over g c fs told over =
    let old = c.args.self.now in
    let new = c.pass_line.new.self in
    let line = found_line c.find_line.new.self.lines in
    let split = first_splits (unread old.lines fs) line (unread c.find_line.new.self.lines fs) (c.in_ok-find_line.ensures.found c.if-not-branch.false fs told) in
    let committed = take old.state.bytes (bytes_now (fs (segment_name old.number))) in
    let number = c.pass_line.ensures.number ∙ c.in_ok-find_line.ensures.number in
    let state = c.pass_line.ensures.state ∙ c.in_ok-find_line.ensures.state in
    let offset = c.pass_line.ensures.offset ∙ ap (λ offset. offset + (length line + 1)) c.in_ok-find_line.ensures.offset in
    ap (λ lines. unread lines fs) c.pass_line.ensures.lines
    ∙ sym (left_behind_line committed line (unread c.find_line.new.self.lines fs) old.offset (sym over ∙ split))
    ∙ ap (λ at. drop at committed) (sym offset)
    ∙ ap (λ (s : SegmentState). drop new.offset (take s.bytes (bytes_now (fs (segment_name old.number))))) (sym state)
    ∙ ap (λ n. drop new.offset (take new.state.bytes (bytes_now (fs (segment_name n))))) (sym number)
