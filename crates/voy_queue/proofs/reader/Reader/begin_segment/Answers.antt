use Rattle.std.proofs.Common.{◌∙◌, ap, sym}
use Rattle.std.specs.Prelude.{take}
use Rattle.voy_disk.specs.Files.{bytes_now}
use Rattle.voy_files.specs.Reader.{unread}
use Rattle.voy_queue.proofs.ReaderLemmas.{begun_left, nothing_behind}
use Rattle.voy_queue.specs.Reader.{files_content, left_in}
use Rattle.voy_queue.proofs.reader.Reader.begin_segment.Goals as goal

-- there is no further segment
pub returns-in_default-clause-none : goal.returns-in_default-clause-none
returns-in_default-clause-none c never schema fs =
    let old = c.args.self.now in
    ap (left_in schema old fs) c.requires ∙ nothing_behind schema (files_content fs) old.next old.vsn old.segments (sym c.in_default.ensures.value)

pub returns-clause-left : goal.returns-clause-left
returns-clause-left c schema fs =
    let old = c.args.self.now in
    let bytes = c.new.ensures.lines fs ∙ ap (λ name. take c.in-Some.state.now.bytes (bytes_now (fs name))) c.in_ok-name.ensures in
    begun_left schema (files_content fs) old.next old.vsn old.segments c.in-Some.state.now (sym c.in-Some.ensures.value)
    c.new.result.number c.new.result.state c.new.result.offset (unread c.new.result.lines fs) c.new.ensures.number c.new.ensures.state c.new.ensures.offset bytes
    ∙ sym (ap (left_in schema old fs) c.requires)
