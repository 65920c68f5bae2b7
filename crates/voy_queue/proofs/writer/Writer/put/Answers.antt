use Rattle.std.proofs.Common.{◌≡◌, ◌∙◌, ap, subst, sym, [], ◌∷◌, ◌++◌}
use Rattle.voy_queue.proofs.PendingLemmas.{shut_after}
use Rattle.voy_queue.specs.Putting.{AreBehind, AreShut, end_after, end_of, pending_after}
use Rattle.voy_queue.specs.PuttingLaws.{are_behind_law, ends_with_put}
use Rattle.voy_queue.specs.declared.end.Added.{Added}
use Rattle.voy_queue.proofs.writer.Writer.put.Goals as goal

-- src/put.rt:42:9
pub invariant_of-self-2 : goal.invariant_of-self-2
invariant_of-self-2 c =
    let taken = c.take_open-added.new.self in
    let old = c.args.self.now in
    let schema = c.args.schema.now.tables in
    let put = pending_after schema taken.max_bytes old.end old.pending c.args.event.now c.args.spot in
    let now : c.push.new.self ≡ pending_after c.args.schema.now.tables c.take_open-added.new.self.max_bytes old.end old.pending c.args.event.now c.args.spot =
    c.in_ok-push.ensures.ok ∙ ap (λ (one : Added). c.take_open-added.new.self.pending ++ one ∷ []) c.in_ok-put.ensures.added
    ∙ c.take_open-added.ensures.put_back c.args.schema.now.tables c.take_open-added.new.self.max_bytes c.args.event.now c.args.spot in
    let stands = are_behind_law schema old.role taken.max_bytes old.end old.pending c.args.event.now c.args.spot taken.size old.room old.behind (c.requires.may.follows c.in_ok-put.ensures.short) in
    record {
      behind = subst (λ pending. AreBehind taken.end pending) (sym now) (subst (λ end. AreBehind end put) (sym c.take_open-added.ensures.end) stands);
      shut = subst AreShut (sym now) (shut_after schema taken.max_bytes old.end old.pending c.args.event.now c.args.spot old.shut);
      size = taken.size;
      room = taken.room;
    }

pub returns-clause-next : goal.returns-clause-next
returns-clause-next c =
    let old = c.args.self.now in
    let now : c.push.new.self ≡ pending_after c.args.schema.now.tables c.take_open-added.new.self.max_bytes old.end old.pending c.args.event.now c.args.spot =
    c.in_ok-push.ensures.ok ∙ ap (λ (one : Added). c.take_open-added.new.self.pending ++ one ∷ []) c.in_ok-put.ensures.added
    ∙ c.take_open-added.ensures.put_back c.args.schema.now.tables c.take_open-added.new.self.max_bytes c.args.event.now c.args.spot in
    let size = c.take_open-added.ensures.size in
    ap (λ end. end_of end c.push.new.self) c.take_open-added.ensures.end ∙ ap (λ pending. end_of old.end pending) now
    ∙ ends_with_put c.args.schema.now.tables c.take_open-added.new.self.max_bytes old.end old.pending c.args.event.now c.args.spot
    ∙ ap (λ max_bytes. end_after c.args.schema.now.tables max_bytes (end_of old.end old.pending) c.args.event.now c.args.spot) size
