use Rattle.std.proofs.Common.{arith, ◌≡◌, ◌∙◌, ap, sym, [], length, refl}
use Rattle.voy_files.specs.Reader.{found_line, line_limit, unread}
use Rattle.voy_files.proofs.Finding.{finds_with, long_line}
use Rattle.voy_files.proofs.Reading.{still_read, reads_to_feed, reads_on, fewer_left}
use Rattle.voy_files.proofs.Standing.{no_feed, stands_behind, stands_last, stands_on, still_stands}
use Rattle.voy_files.proofs.line_reader.LineReader.next.Goals as goal

pub returns-then-branch-clause-found : goal.returns-then-branch-clause-found
returns-then-branch-clause-found g c =
    let first = c.args.self.now in
    let was = c.loop-self.self in
    let reader = c.is_at_end.new.self in
    (λ fs is.
    let at_loop = c.loop-self.invariant.same ∙ is in
    let so_far = c.loop-self.invariant.so_far fs is in
    let left = c.in_ok-is_at_end.ensures.left fs at_loop in
    let kept = c.in_ok-is_at_end.ensures.unread fs at_loop in
    let none : unread was fs ≡ [] = left.0 c.if-branch.true in
    finds_with c.last_found.result (line_limit reader) (line_limit first) (found_line reader) (unread first fs) [] (unread reader fs)
    (sym (c.in_ok-is_at_end.ensures.limit ∙ c.loop-self.invariant.limit)) (kept ∙ none)
    (c.last_found.ensures.finds (unread first fs)
    (still_read (unread first fs) (found_line was) (found_line reader) (unread was fs) [] c.in_ok-is_at_end.ensures.line (sym none) so_far)))

pub returns-then-branch-2-clause-found : goal.returns-then-branch-2-clause-found
returns-then-branch-2-clause-found g c =
    let first = c.args.self.now in
    let was = c.loop-self.self in
    let reader = c.is_at_end.new.self in
    let after = c.take_piece.new.self in
    (λ fs is.
    let at_loop = c.loop-self.invariant.same ∙ is in
    let so_far = c.loop-self.invariant.so_far fs is in
    let kept = c.in_ok-is_at_end.ensures.unread fs at_loop in
    let begun = still_read (unread first fs) (found_line was) (found_line reader) (unread was fs) (unread reader fs)
    c.in_ok-is_at_end.ensures.line kept so_far in
    let read = reads_to_feed fs (unread first fs) c.in_ok-take_piece.field-0 reader after begun
    c.in_ok-take_piece.ensures.took c.in_ok-take_piece.ensures.file c.if-branch-2.true in
    finds_with c.whole_found.result (line_limit after) (line_limit first) (found_line after) (unread first fs) (unread after fs) (unread after fs)
    (sym (c.in_ok-take_piece.ensures.file.limit ∙ c.in_ok-is_at_end.ensures.limit ∙ c.loop-self.invariant.limit)) refl
    (c.whole_found.ensures.finds (unread first fs) (unread after fs) read))

pub returns-then-branch-clause-stands : goal.returns-then-branch-clause-stands
returns-then-branch-clause-stands g c =
    let was = c.loop-self.self in
    let reader = c.is_at_end.new.self in
    λ line offset stands.
    stands_last reader (c.in_ok-is_at_end.ensures.ended ∙ c.loop-self.invariant.ended) offset
    (still_stands was reader c.in_ok-is_at_end.ensures.line offset (c.in_ok-is_at_end.ensures.stands _ (c.loop-self.invariant.stands offset stands)))

pub returns-then-branch-clause-stays : goal.returns-then-branch-clause-stays
returns-then-branch-clause-stays g c =
    let was = c.loop-self.self in
    let reader = c.is_at_end.new.self in
    λ end offset stands.
    omega (arith, c.last_found.ensures.none end, still_stands was reader c.in_ok-is_at_end.ensures.line offset (c.in_ok-is_at_end.ensures.stands _ (c.loop-self.invariant.stands offset stands)))

pub returns-then-branch-2-clause-stands : goal.returns-then-branch-2-clause-stands
returns-then-branch-2-clause-stands g c =
    let was = c.loop-self.self in
    let reader = c.is_at_end.new.self in
    let after = c.take_piece.new.self in
    λ line offset stands.
    stands_behind c.in_ok-take_piece.field-0 reader after c.in_ok-take_piece.ensures.took c.in_ok-take_piece.ensures.file c.if-branch-2.true offset
    (still_stands was reader c.in_ok-is_at_end.ensures.line offset (c.in_ok-is_at_end.ensures.stands _ (c.loop-self.invariant.stands offset stands)))

pub returns-then-branch-2-clause-stays : goal.returns-then-branch-2-clause-stays
returns-then-branch-2-clause-stays g c = λ end. absurd (c.whole_found.ensures.some end)

pub returns-clause-found : goal.returns-clause-found
returns-clause-found g c =
    let first = c.args.self.now in
    let was = c.loop-self.self in
    (λ fs is.
    let so_far = c.loop-self.invariant.so_far fs is in
    long_line (line_limit first) (unread first fs) (found_line was) (unread was fs) so_far (omega (arith, was.line.ok.0)))

pub loop-self-init : goal.loop-self-init
loop-self-init g c = record {
  so_far = (λ fs is.
      still_read (unread c.args.self.now fs) [] c.clear.new.self.items (unread c.args.self.now fs) (unread c.args.self.now fs)
      c.clear.ensures.items refl (record { split = refl; one = refl }));
  same = refl;
  fewer = omega (arith, ap length c.clear.ensures.items);
  stands = λ offset stands. omega (arith, stands, ap length c.clear.ensures.items);
  ended = refl;
  limit = refl;
  later = omega arith;
  lender = refl;
}

pub loop-self-preserved : goal.loop-self-preserved
loop-self-preserved g c =
    let first = c.args.self.now in
    let was = c.loop-self.self in
    let reader = c.is_at_end.new.self in
    let after = c.take_piece.new.self in
    record {
      so_far = (λ fs is.
          let at_loop = c.loop-self.invariant.same ∙ is in
          let so_far = c.loop-self.invariant.so_far fs is in
          let kept = c.in_ok-is_at_end.ensures.unread fs at_loop in
          let begun = still_read (unread first fs) (found_line was) (found_line reader) (unread was fs) (unread reader fs)
          c.in_ok-is_at_end.ensures.line kept so_far in
          reads_on fs (unread first fs) c.in_ok-take_piece.field-0 reader after begun
          c.in_ok-take_piece.ensures.took c.in_ok-take_piece.ensures.file c.if-branch-2.false);
      same = c.in_ok-is_at_end.ensures.same ∙ c.loop-self.invariant.same;
      fewer = omega (
        arith,
        c.loop-self.invariant.fewer,
        c.in_ok-is_at_end.ensures.fewer,
        ap length c.in_ok-is_at_end.ensures.line,
        fewer_left c.in_ok-take_piece.field-0 reader after c.in_ok-take_piece.ensures.took c.in_ok-take_piece.ensures.file c.if-branch-2.false,
      );
      stands = λ offset stands.
          stands_on c.in_ok-take_piece.field-0 reader after c.in_ok-take_piece.ensures.took c.in_ok-take_piece.ensures.file c.if-branch-2.false offset
          (still_stands was reader c.in_ok-is_at_end.ensures.line offset (c.in_ok-is_at_end.ensures.stands _ (c.loop-self.invariant.stands offset stands)));
      ended = no_feed c.in_ok-take_piece.field-0 reader after c.in_ok-take_piece.ensures.took c.in_ok-take_piece.ensures.file c.if-branch-2.false (c.in_ok-is_at_end.ensures.ended ∙ c.loop-self.invariant.ended);
      limit = c.in_ok-take_piece.ensures.file.limit ∙ c.in_ok-is_at_end.ensures.limit ∙ c.loop-self.invariant.limit;
      later = omega (arith, c.in_ok-is_at_end.ensures.cause.later);
      lender = c.in_ok-is_at_end.ensures.lender ∙ c.loop-self.invariant.lender;
    }
