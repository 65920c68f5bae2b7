use Rattle.std.proofs.Common.{◌∙◌, sym, subst, refl, ◌+◌, rules}
use Rattle.voy_files.specs.Reader.{StandsAt, bytes_taken, found_line, line_limit, unread}
use Rattle.voy_queue.proofs.FoundLemmas.{not_a_line, torn_line, whole_line}
use Rattle.voy_queue.proofs.segment.OpenSegment.find_line.Goals as goal

pub returns-in-Line-clause-found : goal.returns-in-Line-clause-found
returns-in-Line-clause-found g c fed fs told =
    whole_line c.in_ok-next.field-0 _ (line_limit c.args.self.now.lines) (found_line c.next.new.self) (unread c.args.self.now.lines fs) (unread c.next.new.self fs)
    c.in-Line.is (sym c.has_line_feed.ensures ∙ fed) (c.in_ok-next.ensures.found fs told) (c.in_ok-next.ensures.takes c.in-Line.is fs told)

pub returns-in-Line-clause-none : goal.returns-in-Line-clause-none
returns-in-Line-clause-none g c torn fs told =
    torn_line c.in_ok-next.field-0 _ (line_limit c.args.self.now.lines) (found_line c.next.new.self) (unread c.args.self.now.lines fs) (unread c.next.new.self fs)
    c.in-Line.is (sym c.has_line_feed.ensures ∙ torn) (c.in_ok-next.ensures.found fs told) (c.in_ok-next.ensures.takes c.in-Line.is fs told)

pub returns-in-Line-clause-behind : goal.returns-in-Line-clause-behind
returns-in-Line-clause-behind g c fed =
    subst (λ feed. StandsAt c.next.new.self (c.args.self.now.offset + bytes_taken feed (found_line c.next.new.self))) (sym c.has_line_feed.ensures ∙ fed)
    (c.in_ok-next.ensures.stands c.in-Line.is c.args.self.now.offset c.requires.stands.stands)

-- no line is found where one is too long, or nothing is left
pub returns-in-TooLong : goal.returns-in-TooLong
returns-in-TooLong g c = record {
  found = λ never. cc;
  none = λ _ fs told. not_a_line c.in_ok-next.field-0 (line_limit c.args.self.now.lines) (found_line c.next.new.self) (unread c.args.self.now.lines fs) (unread c.next.new.self fs)
      c.in-TooLong.is c.requires.stands.limit (c.in_ok-next.ensures.found fs told);
  behind = λ never. cc;
  tells = tt;
  limit = c.in_ok-next.ensures.limit;
  number = refl;
  state = refl;
  offset = refl;
  same = c.in_ok-next.ensures.same;
  cause = search rules;
  lender = c.in_ok-next.ensures.lender;
}
