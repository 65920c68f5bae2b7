use Rattle.std.proofs.Common.{◌≡◌, ◌∙◌, ◌+◌, ap, refl, subst, sym, Some}
use Rattle.voy_disk.specs.Files.{Files}
use Rattle.voy_feed.proofs.FeedLemmas.{GoesBehind, change_behind, stands_behind}
use Rattle.voy_files.specs.Reader.{StandsAt, bytes_taken, found_line, has_line_feed, unread}
use Rattle.voy_feed.proofs.feed.Feed.next.Given as given
use Rattle.voy_feed.proofs.feed.Feed.next.Goals as goal

pub pass-requires-clause-place : goal.pass-requires-clause-place
pass-requires-clause-place g c =
    subst (λ at. StandsAt c.next.new.self (at + bytes_taken (has_line_feed c.next.new.self) (found_line c.next.new.self))) (sym c.take_lines.ensures.at)
    (c.in_ok-next.ensures.stands c.in-Line.is c.args.self.now.at c.in_ok-lines.ensures.place)

goes_behind : (g : given.Over) (c : goal.After-pass g) (fs : Files) → g.D.Disk.files c.args.disk.now ≡ Some fs
    → GoesBehind c.args.self.now c.pass.new.self fs (has_line_feed c.next.new.self) (found_line c.next.new.self)
    (unread c.in_ok-lines.lines fs) (unread c.next.new.self fs)
goes_behind g c fs told =
    let found = rw c.in-Line.is at c.in_ok-next.ensures.found in
    record {
      stands = c.requires.stands fs told;
      begins = c.in_ok-lines.ensures.unread fs (c.requires.stands fs told);
      lines = (found fs told).0;
      takes = c.in_ok-next.ensures.takes c.in-Line.is fs told;
      name = c.pass.ensures.name ∙ c.take_lines.ensures.name;
      at = c.pass.ensures.at ∙ ap (λ at. at + bytes_taken (has_line_feed c.next.new.self) (found_line c.next.new.self)) c.take_lines.ensures.at;
      end = c.pass.ensures.end ∙ c.take_lines.ensures.end;
      given = (rw c.take_lines.ensures.given at c.pass.ensures.given);
    }

pub returns-in-Ok-clause-some : goal.returns-in-Ok-clause-some
returns-in-Ok-clause-some g c fs told =
    change_behind _ _ _ _ _ _ _ (goes_behind g c fs told) c.args.schema.now.tables c.in-Ok.recorded (rw c.line.ensures at c.in-Ok.ensures.ok)

pub returns-in-Ok-clause-stands : goal.returns-in-Ok-clause-stands
returns-in-Ok-clause-stands g c fs told =
    stands_behind _ _ _ _ _ _ _ (goes_behind g c fs (sym c.in_ok-next.ensures.same ∙ told)) c.next.new.self c.pass.ensures.lines refl
