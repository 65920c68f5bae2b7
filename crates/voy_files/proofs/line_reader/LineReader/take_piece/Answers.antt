use Rattle.std.proofs.Common.{arith, refl, ◌≡◌, ◌+◌, ◌++◌, ◌∷◌, ap, sym, ◌∙◌, take, drop, length}
use Rattle.std.proofs.lemmas.List.{drop_all}
use Rattle.voy_files.specs.Bytes.{held}
use Rattle.voy_files.proofs.Feeds.{splits_at, one_line}
use Rattle.voy_files.proofs.line_reader.LineReader.take_piece.Goals as goal

pub returns-in_ok-extend_from_slice-in-Some-clause-took : goal.returns-in_ok-extend_from_slice-in-Some-clause-took
returns-in_ok-extend_from_slice-in-Some-clause-took c =
    let given = c.held-held.result.now in
    let k = c.in-Some.k in
    let same : given ≡ held c.args.self.now.bytes = c.held-held.ensures in
    let parts = splits_at given k (sym c.in-Some.ensures) in
    record {
      bytes = take k given;
      one = parts.one;
      line = c.in_ok-extend_from_slice-in-Some.ensures.items;
      feed = refl;
      rest = sym same ∙ parts.is ∙ ap (λ rest. take k given ++ (10 ∷ rest)) (ap (drop (k + 1)) same ∙ sym c.skip.ensures.held);
    }

pub returns-in_ok-extend_from_slice-in-None-clause-took : goal.returns-in_ok-extend_from_slice-in-None-clause-took
returns-in_ok-extend_from_slice-in-None-clause-took c =
    let given = c.held-held.result.now in
    let same : given ≡ held c.args.self.now.bytes = c.held-held.ensures in
    record {
      bytes = given;
      one = one_line given (sym c.in-None.ensures);
      line = c.in_ok-extend_from_slice-in-None.ensures.items;
      feed = refl;
      rest = (
        sym same,
        c.skip-in-None.ensures.held ∙ drop_all (length given) (held c.args.self.now.bytes) (omega (arith, ap length same)),
        omega (arith, ap length same),
      );
    }
