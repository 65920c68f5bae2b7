use Rattle.std.proofs.Common.{arith, inl, subst, sym, ap, ◌∙◌, List, ℕ, length}
use Rattle.std.proofs.lemmas.Result.{IfErr-weaker, IfOk-weaker}
use Rattle.voy_disk.specs.Files.{bytes_now}
use Rattle.voy_journal.specs.Grammar.{DamagedAt, Holds}
use Rattle.voy_journal.proofs.ExactBytes.{few_as_before, on_ok_always, opens_anew, opens_as_it_was, reads_as_before}
use Rattle.voy_journal.proofs.Settling.{remade, settled_to, stands_anew}
use Rattle.voy_disk.specs.ChangeLaws.{at_old, others_on}
use Rattle.voy_journal.proofs.opening.settle_and_read.Goals as goal

pub returns-in_err-write_safely-clause-images : goal.returns-in_err-write_safely-clause-images
returns-in_err-write_safely-clause-images g c =
    remade c.args.name.now c.in_ok-end.end _ _ _ c.in_ok-end.ensures.images
    (settled_to c.args.name.now c.in_ok-end.end _ _ c.in_ok-end.ensures.settles c.in_ok-end.ensures.length) (omega arith) c.in_err-write_safely.ensures.images

pub returns-in_err-write_safely-clause-others : goal.returns-in_err-write_safely-clause-others
returns-in_err-write_safely-clause-others g c = others_on c.in_ok-end.ensures.others c.in_err-write_safely.ensures.others

pub returns-then-end-le1-clause-stands : goal.returns-then-end-le1-clause-stands
returns-then-end-le1-clause-stands g c =
    rw c.new.ensures (stands_anew c.args.name.now c.in_ok-end.end _ _
    (settled_to c.args.name.now c.in_ok-end.end _ _ c.in_ok-end.ensures.settles c.in_ok-end.ensures.length) c.in_ok-write_safely.ensures.rewrites)

pub returns-then-end-le1-clause-images : goal.returns-then-end-le1-clause-images
returns-then-end-le1-clause-images g c =
    remade c.args.name.now c.in_ok-end.end _ _ _ c.in_ok-end.ensures.images
    (settled_to c.args.name.now c.in_ok-end.end _ _ c.in_ok-end.ensures.settles c.in_ok-end.ensures.length) (omega arith) c.in_ok-write_safely.ensures.images

pub returns-then-end-le1-clause-others : goal.returns-then-end-le1-clause-others
returns-then-end-le1-clause-others g c = others_on c.in_ok-end.ensures.others c.in_ok-write_safely.ensures.others

pub returns-clause-payloads : goal.returns-clause-payloads
returns-clause-payloads g c = IfOk-weaker c.read_payloads.result _ _ (λ found reads fs is.
    let mid = at_old c.in_ok-end.ensures.settles fs is in
    let same = ap bytes_now mid.2 in
    let held = reads mid.0 mid.1 (ap length same ∙ sym (c.in_ok-end.ensures.length fs is)) c.if-end-le1.false in
    inl (subst (λ (bytes : List ℕ). Holds found.payloads bytes) same held.holds)) c.read_payloads.ensures.found

pub returns-clause-stands : goal.returns-clause-stands
returns-clause-stands g c = IfOk-weaker c.read_payloads.result _ _ (λ found reads fs is.
    let at_mid = sym c.read_payloads.ensures.same ∙ is in
    let file = settled_to c.args.name.now c.in_ok-end.end _ _ c.in_ok-end.ensures.settles c.in_ok-end.ensures.length fs at_mid in
    let same = ap bytes_now file.is in
    let held = reads fs at_mid (ap length same ∙ file.size) c.if-end-le1.false in
    record {
      bytes = file.bytes;
      file = file.is;
      holds = subst (λ (bytes : List ℕ). Holds found.payloads bytes) same held.holds;
      at = held.at;
    }) c.read_payloads.ensures.found

pub returns-clause-damaged : goal.returns-clause-damaged
returns-clause-damaged g c = IfErr-weaker c.read_payloads.result _ _ (λ error reads offset damaged fs is.
    let mid = at_old c.in_ok-end.ensures.settles fs is in
    let same = ap bytes_now mid.2 in
    subst (λ (bytes : List ℕ). DamagedAt offset bytes) same
    (reads offset damaged mid.0 mid.1 (ap length same ∙ sym (c.in_ok-end.ensures.length fs is)) c.if-end-le1.false)) c.read_payloads.ensures.damaged

pub returns-in_err-end-clause-bytes : goal.returns-in_err-end-clause-bytes
returns-in_err-end-clause-bytes g c = reads_as_before c.args.name.now c.in_err-end.ensures.reads

pub returns-in_err-write_safely-clause-bytes : goal.returns-in_err-write_safely-clause-bytes
returns-in_err-write_safely-clause-bytes g c =
    few_as_before c.args.name.now c.in_ok-end.end _ _ (others_on c.in_ok-end.ensures.others c.in_err-write_safely.ensures.others) c.in_ok-end.ensures.length (omega arith)

pub returns-then-end-le1-clause-bytes : goal.returns-then-end-le1-clause-bytes
returns-then-end-le1-clause-bytes g c =
    few_as_before c.args.name.now c.in_ok-end.end _ _ (others_on c.in_ok-end.ensures.others c.in_ok-write_safely.ensures.others) c.in_ok-end.ensures.length (omega arith)

pub returns-then-end-le1-clause-exact : goal.returns-then-end-le1-clause-exact
returns-then-end-le1-clause-exact g c =
    opens_anew c.args.name.now c.in_ok-end.end _ _ _ c.in_ok-end.ensures.settles c.in_ok-end.ensures.length (omega arith) c.in_ok-write_safely.ensures.rewrites

pub returns-clause-bytes : goal.returns-clause-bytes
returns-clause-bytes g c = rw c.read_payloads.ensures.same (reads_as_before c.args.name.now c.in_ok-end.ensures.reads)

pub returns-clause-exact : goal.returns-clause-exact
returns-clause-exact g c = on_ok_always c.read_payloads.result
    (opens_as_it_was c.args.name.now c.in_ok-end.end _ _ _ c.in_ok-end.ensures.settles c.in_ok-end.ensures.length c.if-end-le1.false c.read_payloads.ensures.same)
