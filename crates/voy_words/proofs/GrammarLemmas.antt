-- Each grammar is a simple command, so that `clap` says which words it takes and which values they give.
use Rattle.std.proofs.Common.{◌≡◌, true, refl}
use Rattle.clap.specs.Simple.{is_simple}
use Rattle.clap.specs.Faults.{is_simple_and_free}
use Rattle.clap.proofs.OnLiterals.{clap_on_literals}
use Rattle.voy_words.specs.declared.phrase.Phrase.{Phrase}
use Rattle.voy_words.specs.declared.phrase.Phrase.TheVariants.{ExportFromSource, ExportFromTarget, ImportToTarget, ImportToSource, CutoverToTarget, CutoverToSource, LoadSource, CutoverStatus, Report, ShowTarget, ShowSource, Rehearse}
use Rattle.voy_words.specs.Grammar.{cutover_app, export_app, grammar_of, import_app, import_target_app, rehearse_app}

pub are_simple : (phrase : Phrase) → is_simple (grammar_of phrase) ≡ true
unfolding clap_on_literals export_app import_app import_target_app cutover_app rehearse_app
are_simple ExportFromSource = refl
are_simple ExportFromTarget = refl
are_simple ImportToTarget = refl
are_simple ImportToSource = refl
are_simple CutoverToTarget = refl
are_simple CutoverToSource = refl
are_simple LoadSource = refl
are_simple CutoverStatus = refl
are_simple Report = refl
are_simple ShowTarget = refl
are_simple ShowSource = refl
are_simple Rehearse = refl

pub are_free : (phrase : Phrase) → is_simple_and_free (grammar_of phrase) ≡ true
unfolding clap_on_literals export_app import_app import_target_app cutover_app rehearse_app
are_free ExportFromSource = refl
are_free ExportFromTarget = refl
are_free ImportToTarget = refl
are_free ImportToSource = refl
are_free CutoverToTarget = refl
are_free CutoverToSource = refl
are_free LoadSource = refl
are_free CutoverStatus = refl
are_free Report = refl
are_free ShowTarget = refl
are_free ShowSource = refl
are_free Rehearse = refl
