-- An epoch up to which all is applied changes nothing.
use Rattle.std.specs.Prelude.{◌≡◌, ◌≤◌, ◌<◌, Bool, true, false, nat_le, refl}
use Rattle.std.specs.List.{Contains}
use Rattle.std.proofs.Common.{ap, arith, leb-false, leb-true, sym, ◌∙◌}
use Rattle.std.proofs.lemmas.Bool.{false_from_ne_true}
use Rattle.voy_order.proofs.ListLemmas.{filter_like}
use Rattle.voy_order.proofs.MarkLemmas.{applied_below}
use Rattle.voy_order.proofs.PendingLemmas.{channel_low}
use Rattle.voy_order.specs.ChangeEvents.{ChangeEvent}
use Rattle.voy_order.specs.Laws.{EpochsChangeNothing, epoch_mark}
use Rattle.voy_order.specs.Marks.{channel_in, is_applied, row_left}

pub epochs_change_none : EpochsChangeNothing
epochs_change_none schema part mark vsn channels some low done = record {
  applied = applied;
  same = λ tables id. ap (row_left id (tables id)) (filter_like (is_applied schema (epoch_mark vsn channels)) (is_applied schema mark) part applied);
  closed = λ closed f g f_in g_in is holds. applied g g_in ∙ closed f g f_in g_in (sym (applied f f_in) ∙ is) holds;
}
  where
    by : (e : ChangeEvent) → Contains part e → (b : Bool) → nat_le e.vsn vsn ≡ b → nat_le e.vsn vsn ≡ is_applied schema mark e
    by e at true is = is ∙ sym (done e at (leb-true e.vsn vsn is))
    by e at false is = is ∙ sym (false_from_ne_true (is_applied schema mark e) (λ on.
        let above : vsn < e.vsn = leb-false e.vsn vsn is in
        let below : e.vsn ≤ mark.vsn_of (channel_in schema mark e) = applied_below schema mark e on in
        let within : mark.vsn_of (channel_in schema mark e) ≤ vsn = low (channel_in schema mark e) (channel_low schema mark.channels e.change.row some) in
        omega arith))

    applied : (e : ChangeEvent) → Contains part e → is_applied schema (epoch_mark vsn channels) e ≡ is_applied schema mark e
    applied e at = by e at (nat_le e.vsn vsn) refl
