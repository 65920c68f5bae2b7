-- Which events are applied at a mark, and at a closed mark that with each event all are applied that have to come before it.
use Rattle.std.specs.Prelude.{◌≡◌, ◌≤◌, ◌<◌, Bool, true, false, List, [], ◌∷◌, refl}
use Rattle.std.specs.List.{Contains}
use Rattle.std.proofs.Common.{ap, arith, le-leb, leb-false, leb-true, sym, ⊎_elim, ◌∙◌}
use Rattle.voy_schema.specs.declared.table.Table.{Table}
use Rattle.voy_txn.specs.History.{Mark}
use Rattle.voy_order.proofs.CleanLemmas.{AllCarry, IsTied, part_clean}
use Rattle.voy_order.proofs.EventLemmas.{ascend_first}
use Rattle.voy_order.proofs.ListLemmas.{contains_first, contains_later}
use Rattle.voy_order.specs.ChangeEvents.{ChangeEvent, VsnsAscend}
use Rattle.voy_order.specs.Channels.{channel_of}
use Rattle.voy_order.specs.Conflicts.{HandsOver}
use Rattle.voy_order.specs.Laws.{ClosedMarksAreClean}
use Rattle.voy_order.specs.Marks.{IsClosed, channel_in, is_applied}

module _ (schema : List Table) (mark : Mark) where
  -- events of one row have one channel
  pub one_channel : (g f : ChangeEvent) → g.change.row ≡ f.change.row → channel_in schema mark g ≡ channel_in schema mark f
  one_channel g f same = ap (channel_of schema mark.channels) same

  -- an event is applied exactly where the mark of its channel has its vsn
  pub applied_below : (e : ChangeEvent) → is_applied schema mark e ≡ true → e.vsn ≤ mark.vsn_of (channel_in schema mark e)
  applied_below e is = leb-true e.vsn (mark.vsn_of (channel_in schema mark e)) is

  pub pending_above : (e : ChangeEvent) → is_applied schema mark e ≡ false → mark.vsn_of (channel_in schema mark e) < e.vsn
  pending_above e is = leb-false e.vsn (mark.vsn_of (channel_in schema mark e)) is

  -- with an event each earlier one of its channel is applied
  pub earlier_applied : (g f : ChangeEvent) → channel_in schema mark g ≡ channel_in schema mark f → g.vsn ≤ f.vsn
      → is_applied schema mark f ≡ true → is_applied schema mark g ≡ true
  earlier_applied g f same low is =
      let top : mark.vsn_of (channel_in schema mark g) ≡ mark.vsn_of (channel_in schema mark f) = ap mark.vsn_of same in
      let below : f.vsn ≤ mark.vsn_of (channel_in schema mark f) = applied_below f is in
      le-leb g.vsn (mark.vsn_of (channel_in schema mark g)) (omega arith)

  -- with a pending event each later one of its channel is pending
  pub later_pending : (g f : ChangeEvent) → channel_in schema mark g ≡ channel_in schema mark f → f.vsn ≤ g.vsn
      → is_applied schema mark f ≡ false → is_applied schema mark g ≡ false
  later_pending g f same high is = by (is_applied schema mark g) refl
    where
      by : (b : Bool) → is_applied schema mark g ≡ b → is_applied schema mark g ≡ false
      by true on = absurd (let both : true ≡ false = sym (earlier_applied f g (sym same) high on) ∙ is in cc)
      by false off = off

  module _ (part : List ChangeEvent) (closed : IsClosed schema mark part) where
    -- where an event is applied, each earlier one is that has to come before it
    pub carries : (g f : ChangeEvent) → Contains part g → Contains part f → g.vsn < f.vsn → is_applied schema mark f ≡ true → IsTied schema g f
        → is_applied schema mark g ≡ true
    carries g f g_in f_in before is tied = ⊎_elim
        (λ (same : g.change.row ≡ f.change.row). earlier_applied g f (one_channel g f same) (omega arith) is)
        (λ (hands : HandsOver schema g.change f.change). closed f g f_in g_in is (record { before = before; hands = hands }))
        tied

    carry_in : (events : List ChangeEvent) → VsnsAscend events → ((e : ChangeEvent) → Contains events e → Contains part e)
        → AllCarry schema (is_applied schema mark) events
    carry_in [] up within = tt
    carry_in (g ∷ events) up within = (
      λ f at is tied. carries g f (within g (contains_first g events)) (within f (contains_later g f events at)) (ascend_first g events up f at) is tied,
      carry_in events up.1 (λ e at. within e (contains_later g e events at)),
    )

    -- at a closed mark each applied event carries what has to come before it
    pub carry : VsnsAscend part → AllCarry schema (is_applied schema mark) part
    carry up = carry_in part up (λ e at. at)

-- the tables at a closed mark are clean
pub closed_is_clean : ClosedMarksAreClean
closed_is_clean schema tables part mark up valid closed =
    part_clean schema (is_applied schema mark) tables part valid.clean valid.fit (carry schema mark part closed up)
