-- A mark raised by the next event of its channel: which events it has applied, and what is left of the channel.
use Rattle.std.specs.Prelude.{◌≡◌, ◌≢◌, ◌⊎◌, ◌<◌, ℕ, Bool, true, false, cond, List, ◌∷◌, ◌++◌, ◌&&◌, ◌==◌, nat_le, not, if◌then◌else◌, refl}
use Rattle.std.specs.List.{Contains, filter}
use Rattle.std.proofs.Common.{ap, arith, inl, inr, le-leb, le_of_lt, sym, subst, ⊎_elim, ◌∙◌}
use Rattle.std.proofs.lemmas.Bool.{and_from, and_left, and_parts, and_right, eq-eqb, lt-leb, ne_eqb, not-true, not_from_false, not_from_true, true_from_ne_false}
use Rattle.std.proofs.lemmas.Bool.Decides.{Decides-eqb}
use Rattle.std.proofs.lemmas.List.Elements.{Contains-append_cases, Contains-append_right, filter-append}
use Rattle.voy_schema.specs.declared.table.Table.{Table}
use Rattle.voy_txn.specs.History.{Mark}
use Rattle.voy_order.proofs.EventLemmas.{ascend_apart, ascend_back, ascend_first}
use Rattle.voy_order.proofs.ListLemmas.{IsTold, Split, apart, contains_cases, contains_first, filter_like, filter_none, holds_or_not, split}
use Rattle.voy_order.proofs.MarkLemmas.{later_pending}
use Rattle.voy_order.proofs.MoveLemmas.{row_apart}
use Rattle.voy_order.specs.ChangeEvents.{ChangeEvent, VsnsAscend}
use Rattle.voy_order.specs.Marks.{channel_in, is_applied, lane, raised}

-- the part around the next event f of its channel: the events in front of it and behind it, with what is applied of them
pub record Raised (schema : List Table) (mark : Mark) (part : List ChangeEvent) (f : ChangeEvent) (rest : List ChangeEvent) : Type 0 where
  pub early : List ChangeEvent
  pub late : List ChangeEvent
  pub whole : part ≡ early ++ f ∷ late
  pub low : (e : ChangeEvent) → Contains early e → e.vsn < f.vsn
  pub high : (e : ChangeEvent) → Contains late e → f.vsn < e.vsn
  pub pending : is_applied schema mark f ≡ false
  pub applied : is_applied schema (raised schema mark f) f ≡ true
  pub early_applied : (e : ChangeEvent) → Contains early e → channel_in schema mark e ≡ channel_in schema mark f → is_applied schema mark e ≡ true
  pub late_pending : (e : ChangeEvent) → Contains late e → channel_in schema mark e ≡ channel_in schema mark f → is_applied schema mark e ≡ false
  pub early_same : (e : ChangeEvent) → Contains early e → is_applied schema (raised schema mark f) e ≡ is_applied schema mark e
  pub late_same : (e : ChangeEvent) → Contains late e → is_applied schema (raised schema mark f) e ≡ is_applied schema mark e
  pub rest_is : lane schema mark (channel_in schema mark f) late ≡ rest

module _ (schema : List Table) (mark : Mark) (f : ChangeEvent) where
  -- in the channel of f the raised mark has the vsn of f, and in each other channel the vsn that it had
  pub raised_here : (e : ChangeEvent) → channel_in schema mark e ≡ channel_in schema mark f → is_applied schema (raised schema mark f) e ≡ nat_le e.vsn f.vsn
  raised_here e same = ap (λ b. nat_le e.vsn (if b then f.vsn else mark.vsn_of (channel_in schema mark e)))
      (eq-eqb (channel_in schema mark e) (channel_in schema mark f) same)

  pub raised_there : (e : ChangeEvent) → channel_in schema mark e ≢ channel_in schema mark f
      → is_applied schema (raised schema mark f) e ≡ is_applied schema mark e
  raised_there e other = ap (λ b. nat_le e.vsn (if b then f.vsn else mark.vsn_of (channel_in schema mark e)))
      (ne_eqb (channel_in schema mark e) (channel_in schema mark f) other)

  -- two events are of one channel or not
  pub one_channel_or_not : (e : ChangeEvent) → (channel_in schema mark e ≡ channel_in schema mark f) ⊎ (channel_in schema mark e ≢ channel_in schema mark f)
  one_channel_or_not e = holds_or_not (channel_in schema mark e == channel_in schema mark f) (Decides-eqb (channel_in schema mark e) (channel_in schema mark f))

-- a test of the lane of a channel
abbrev pub is_pending_in : List Table → Mark → ℕ → ChangeEvent → Bool
is_pending_in schema mark channel e = (channel_in schema mark e == channel) && not (is_applied schema mark e)

-- the next event of its channel splits the part
pub raise : (schema : List Table) (mark : Mark) (part : List ChangeEvent) (f : ChangeEvent) (rest : List ChangeEvent) → VsnsAscend part
    → lane schema mark (channel_in schema mark f) part ≡ f ∷ rest → Raised schema mark part f rest
raise schema mark part f rest up next = record {
  early = s.early;
  late = s.late;
  whole = s.whole;
  low = low;
  high = high;
  pending = pending;
  applied = raised_here schema mark f f refl ∙ le-leb f.vsn f.vsn (omega arith);
  early_applied = early_applied;
  late_pending = late_pending;
  early_same = λ e at. ⊎_elim
      (λ same. raised_here schema mark f e same ∙ (let lt = low e at in le-leb e.vsn f.vsn (omega arith)) ∙ sym (early_applied e at same))
      (raised_there schema mark f e)
      (one_channel_or_not schema mark f e);
  late_same = λ e at. ⊎_elim
      (λ same. raised_here schema mark f e same ∙ above e (high e at) ∙ sym (late_pending e at same))
      (raised_there schema mark f e)
      (one_channel_or_not schema mark f e);
  rest_is = s.rest_is;
}
  where
    s : Split (is_pending_in schema mark (channel_in schema mark f)) part f rest
    s = split (is_pending_in schema mark (channel_in schema mark f)) part f rest next

    up_split : VsnsAscend (s.early ++ f ∷ s.late)
    up_split = subst VsnsAscend s.whole up

    low : (e : ChangeEvent) → Contains s.early e → e.vsn < f.vsn
    low e at = ascend_apart s.early (f ∷ s.late) up_split e f at (contains_first f s.late)

    high : (e : ChangeEvent) → Contains s.late e → f.vsn < e.vsn
    high e at = ascend_first f s.late (ascend_back s.early (f ∷ s.late) up_split) e at

    above : (e : ChangeEvent) → f.vsn < e.vsn → nat_le e.vsn f.vsn ≡ false
    above e lt = lt-leb e.vsn f.vsn lt

    pending : is_applied schema mark f ≡ false
    pending = not-true (is_applied schema mark f) (and_parts (channel_in schema mark f == channel_in schema mark f) (not (is_applied schema mark f)) s.passes).1

    early_applied : (e : ChangeEvent) → Contains s.early e → channel_in schema mark e ≡ channel_in schema mark f → is_applied schema mark e ≡ true
    early_applied e at same = true_from_ne_false (is_applied schema mark e) (λ off.
        row_apart (is_pending_in schema mark (channel_in schema mark f) e) (s.fails e at)
        (and_from (channel_in schema mark e == channel_in schema mark f) (not (is_applied schema mark e))
        (eq-eqb (channel_in schema mark e) (channel_in schema mark f) same) (not_from_false (is_applied schema mark e) off)))

    late_pending : (e : ChangeEvent) → Contains s.late e → channel_in schema mark e ≡ channel_in schema mark f → is_applied schema mark e ≡ false
    late_pending e at same = later_pending schema mark e f same (le_of_lt (high e at)) pending

-- in each other channel the same events are left
pub lane_other : (schema : List Table) (mark : Mark) (f : ChangeEvent) (channel : ℕ) (events : List ChangeEvent) → channel ≢ channel_in schema mark f
    → lane schema (raised schema mark f) channel events ≡ lane schema mark channel events
lane_other schema mark f channel events other =
    filter_like (is_pending_in schema (raised schema mark f) channel) (is_pending_in schema mark channel) events
    (λ e at. at_event e (apart (channel_in schema mark e == channel) (Decides-eqb (channel_in schema mark e) channel)))
  where
    at_event : (e : ChangeEvent) → IsTold (channel_in schema mark e == channel) (channel_in schema mark e ≡ channel)
        → is_pending_in schema (raised schema mark f) channel e ≡ is_pending_in schema mark channel e
    at_event e (inl h) = ap (λ b. (channel_in schema mark e == channel) && not b) (raised_there schema mark f e (λ same. other (sym h.1 ∙ same)))
    at_event e (inr h) = and_left (channel_in schema mark e == channel) (not (is_applied schema (raised schema mark f) e)) h.0
        ∙ sym (and_left (channel_in schema mark e == channel) (not (is_applied schema mark e)) h.0)

module _ (schema : List Table) (mark : Mark) (part : List ChangeEvent) (f : ChangeEvent) (rest : List ChangeEvent) (r : Raised schema mark part f rest) where
  -- the tests what is applied at the mark, and at the raised one, and what is left then of the channel
  abbrev was : ChangeEvent → Bool
  was = is_applied schema mark

  abbrev now : ChangeEvent → Bool
  now = is_applied schema (raised schema mark f)

  abbrev left : ChangeEvent → Bool
  left = is_pending_in schema (raised schema mark f) (channel_in schema mark f)

  -- an event of the part stands in front of f, is f, or stands behind it
  pub around : (e : ChangeEvent) → Contains part e → Contains r.early e ⊎ ((f ≡ e) ⊎ Contains r.late e)
  around e at = ⊎_elim inl (λ later. inr (contains_cases f e r.late later))
      (Contains-append_cases r.early (f ∷ r.late) e (subst (λ (p : List ChangeEvent). Contains p e) r.whole at))

  pub next_is_there : Contains part f
  next_is_there = subst (λ (p : List ChangeEvent). Contains p f) (sym r.whole) (Contains-append_right r.early (f ∷ r.late) f (contains_first f r.late))

  -- what was applied still is
  pub still_applied : (e : ChangeEvent) → Contains part e → is_applied schema mark e ≡ true → is_applied schema (raised schema mark f) e ≡ true
  still_applied e at is = by (around e at)
    where
      by : Contains r.early e ⊎ ((f ≡ e) ⊎ Contains r.late e) → is_applied schema (raised schema mark f) e ≡ true
      by (inl early) = r.early_same e early ∙ is
      by (inr (inl here)) = sym (ap (is_applied schema (raised schema mark f)) here) ∙ r.applied
      by (inr (inr late)) = r.late_same e late ∙ is

  -- what is applied now was, or is f
  pub was_applied : (e : ChangeEvent) → Contains part e → is_applied schema (raised schema mark f) e ≡ true → (is_applied schema mark e ≡ true) ⊎ (f ≡ e)
  was_applied e at is = by (around e at)
    where
      by : Contains r.early e ⊎ ((f ≡ e) ⊎ Contains r.late e) → (is_applied schema mark e ≡ true) ⊎ (f ≡ e)
      by (inl early) = inl (sym (r.early_same e early) ∙ is)
      by (inr (inl here)) = inr here
      by (inr (inr late)) = inl (sym (r.late_same e late) ∙ is)

  -- the events of the part that are applied, before and after
  pub applied_before : filter (is_applied schema mark) part ≡ filter (is_applied schema mark) r.early ++ filter (is_applied schema mark) r.late
  applied_before = ap (filter was) r.whole ∙ filter-append was r.early (f ∷ r.late)
      ∙ ap (λ b. filter was r.early ++ cond b (f ∷ filter was r.late) (filter was r.late)) r.pending

  pub applied_after : filter (is_applied schema (raised schema mark f)) part
      ≡ filter (is_applied schema mark) r.early ++ f ∷ filter (is_applied schema mark) r.late
  applied_after = ap (filter now) r.whole ∙ filter-append now r.early (f ∷ r.late)
      ∙ ap (λ b. filter now r.early ++ cond b (f ∷ filter now r.late) (filter now r.late)) r.applied
      ∙ ap (λ (xs : List ChangeEvent). xs ++ f ∷ filter now r.late) (filter_like now was r.early r.early_same)
      ∙ ap (λ (xs : List ChangeEvent). filter was r.early ++ f ∷ xs) (filter_like now was r.late r.late_same)

  -- in the channel of f the rest is left
  pub lane_raised : lane schema (raised schema mark f) (channel_in schema mark f) part ≡ rest
  lane_raised = ap (filter left) r.whole ∙ filter-append left r.early (f ∷ r.late)
      ∙ ap (λ (xs : List ChangeEvent). xs ++ filter left (f ∷ r.late)) (filter_none left r.early early_done)
      ∙ ap (λ b. cond b (f ∷ filter left r.late) (filter left r.late)) (done f r.applied)
      ∙ filter_like left (is_pending_in schema mark (channel_in schema mark f)) r.late
      (λ e at. ap (λ b. (channel_in schema mark e == channel_in schema mark f) && not b) (r.late_same e at))
      ∙ r.rest_is
    where
      done : (e : ChangeEvent) → now e ≡ true → left e ≡ false
      done e is = and_right (channel_in schema mark e == channel_in schema mark f) (not (now e)) (not_from_true (now e) is)

      early_done : (e : ChangeEvent) → Contains r.early e → left e ≡ false
      early_done e at = ⊎_elim
          (λ same. done e (r.early_same e at ∙ r.early_applied e at same))
          (λ other. and_left (channel_in schema mark e == channel_in schema mark f) (not (now e))
          (ne_eqb (channel_in schema mark e) (channel_in schema mark f) other))
          (one_channel_or_not schema mark f e)
