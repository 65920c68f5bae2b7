-- Where the needs of the next event of a channel are reached, all that holds it back is applied; and what workers may commit by that.
use Rattle.std.specs.Prelude.{◌≡◌, ◌≤◌, ◌<◌, ◌⊎◌, ℕ, Bool, true, false, List, [], ◌∷◌, ◌++◌, refl}
use Rattle.std.specs.List.{AllByRecursion, Contains}
use Rattle.std.proofs.Common.{ap, arith, eqb-true, inl, inr, le-leb, subst, sym, ⊎_elim, ◌∙◌}
use Rattle.voy_schema.specs.declared.table.Table.{Table}
use Rattle.voy_tables.specs.Tables.{IsValid, Tables}
use Rattle.voy_txn.specs.History.{Mark}
use Rattle.voy_order.proofs.BetweenLemmas.{last_releaser_says}
use Rattle.voy_order.proofs.CommitLemmas.{first_next, lane_on}
use Rattle.voy_order.proofs.ListLemmas.{contains_cases, contains_first, contains_later, contains_none, of_member}
use Rattle.voy_order.proofs.MoveLemmas.{row_apart}
use Rattle.voy_order.proofs.NeedLemmas.{NoneReleases, WaitsFor, need_of, waits_for}
use Rattle.voy_order.proofs.RaiseLemmas.{Raised, around, next_is_there, raise, still_applied, was_applied}
use Rattle.voy_order.proofs.StepLemmas.{closed_raised}
use Rattle.voy_order.specs.ChangeEvents.{ChangeEvent, VsnsAscend, row_changes}
use Rattle.voy_order.specs.Conflicts.{HoldsBack, needs_of}
use Rattle.voy_order.specs.Laws.{HaveReachedNeeds, IsReached, ListsPending, ReachedNeedsSuffice, WorkerCommits}
use Rattle.voy_order.specs.Marks.{AreFree, IsClosed, IsNext, channel_in, is_applied, lane, raised}

-- each earlier event of the channel of a next event is applied
pub earlier_done : (schema : List Table) (mark : Mark) (part : List ChangeEvent) (f k : ChangeEvent) → VsnsAscend part → IsNext schema mark part f
    → Contains part k → k.vsn < f.vsn → channel_in schema mark k ≡ channel_in schema mark f → is_applied schema mark k ≡ true
earlier_done schema mark part f k up next k_in before same = by (around schema mark part f next.0 r k k_in)
  where
    r : Raised schema mark part f next.0
    r = raise schema mark part f next.0 up next.1

    by : Contains r.early k ⊎ ((f ≡ k) ⊎ Contains r.late k) → is_applied schema mark k ≡ true
    by (inl early) = r.early_applied k early same
    by (inr (inl here)) = let one : f.vsn ≡ k.vsn = ap (λ (x : ChangeEvent). x.vsn) here in absurd (omega arith)
    by (inr (inr late)) = let above : f.vsn < k.vsn = r.high k late in absurd (omega arith)

-- needs that are reached suffice
pub reached_needs_suffice_for : ReachedNeedsSuffice
reached_needs_suffice_for schema tables part mark f listed up valid closed next lists reached g g_in holds =
    by (lists.2 g g_in holds.before) (waits_for schema mark.channels listed f lists.0 holds.hands.unique holds.hands.values holds.hands.acquires)
  where
    last_applied : (k : ChangeEvent) → WaitsFor schema mark.channels listed f holds.hands.unique holds.hands.values k → is_applied schema mark k ≡ true
    last_applied k waits = ⊎_elim
        (λ same. earlier_done schema mark part f k up next (lists.1 k waits.there) waits.before
        (eqb-true (channel_in schema mark k) (channel_in schema mark f) same))
        (λ other. le-leb k.vsn (mark.vsn_of (channel_in schema mark k))
        (of_member (IsReached mark) (needs_of schema mark.channels listed f) reached (need_of schema mark.channels k) other.1))
        waits.need

    by_last : (k : ChangeEvent) → WaitsFor schema mark.channels listed f holds.hands.unique holds.hands.values k → (g ≡ k) ⊎ (g.vsn < k.vsn)
        → is_applied schema mark g ≡ true
    by_last k waits (inl same) = ap (is_applied schema mark) same ∙ last_applied k waits
    by_last k waits (inr before) = last_releaser_says schema tables part mark k g holds.hands.unique holds.hands.values up valid closed
        (lists.1 k waits.there) waits.releases (last_applied k waits) g_in before (holds.hands.table ∙ sym waits.table) holds.hands.releases

    by : (is_applied schema mark g ≡ true) ⊎ Contains listed g
        → NoneReleases schema listed f holds.hands.unique holds.hands.values
        ⊎ ((k : ChangeEvent) × WaitsFor schema mark.channels listed f holds.hands.unique holds.hands.values k)
        → is_applied schema mark g ≡ true
    by (inl on) waits = on
    by (inr there) (inl none) = absurd (none g there holds.before holds.hands.table holds.hands.releases)
    by (inr there) (inr some) = by_last some.0 some.1 (some.1.last g there holds.before holds.hands.table holds.hands.releases)

module _ (schema : List Table) (tables : Tables) (part : List ChangeEvent) (channel : ℕ) (listed : List ChangeEvent) (last : ℕ)
    (up : VsnsAscend part) (valid : IsValid schema tables (row_changes part))
  where
    -- what holds one of the items back is applied or among them
    pub items_are_free : (mark : Mark) (items rest : List ChangeEvent) → IsClosed schema mark part → lane schema mark channel part ≡ items ++ rest
        → ((f : ChangeEvent) → Contains items f → f.vsn ≤ last)
        → ListsPending schema mark part (λ e. e.vsn < last) listed → HaveReachedNeeds schema mark listed items → AreFree schema mark part items
    items_are_free mark [] rest closed next low lists reached = λ f g f_in. absurd (contains_none f f_in)
    items_are_free mark (f ∷ items) rest closed next low lists reached =
        by_item (items_are_free (raised schema mark f) items rest
        (closed_raised schema tables part mark f (items ++ rest) r closed (next_is_there schema mark part f (items ++ rest) r) free)
        (lane_on schema mark channel part f (items ++ rest) up next)
        (λ e at. low e (contains_later f e items at))
        (lists.0, lists.1, λ e e_in before. ⊎_elim (λ on. inl (still_applied schema mark part f (items ++ rest) r e e_in on)) inr (lists.2 e e_in before))
        (others items reached.1))
      where
        is_next : lane schema mark (channel_in schema mark f) part ≡ f ∷ (items ++ rest)
        is_next = first_next schema mark channel part f (items ++ rest) next

        r : Raised schema mark part f (items ++ rest)
        r = raise schema mark part f (items ++ rest) up is_next

        free : (g : ChangeEvent) → Contains part g → HoldsBack schema g f → is_applied schema mark g ≡ true
        free = reached_needs_suffice_for schema tables part mark f listed up valid closed (items ++ rest, is_next)
            (lists.0, lists.1, λ e e_in before. let most = low f (contains_first f items) in lists.2 e e_in (omega arith)) reached.0

        others : (events : List ChangeEvent) → AllByRecursion (λ (e : ChangeEvent). needs_of schema mark.channels listed e ≡ []) events
            → HaveReachedNeeds schema (raised schema mark f) listed events
        others [] none = tt
        others (e ∷ events) none = (subst (AllByRecursion (IsReached (raised schema mark f))) (sym none.0) tt, none.1)

        by_item : AreFree schema (raised schema mark f) part items → AreFree schema mark part (f ∷ items)
        by_item later e g e_in g_in holds off = ⊎_elim
            (λ here. absurd (row_apart (is_applied schema mark g) off (free g g_in (subst (HoldsBack schema g) (sym here) holds))))
            (λ behind. at (is_applied schema (raised schema mark f) g) refl (later e g behind g_in holds))
            (contains_cases f e items e_in)
          where
            at : (b : Bool) → is_applied schema (raised schema mark f) g ≡ b → (is_applied schema (raised schema mark f) g ≡ false → Contains items g)
                → Contains (f ∷ items) g
            at true on more = ⊎_elim
                (λ was. absurd (row_apart (is_applied schema mark g) off was))
                (λ here. subst (Contains (f ∷ items)) here (contains_first f items))
                (was_applied schema mark part f (items ++ rest) r g g_in on)
            at false still more = contains_later f g items (more still)

-- what a worker commits by needs that it found once
pub worker_may_commit : WorkerCommits
worker_may_commit schema tables part mark channel items rest listed last up valid closed next low lists reached =
    record { rest = rest; next = next; free = items_are_free schema tables part channel listed last up valid mark items rest closed next low lists reached }
