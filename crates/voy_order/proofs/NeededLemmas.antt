-- The run of a channel by needs: it ends in front of the first event that has some.
use Rattle.std.specs.Prelude.{◌≡◌, ◌≢◌, ◌<◌, ◌⊎◌, ◌-◌, ◌&&◌, ℕ, zero, suc, Bool, true, false, List, [], ◌∷◌, ◌++◌, cond, nat_le, not}
use Rattle.std.specs.List.{AllByRecursion, Contains}
use Rattle.std.proofs.Common.{ap, append_assoc, inl, inr, sym, subst, ◌∙◌, ⊎_elim, refl, true≢false}
use Rattle.std.proofs.lemmas.List.Elements.{Contains-append_cases, Contains-append_left, Contains-append_right}
use Rattle.voy_schema.specs.declared.table.Table.{Table}
use Rattle.voy_tables.specs.Tables.{IsValid, Tables}
use Rattle.voy_txn.specs.History.{Mark}
use Rattle.voy_order.specs.ChangeEvents.{ChangeEvent, VsnsAscend, row_changes}
use Rattle.voy_order.specs.Channels.{channel_of}
use Rattle.voy_order.specs.Conflicts.{HoldsBack, needs_of}
use Rattle.voy_order.specs.Laws.{IsReached, ItemsFit, ListsPending, ReachedNeedsSuffice}
use Rattle.voy_order.specs.Marks.{IsClosed, IsNext, channel_in, is_applied, lane, raised_by}
use Rattle.voy_order.specs.RunLaws.{RunsAreByNeeds, has_needs, of_channel}
use Rattle.voy_order.specs.Runs.{IsWindow, front, is_held_by_other, max_run_bytes, pending}
use Rattle.voy_txn.specs.declared.needs.Need.{Need}
use Rattle.voy_order.proofs.EventLemmas.{ascend_front}
use Rattle.voy_order.proofs.ListLemmas.{contains_cases, contains_first, contains_none, of_member, of_members}
use Rattle.voy_order.proofs.NeedLemmas.{some_need, tells_of}
use Rattle.voy_order.proofs.PendingLemmas.{lane_ascends, of_lane, of_pending}
use Rattle.voy_order.proofs.ReadyLemmas.{either_way, held_by_one, held_where_one, needs_in}
use Rattle.voy_order.proofs.RiseLemmas.{beside_as_was, channels_stay, lane_after, still_by}
use Rattle.voy_order.proofs.WindowLemmas.{free_may_commit, in_window, lane_more, window_up}

-- none of these events is held
abbrev AreFreeOf : (ChangeEvent → Bool) → List ChangeEvent → Type 0
AreFreeOf held events = AllByRecursion (λ (e : ChangeEvent). held e ≡ false) events

module _ (held other : ChangeEvent → Bool) (whole : List ChangeEvent)
    (agree : (run : List ChangeEvent) (f : ChangeEvent) (rest : List ChangeEvent) → whole ≡ run ++ f ∷ rest → AreFreeOf held run → held f ≡ other f)
  where
    one_step : (f : ChangeEvent) (fits off : Bool) (us vs : List ChangeEvent) → (off ≡ false → us ≡ vs)
        → cond (fits && not off) (f ∷ us) [] ≡ cond (fits && not off) (f ∷ vs) []
    one_step f true true us vs same = refl
    one_step f true false us vs same = ap (λ l. f ∷ l) (same refl)
    one_step f false off us vs same = refl

    more_free : (done : List ChangeEvent) (f : ChangeEvent) → AreFreeOf held done → held f ≡ false → AreFreeOf held (done ++ f ∷ [])
    more_free done f free off = of_members (λ (e : ChangeEvent). held e ≡ false) (done ++ f ∷ []) (λ x there. ⊎_elim
        (of_member (λ (e : ChangeEvent). held e ≡ false) done free x)
        (λ here. ⊎_elim
        (λ same. subst (λ (e : ChangeEvent). held e ≡ false) same off)
        (λ none. absurd (contains_none x none))
        (contains_cases f x [] here))
        (Contains-append_cases done (f ∷ []) x there))

    -- two tests that agree on each event behind free ones have the same front
    front_like : (items bytes : ℕ) (done events : List ChangeEvent) → whole ≡ done ++ events → AreFreeOf held done
        → front held items bytes events ≡ front other items bytes events
    front_like items bytes done [] at free = refl
    front_like zero bytes done (f ∷ events) at free = refl
    front_like (suc items) bytes done (f ∷ events) at free =
        one_step f (nat_le f.bytes bytes) (held f) (front held items (bytes - f.bytes) events) (front other items (bytes - f.bytes) events)
        (λ off. front_like items (bytes - f.bytes) (done ++ f ∷ []) events (at ∙ sym (append_assoc done (f ∷ []) events)) (more_free done f free off))
        ∙ ap (λ b. cond (nat_le f.bytes bytes && not b) (f ∷ front other items (bytes - f.bytes) events) []) (agree done f events at free)

module _ (items_fit : ItemsFit) (suffice : ReachedNeedsSuffice)
    (schema : List Table) (tables : Tables) (part : List ChangeEvent) (mark : Mark) (window : List ChangeEvent) (channel : ℕ)
    (up : VsnsAscend part) (valid : IsValid schema tables (row_changes part)) (closed : IsClosed schema mark part)
    (is : IsWindow schema mark part window)
  where
    module _ (run : List ChangeEvent) (f : ChangeEvent) (rest : List ChangeEvent) (first : lane schema mark channel window ≡ run ++ f ∷ rest)
        (free : AreFreeOf (is_held_by_other schema mark window) run)
      where
        -- what the part has of the channel behind f
        abbrev behind : List ChangeEvent
        behind = rest ++ of_channel schema mark.channels channel is.0

        in_part : lane schema mark channel part ≡ run ++ f ∷ behind
        in_part = lane_more schema mark part window is channel
            ∙ ap (λ l. l ++ of_channel schema mark.channels channel is.0) first
            ∙ append_assoc run (f ∷ rest) (of_channel schema mark.channels channel is.0)

        own : (e : ChangeEvent) → Contains (run ++ f ∷ rest) e → Contains (pending schema mark window) e × (channel_in schema mark e ≡ channel)
        own e there = of_lane schema mark channel window e (subst (λ l. Contains l e) (sym first) there)

        f_own : Contains (pending schema mark window) f × (channel_in schema mark f ≡ channel)
        f_own = own f (Contains-append_right run (f ∷ rest) f (contains_first f rest))

        part_lane_up : VsnsAscend (lane schema mark channel part)
        part_lane_up = lane_ascends schema mark channel part up

        -- with the free ones in front of it applied, the event is the next of its channel
        is_next : IsNext schema (raised_by schema mark run) part f
        is_next = (
          behind,
          ap (λ c. lane schema (raised_by schema mark run) c part) (ap (λ n. channel_of schema n f.change.row) (channels_stay schema mark run) ∙ f_own.1)
              ∙ lane_after schema mark channel part run (f ∷ behind) part_lane_up in_part,
        )

        from_window : (e : ChangeEvent) → Contains (pending schema mark window) e → Contains part e × (is_applied schema mark e ≡ false)
        from_window e there =
            of_pending schema mark part e (subst (λ l. Contains l e) (sym is.1) (Contains-append_left (pending schema mark window) is.0 e there))

        lists : ListsPending schema (raised_by schema mark run) part (λ e. e.vsn < f.vsn) (pending schema mark window)
        lists = (
          ascend_front (pending schema mark window) is.0 (window_up schema mark part window is up),
          (λ e there. (from_window e there).0),
          (λ e there before. by e there before (is_applied schema mark e) refl),
        )
          where
            by : (e : ChangeEvent) → Contains part e → e.vsn < f.vsn → (b : Bool) → is_applied schema mark e ≡ b
                → (is_applied schema (raised_by schema mark run) e ≡ true) ⊎ Contains (pending schema mark window) e
            by e there before true on = inl (still_by schema mark channel part run (f ∷ behind) part_lane_up in_part e on)
            by e there before false off = inr (in_window schema mark part window is up e f f_own.0 before there off)

        -- where it has no needs, no pending event of another channel holds it back
        none_holds : needs_in schema mark window f ≡ [] → (g : ChangeEvent) → Contains (pending schema mark window) g
            → HoldsBack schema g f → channel_in schema mark g ≢ channel → ⊥
        none_holds none g there holds apart =
            let may = free_may_commit schema mark part window is up channel run (f ∷ rest) first free in
            let commits = items_fit schema tables part mark channel run up valid closed may in
            let needs = ap (λ n. needs_of schema n (pending schema mark window) f) (channels_stay schema mark run) ∙ none in
            let done = suffice schema tables part (raised_by schema mark run) f (pending schema mark window) up valid commits.closed is_next lists
            (subst (AllByRecursion (IsReached (raised_by schema mark run))) (sym needs) tt) g (from_window g there).0 holds in
            true≢false (sym done
            ∙ beside_as_was schema mark channel run (λ e at. (own e (Contains-append_left run (f ∷ rest) e at)).1) g apart
            ∙ (from_window g there).1)

        -- so it is held by another exactly where it has needs
        same_test : is_held_by_other schema mark window f ≡ has_needs (needs_in schema mark window f)
        same_test = either_way (is_held_by_other schema mark window f) (has_needs (needs_in schema mark window f)) there back
          where
            there : is_held_by_other schema mark window f ≡ true → has_needs (needs_in schema mark window f) ≡ true
            there held = by (needs_in schema mark window f) refl
              where
                by : (needs : List Need) → needs_in schema mark window f ≡ needs → has_needs (needs_in schema mark window f) ≡ true
                by (need ∷ needs) some = ap has_needs some
                by [] none =
                    let g = held_by_one schema mark window f held in
                    absurd (none_holds none g.0 g.1 g.2 (λ same. g.3 (same ∙ sym f_own.1)))

            back : has_needs (needs_in schema mark window f) ≡ true → is_held_by_other schema mark window f ≡ true
            back some =
                let need = some_need (needs_in schema mark window f) some in
                let tells = tells_of schema mark.channels (pending schema mark window) f need.0 need.1 in
                held_where_one schema mark window f tells.event tells.there tells.holds tells.apart

-- by the laws that items which may be committed fit, and that reached needs suffice
pub runs_by_needs : ItemsFit → ReachedNeedsSuffice → RunsAreByNeeds
runs_by_needs items_fit suffice schema max_events tables part mark window channel up valid closed is =
    front_like (is_held_by_other schema mark window) (λ f. has_needs (needs_in schema mark window f)) (lane schema mark channel window)
    (same_test items_fit suffice schema tables part mark window channel up valid closed is)
    max_events max_run_bytes [] (lane schema mark channel window) refl tt
