-- Items that may be committed, one after the other, and commits in any order.
use Rattle.std.specs.Prelude.{◌≡◌, ◌<◌, ℕ, Bool, true, false, List, [], ◌∷◌, ◌++◌, refl}
use Rattle.std.specs.List.{Contains}
use Rattle.std.proofs.Common.{ap, arith, subst, sym, ⊎_elim, ◌∙◌}
use Rattle.std.proofs.Math.Path.{fun_ext}
use Rattle.std.proofs.lemmas.Bool.{false_from_ne_true, lt-leb}
use Rattle.std.proofs.lemmas.List.Elements.{Contains-append_left}
use Rattle.voy_schema.specs.declared.table.Table.{Table}
use Rattle.voy_tables.specs.Changes.{RowId}
use Rattle.voy_tables.specs.Tables.{FitInTurn, IsValid, Tables, do_change, fold_changes}
use Rattle.voy_txn.specs.History.{Mark}
use Rattle.voy_order.proofs.EventLemmas.{ascend_filter, ascend_first, fit-append, fold-append, fold_at}
use Rattle.voy_order.proofs.ListLemmas.{contains_cases, contains_first, contains_later, filter_all, filter_none, of_member}
use Rattle.voy_order.proofs.MarkLemmas.{closed_is_clean}
use Rattle.voy_order.proofs.MoveLemmas.{row_apart}
use Rattle.voy_order.proofs.PendingLemmas.{of_lane}
use Rattle.voy_order.proofs.RaiseLemmas.{Raised, is_pending_in, lane_raised, raise, still_applied}
use Rattle.voy_order.proofs.StepLemmas.{one_step_applies}
use Rattle.voy_order.specs.ChangeEvents.{ChangeEvent, FromOne, VsnsAscend, row_changes}
use Rattle.voy_order.specs.Conflicts.{HoldsBack}
use Rattle.voy_order.specs.Laws.{AnyOrder, Applies, Commits, ItemsFit, nothing_done}
use Rattle.voy_order.specs.Marks.{AreFree, IsClosed, MayCommit, channel_in, is_applied, lane, raised, raised_by, row_left, tables_at}
use Rattle.voy_order.specs.Runs.{Commit, MayCommitInTurn, items_in, marked_by}

-- the first event of a lane is of that channel, and next there
pub first_channel : (schema : List Table) (mark : Mark) (channel : ℕ) (part : List ChangeEvent) (f : ChangeEvent) (rest : List ChangeEvent)
    → lane schema mark channel part ≡ f ∷ rest → channel ≡ channel_in schema mark f
first_channel schema mark channel part f rest next =
    sym (of_lane schema mark channel part f (subst (λ (xs : List ChangeEvent). Contains xs f) (sym next) (contains_first f rest))).1

pub first_next : (schema : List Table) (mark : Mark) (channel : ℕ) (part : List ChangeEvent) (f : ChangeEvent) (rest : List ChangeEvent)
    → lane schema mark channel part ≡ f ∷ rest → lane schema mark (channel_in schema mark f) part ≡ f ∷ rest
first_next schema mark channel part f rest next = subst (λ c. lane schema mark c part ≡ f ∷ rest) (first_channel schema mark channel part f rest next) next

-- with the first event of a lane applied the rest is left
pub lane_on : (schema : List Table) (mark : Mark) (channel : ℕ) (part : List ChangeEvent) (f : ChangeEvent) (rest : List ChangeEvent)
    → VsnsAscend part → lane schema mark channel part ≡ f ∷ rest → lane schema (raised schema mark f) channel part ≡ rest
lane_on schema mark channel part f rest up next =
    ap (λ c. lane schema (raised schema mark f) c part) (first_channel schema mark channel part f rest next)
    ∙ lane_raised schema mark part f rest (raise schema mark part f rest up (first_next schema mark channel part f rest next))

module _ (schema : List Table) (part : List ChangeEvent) (up : VsnsAscend part) where
  -- all that holds the first item back is applied
  pub first_is_free : (mark : Mark) (channel : ℕ) (f : ChangeEvent) (items : List ChangeEvent) → MayCommit schema mark part channel (f ∷ items)
      → (g : ChangeEvent) → Contains part g → HoldsBack schema g f → is_applied schema mark g ≡ true
  first_is_free mark channel f items may g g_in holds = by (is_applied schema mark g) refl
    where
      lane_up : VsnsAscend (f ∷ (items ++ may.rest))
      lane_up = subst VsnsAscend may.next (ascend_filter (is_pending_in schema mark channel) part up)

      by : (b : Bool) → is_applied schema mark g ≡ b → is_applied schema mark g ≡ true
      by true on = on
      by false off = absurd (⊎_elim
          (λ same. let one : f.vsn ≡ g.vsn = ap (λ (x : ChangeEvent). x.vsn) same in let lt = holds.before in omega arith)
          (λ later.
          let above : f.vsn < g.vsn = ascend_first f (items ++ may.rest) lane_up g (Contains-append_left items may.rest g later) in
          let lt = holds.before in
          omega arith)
          (contains_cases f g items (may.free f g (contains_first f items) g_in holds off)))

  -- and behind it the others may be committed
  pub others_may : (mark : Mark) (channel : ℕ) (f : ChangeEvent) (items : List ChangeEvent) → MayCommit schema mark part channel (f ∷ items)
      → MayCommit schema (raised schema mark f) part channel items
  others_may mark channel f items may = record { rest = may.rest; next = lane_on schema mark channel part f (items ++ may.rest) up may.next; free = free }
    where
      r : Raised schema mark part f (items ++ may.rest)
      r = raise schema mark part f (items ++ may.rest) up (first_next schema mark channel part f (items ++ may.rest) may.next)

      -- what is pending now was pending
      was_pending : (g : ChangeEvent) → Contains part g → is_applied schema (raised schema mark f) g ≡ false → is_applied schema mark g ≡ false
      was_pending g g_in off = false_from_ne_true (is_applied schema mark g)
          (λ on. row_apart (is_applied schema (raised schema mark f) g) off (still_applied schema mark part f (items ++ may.rest) r g g_in on))

      free : AreFree schema (raised schema mark f) part items
      free e g e_in g_in holds off = ⊎_elim
          (λ same. absurd (row_apart (is_applied schema (raised schema mark f) g) off (sym (ap (is_applied schema (raised schema mark f)) same) ∙ r.applied)))
          (λ later. later)
          (contains_cases f g items (may.free e g (contains_later f e items e_in) g_in holds (was_pending g g_in off)))

  module _ (tables : Tables) (valid : IsValid schema tables (row_changes part)) where
    step : (mark : Mark) (channel : ℕ) (f : ChangeEvent) (items : List ChangeEvent) → IsClosed schema mark part → MayCommit schema mark part channel (f ∷ items)
        → Applies schema tables part mark f
    step mark channel f items closed may = one_step_applies schema tables part mark f up valid closed
        (items ++ may.rest, first_next schema mark channel part f (items ++ may.rest) may.next) (first_is_free mark channel f items may)

    -- items that may be committed fit in turn, and give the tables with them applied
    pub items_commit : (mark : Mark) (channel : ℕ) (items : List ChangeEvent) → IsClosed schema mark part → MayCommit schema mark part channel items
        → Commits schema tables part mark items
    items_commit mark channel [] closed may = record { fit = tt; gives = λ id. refl; closed = closed }
    items_commit mark channel (f ∷ items) closed may =
        let applies = step mark channel f items closed may in
        let later = items_commit (raised schema mark f) channel items applies.closed (others_may mark channel f items may) in
        let whole : do_change f.change (tables_at schema tables part mark) ≡ tables_at schema tables part (raised schema mark f) = fun_ext applies.gives in
        record {
          fit = (applies.fits, subst (λ (t : Tables). FitInTurn schema t (row_changes items)) (sym whole) later.fit);
          gives = λ id. ap (λ (t : Tables). fold_changes t (row_changes items) id) whole ∙ later.gives id;
          closed = later.closed;
        }

    -- what commits in turn do, from a closed mark on
    pub record Follows (mark : Mark) (commits : List Commit) : Type 0 where
      pub fit : FitInTurn schema (tables_at schema tables part mark) (row_changes (items_in commits))
      pub gives : (id : RowId) → fold_changes (tables_at schema tables part mark) (row_changes (items_in commits)) id
          ≡ tables_at schema tables part (marked_by schema mark commits) id
      pub closed : IsClosed schema (marked_by schema mark commits) part

    pub commits_follow : (mark : Mark) (commits : List Commit) → IsClosed schema mark part → MayCommitInTurn schema mark part commits → Follows mark commits
    commits_follow mark [] closed may = record { fit = tt; gives = λ id. refl; closed = closed }
    commits_follow mark (c ∷ commits) closed may =
        let one = items_commit mark c.channel c.items closed may.0 in
        let later = commits_follow (raised_by schema mark c.items) commits one.closed may.1 in
        let whole : fold_changes (tables_at schema tables part mark) (row_changes c.items) ≡ tables_at schema tables part (raised_by schema mark c.items)
        = fun_ext one.gives in
        record {
          fit = fit-append schema (tables_at schema tables part mark) c.items (items_in commits) one.fit
              (subst (λ (t : Tables). FitInTurn schema t (row_changes (items_in commits))) (sym whole) later.fit);
          gives = λ id. ap (λ (t : Tables). t id) (fold-append (tables_at schema tables part mark) c.items (items_in commits))
              ∙ ap (λ (t : Tables). fold_changes t (row_changes (items_in commits)) id) whole ∙ later.gives id;
          closed = later.closed;
        }

-- items that may be committed fit
pub items_fit_in : ItemsFit
items_fit_in schema tables part mark channel items up valid closed may = items_commit schema part up tables valid mark channel items closed may

-- where all is applied, the tables are the fold of the part
pub whole_is_folded : (schema : List Table) (tables : Tables) (part : List ChangeEvent) (mark : Mark)
    → ((e : ChangeEvent) → Contains part e → is_applied schema mark e ≡ true)
    → (id : RowId) → tables_at schema tables part mark id ≡ fold_changes tables (row_changes part) id
whole_is_folded schema tables part mark all id = ap (row_left id (tables id)) (filter_all (is_applied schema mark) part all) ∙ sym (fold_at tables part id)

-- at first nothing is applied
pub none_done : (schema : List Table) (channels : ℕ) (part : List ChangeEvent) → FromOne part → (e : ChangeEvent) → Contains part e
    → is_applied schema (nothing_done channels) e ≡ false
none_done schema channels part from_one e at = lt-leb e.vsn 0 (of_member (λ (x : ChangeEvent). 0 < x.vsn) part from_one e at)

-- so the tables are those in front of the part, and the mark is closed
pub first_tables : (schema : List Table) (tables : Tables) (channels : ℕ) (part : List ChangeEvent) → FromOne part
    → tables_at schema tables part (nothing_done channels) ≡ tables
first_tables schema tables channels part from_one =
    fun_ext (λ id. ap (row_left id (tables id)) (filter_none (is_applied schema (nothing_done channels)) part (none_done schema channels part from_one)))

pub first_closed : (schema : List Table) (channels : ℕ) (part : List ChangeEvent) → FromOne part → IsClosed schema (nothing_done channels) part
first_closed schema channels part from_one f g f_in g_in is holds =
    absurd (row_apart (is_applied schema (nothing_done channels) f) (none_done schema channels part from_one f f_in) is)

-- commits in any order
pub any_order_ends : AnyOrder
any_order_ends schema tables part channels commits up from_one valid may =
    let follows = commits_follow schema part up tables valid (nothing_done channels) commits (first_closed schema channels part from_one) may in
    let first : tables_at schema tables part (nothing_done channels) ≡ tables = first_tables schema tables channels part from_one in
    record {
      fit = subst (λ (t : Tables). FitInTurn schema t (row_changes (items_in commits))) first follows.fit;
      gives = λ id. ap (λ (t : Tables). fold_changes t (row_changes (items_in commits)) id) (sym first) ∙ follows.gives id;
      clean = closed_is_clean schema tables part (marked_by schema (nothing_done channels) commits) up valid follows.closed;
      closed = follows.closed;
      whole = whole_is_folded schema tables part (marked_by schema (nothing_done channels) commits);
    }
