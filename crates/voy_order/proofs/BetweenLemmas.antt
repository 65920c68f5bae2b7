-- Between two changes that release one tuple, a change of the later one's row acquires it.
use Rattle.std.specs.Prelude.{◌≡◌, ◌≢◌, ◌⊎◌, ◌<◌, ℕ, List, [], ◌∷◌, Some}
use Rattle.std.specs.List.{Contains}
use Rattle.std.proofs.Common.{ap, arith, inl, inr, le_of_lt, subst, sym, ⊎_elim, ◌∙◌}
use Rattle.voy_schema.specs.declared.table.Table.{Table}
use Rattle.voy_schema.specs.declared.value.Value.{Value}
use Rattle.voy_tables.specs.Changes.{RowId}
use Rattle.voy_tables.specs.CleanLaws.{change_keeps_clean}
use Rattle.voy_tables.specs.Tables.{FitInTurn, IsClean, Tables, do_change, tuple_in}
use Rattle.voy_order.proofs.EventLemmas.{ascend_first}
use Rattle.voy_order.proofs.ListLemmas.{contains_cases, contains_first, contains_later, contains_none}
use Rattle.voy_order.proofs.MarkLemmas.{earlier_applied, one_channel}
use Rattle.voy_order.proofs.MoveLemmas.{acquires, at_or_away, do_here, do_there, has_or_not, released_held}
use Rattle.voy_order.specs.ChangeEvents.{ChangeEvent, VsnsAscend, row_changes}
use Rattle.voy_order.specs.Conflicts.{acquired, released}
use Rattle.voy_order.specs.Laws.{LastReleaser}

-- an event of the row of g, with its vsn between this one and that of g, which acquires the tuple
pub record Acquirer (schema : List Table) (events : List ChangeEvent) (low : ℕ) (g : ChangeEvent) (unique : ℕ) (values : List Value) : Type 0 where
  pub event : ChangeEvent
  pub there : Contains events event
  pub row : event.change.row ≡ g.change.row
  pub after : low < event.vsn
  pub before : event.vsn < g.vsn
  pub takes : acquired schema unique event.change ≡ Some values

module _ (schema : List Table) (g : ChangeEvent) (unique : ℕ) (values : List Value) (gives : released schema unique g.change ≡ Some values) where
  -- the row of g does not have the tuple in these tables
  abbrev Lacks : Tables → Type 0
  Lacks tables = tuple_in schema g.change.row.table unique (tables g.change.row) ≢ Some values

  further : (low : ℕ) (e : ChangeEvent) (events : List ChangeEvent) → Acquirer schema events low g unique values
      → Acquirer schema (e ∷ events) low g unique values
  further low e events a = record {
    event = a.event;
    there = contains_later e a.event events a.there;
    row = a.row;
    after = a.after;
    before = a.before;
    takes = a.takes;
  }

  -- where the row of g does not have the tuple, an event in front of g acquires it
  pub acquirer : (low : ℕ) (all : Tables) (events : List ChangeEvent) → VsnsAscend events → FitInTurn schema all (row_changes events)
      → ((e : ChangeEvent) → Contains events e → low < e.vsn)
      → Lacks all
      → Contains events g → Acquirer schema events low g unique values
  acquirer low all [] up fit above lacks at = absurd (contains_none g at)
  acquirer low all (e ∷ events) up fit above lacks at = by (contains_cases e g events at) (at_or_away e.change.row g.change.row)
      (λ next_lacks later. further low e events
      (acquirer low (do_change e.change all) events up.1 fit.1 (λ f in_it. above f (contains_later e f events in_it)) next_lacks later))
    where
      lacks_here : e.change.row ≡ g.change.row → tuple_in schema e.change.row.table unique (all e.change.row) ≢ Some values
      lacks_here here = subst (λ (r : RowId). tuple_in schema r.table unique (all r) ≢ Some values) (sym here) lacks

      at_row : (here : e.change.row ≡ g.change.row)
          → (tuple_in schema e.change.row.table unique e.change.after ≡ Some values) ⊎ (tuple_in schema e.change.row.table unique e.change.after ≢ Some values)
          → (Lacks (do_change e.change all) → Contains events g → Acquirer schema (e ∷ events) low g unique values)
          → Contains events g → Acquirer schema (e ∷ events) low g unique values
      at_row here (inl has) more later = record {
        event = e;
        there = contains_first e events;
        row = here;
        after = above e (contains_first e events);
        before = ascend_first e events up g later;
        takes = acquires schema unique e.change values has (λ had. lacks_here here (ap (tuple_in schema e.change.row.table unique) fit.0.here ∙ had));
      }
      at_row here (inr has_not) more later = more (subst (λ (r : RowId). tuple_in schema r.table unique (do_change e.change all r) ≢ Some values) here
          (λ has. has_not (sym (ap (tuple_in schema e.change.row.table unique) (do_here e.change all)) ∙ has))) later

      by : (e ≡ g) ⊎ Contains events g → (e.change.row ≡ g.change.row) ⊎ (e.change.row ≢ g.change.row)
          → (Lacks (do_change e.change all) → Contains events g → Acquirer schema (e ∷ events) low g unique values)
          → Acquirer schema (e ∷ events) low g unique values
      by (inl same) place more =
          let stood : all g.change.row ≡ g.change.before = subst (λ (x : ChangeEvent). all x.change.row ≡ x.change.before) same fit.0.here in
          absurd (lacks (ap (tuple_in schema g.change.row.table unique) stood ∙ (released_held schema unique g.change values gives).0))
      by (inr later) (inl here) more = at_row here (has_or_not (tuple_in schema e.change.row.table unique e.change.after) values) more later
      by (inr later) (inr away) more = more
          (λ has. lacks (sym (ap (tuple_in schema g.change.row.table unique) (do_there e.change all g.change.row (λ same. away (sym same)))) ∙ has))
          later

  -- behind an event that released the tuple, and in front of g
  pub between : (earlier : ChangeEvent) → released schema unique earlier.change ≡ Some values
      → earlier.change.row.table ≡ g.change.row.table → earlier.vsn < g.vsn
      → (all : Tables) (events : List ChangeEvent) → IsClean schema all → VsnsAscend events → FitInTurn schema all (row_changes events)
      → Contains events earlier → Contains events g → Acquirer schema events earlier.vsn g unique values
  between earlier gave same_table before all [] clean up fit earlier_in g_in = absurd (contains_none g g_in)
  between earlier gave same_table before all (e ∷ events) clean up fit earlier_in g_in =
      by (contains_cases e earlier events earlier_in) (contains_cases e g events g_in)
      (λ earlier_later g_later. further earlier.vsn e events
      (between earlier gave same_table before (do_change e.change all) events clean_on up.1 fit.1 earlier_later g_later))
    where
      clean_on : IsClean schema (do_change e.change all)
      clean_on = change_keeps_clean schema e.change all clean fit.0

      gave_here : e ≡ earlier → released schema unique e.change ≡ Some values
      gave_here is = subst (λ (x : ChangeEvent). released schema unique x.change ≡ Some values) (sym is) gave

      -- behind the earlier one no row of the table has the tuple
      lacks : e ≡ earlier → (g.change.row ≡ e.change.row) ⊎ (g.change.row ≢ e.change.row) → Lacks (do_change e.change all)
      lacks is place has =
          let held = released_held schema unique e.change values (gave_here is) in
          ⊎_elim
          (λ here. held.1 (sym (ap (tuple_in schema e.change.row.table unique) (do_here e.change all))
          ∙ subst (λ (r : RowId). tuple_in schema r.table unique (do_change e.change all r) ≡ Some values) here has))
          (λ away. away (clean g.change.row e.change.row unique values (sym same_table ∙ sym (ap (λ (x : ChangeEvent). x.change.row.table) is))
          (sym (ap (tuple_in schema g.change.row.table unique) (do_there e.change all g.change.row away)) ∙ has)
          (ap (tuple_in schema e.change.row.table unique) fit.0.here ∙ held.0)))
          place

      by : (e ≡ earlier) ⊎ Contains events earlier → (e ≡ g) ⊎ Contains events g
          → (Contains events earlier → Contains events g → Acquirer schema (e ∷ events) earlier.vsn g unique values)
          → Acquirer schema (e ∷ events) earlier.vsn g unique values
      by (inl first) (inl here) more =
          let one : earlier.vsn ≡ g.vsn = ap (λ (x : ChangeEvent). x.vsn) (sym first ∙ here) in absurd (omega arith)
      by (inl first) (inr g_later) more = further earlier.vsn e events (acquirer earlier.vsn (do_change e.change all) events up.1 fit.1
          (λ f at. subst (λ (x : ChangeEvent). x.vsn < f.vsn) first (ascend_first e events up f at))
          (lacks first (at_or_away g.change.row e.change.row)) g_later)
      by (inr earlier_later) (inl here) more =
          let lt : e.vsn < earlier.vsn = ascend_first e events up earlier earlier_later in
          let one : e.vsn ≡ g.vsn = ap (λ (x : ChangeEvent). x.vsn) here in
          absurd (omega arith)
      by (inr earlier_later) (inr g_later) more = more earlier_later g_later

-- where an event that releases a tuple is applied, each earlier one that releases it is
pub last_releaser_says : LastReleaser
last_releaser_says schema tables part mark g earlier unique values up valid closed g_in gives is earlier_in before same_table gave =
    let a = between schema g unique values gives earlier gave same_table before tables part valid.clean up valid.fit earlier_in g_in in
    closed a.event earlier a.there earlier_in
    (earlier_applied schema mark a.event g (one_channel schema mark a.event g a.row) (le_of_lt a.before) is)
    (record {
      before = a.after;
      hands = record { table = same_table ∙ sym (ap (λ (r : RowId). r.table) a.row); unique = unique; values = values; releases = gave; acquires = a.takes };
    })
