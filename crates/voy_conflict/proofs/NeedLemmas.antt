-- What an event waits for of one unique key, by the row that acquires a tuple and the last event that releases it.
use Rattle.std.specs.Prelude.{◌≡◌, ℕ, true, List, Option, Some, None, is_some, nat_lt, refl}
use Rattle.std.specs.List.{filter}
use Rattle.std.specs.Option.{option_map}
use Rattle.std.proofs.Common.{ap, sym, ◌∙◌}
use Rattle.std.proofs.lemmas.Option.{none-some, same_Some}
use Rattle.voy_schema.specs.declared.table.Table.{Table}
use Rattle.voy_schema.specs.declared.value.Value.{Value}
use Rattle.voy_tables.specs.Changes.{RowChange, row_change}
use Rattle.voy_tables.specs.Tables.{tuple_in}
use Rattle.voy_tables.specs.declared.change.Change.{Change}
use Rattle.voy_order.specs.ChangeEvents.{ChangeEvent}
use Rattle.voy_order.specs.Channels.{channel_of}
use Rattle.voy_order.specs.Conflicts.{acquired, acquiring_row, last_releaser, need_at, need_for}
use Rattle.voy_txn.specs.declared.needs.Need.{Need}
use Rattle.voy_conflict.specs.Filing.{as_row_change, vsn_and_change}
use Rattle.voy_conflict.proofs.TupleLemmas.{none_acquired, some_acquired}

module _ (schema : List Table) (channels : ℕ) (pending : List ChangeEvent) (f : ChangeEvent) (c : RowChange) (vsn unique : ℕ)
    (same_vsn : f.vsn ≡ vsn) (same : f.change ≡ c)
  where
    abbrev last_of : List Value → Option ChangeEvent
    last_of values = last_releaser schema c.row.table unique values None (filter (λ (g : ChangeEvent). nat_lt g.vsn vsn) pending)

    abbrev need_here : Option (List Value) → Option Need
    need_here tuple = need_for schema channels pending f unique tuple

    -- nothing is waited for where no row is told
    pub need_of_no_row : acquiring_row schema unique c ≡ None → need_here (acquired schema unique f.change) ≡ None
    need_of_no_row told = ap need_here (ap (acquired schema unique) same ∙ none_acquired schema unique c told)

    by_values : (values : List Value) → need_here (Some values) ≡ need_at schema channels (channel_of schema channels c.row) (last_of values)
    by_values values =
        ap (λ (d : RowChange). need_at schema channels (channel_of schema channels d.row)
        (last_releaser schema d.row.table unique values None (filter (λ (g : ChangeEvent). nat_lt g.vsn f.vsn) pending))) same
        ∙ ap (λ n. need_at schema channels (channel_of schema channels c.row)
        (last_releaser schema c.row.table unique values None (filter (λ (g : ChangeEvent). nat_lt g.vsn n) pending))) same_vsn

    module _ (row : List Value) (told : acquiring_row schema unique c ≡ Some row) where
      acquired_tuple : acquired schema unique f.change ≡ tuple_in schema c.row.table unique (Some row)
      acquired_tuple = ap (acquired schema unique) same ∙ (some_acquired schema unique c row told).0

      some_tuple : is_some (tuple_in schema c.row.table unique (Some row)) ≡ true
      some_tuple = ap is_some (sym (some_acquired schema unique c row told).0) ∙ (some_acquired schema unique c row told).1

      with_values : (need : Option Need) → ((values : List Value) → tuple_in schema c.row.table unique (Some row) ≡ Some values
          → need ≡ need_at schema channels (channel_of schema channels c.row) (last_of values)) → need ≡ need_here (acquired schema unique f.change)
      with_values need each = by (tuple_in schema c.row.table unique (Some row)) refl some_tuple
        where
          by : (t : Option (List Value)) → tuple_in schema c.row.table unique (Some row) ≡ t → is_some t ≡ true
              → need ≡ need_here (acquired schema unique f.change)
          by None is some = cc
          by (Some values) is some = each values is ∙ sym (by_values values) ∙ sym (ap need_here (acquired_tuple ∙ is))

      -- nor where no event in front releases its tuple
      pub need_of_none : ((values : List Value) → tuple_in schema c.row.table unique (Some row) ≡ Some values
          → None ≡ option_map vsn_and_change (last_of values))
          → None ≡ need_here (acquired schema unique f.change)
      need_of_none none = with_values None (λ values tuple. by (last_of values) (none values tuple))
        where
          by : (o : Option ChangeEvent) → None ≡ option_map vsn_and_change o → None ≡ need_at schema channels (channel_of schema channels c.row) o
          by None e = refl
          by (Some g) e = absurd (none-some (vsn_and_change g) e)

      -- else the last one that does
      pub need_of_some : (p : ℕ × Change) (count own : ℕ) (need : Option Need) → count ≡ channels → own ≡ channel_of schema count c.row
          → ((values : List Value) → tuple_in schema c.row.table unique (Some row) ≡ Some values
          → Some (as_row_change schema p) ≡ option_map vsn_and_change (last_of values))
          → ((g : ChangeEvent) → g.vsn ≡ p.0 → g.change ≡ row_change schema p.1 → need ≡ need_at schema count own (Some g))
          → need ≡ need_here (acquired schema unique f.change)
      need_of_some p count own need same_count is some each = with_values need (λ values tuple. by (last_of values) (some values tuple))
        where
          by : (o : Option ChangeEvent) → Some (as_row_change schema p) ≡ option_map vsn_and_change o
              → need ≡ need_at schema channels (channel_of schema channels c.row) o
          by None e = absurd (none-some (as_row_change schema p) (sym e))
          by (Some g) e =
              let pair = same_Some (as_row_change schema p) (vsn_and_change g) e in
              each g (sym (ap (λ q. q.0) pair)) (sym (ap (λ q. q.1) pair))
              ∙ ap (λ o. need_at schema count o (Some g)) is
              ∙ ap (λ n. need_at schema n (channel_of schema n c.row) (Some g)) same_count
