-- Entries are put behind the others, tuple by tuple.
use Rattle.std.specs.Prelude.{◌≡◌, ◌<◌, ◌≤◌, ◌+◌, ◌-◌, ◌%◌, ℕ, Bool, true, List, [], ◌∷◌, ◌++◌, Option, Some, None, is_some, length, map, refl, slice_get, if◌then◌else◌}
use Rattle.std.specs.List.{AllByRecursion, filter, range_with_len}
use Rattle.std.proofs.Common.{ap, arith, subst, sym, ◌∙◌}
use Rattle.std.proofs.lemmas.List.{append-nil, append_assoc, length-append, map-append}
use Rattle.voy_schema.specs.Rows.{values_at}
use Rattle.voy_schema.specs.declared.table.Table.{Table}
use Rattle.voy_schema.specs.declared.value.Value.{Value}
use Rattle.voy_tables.specs.Changes.{RowChange}
use Rattle.voy_event.specs.declared.event.Event.{Event}
use Rattle.voy_link.specs.Arena.{Contents, Node, inserted, node_of}
use Rattle.voy_order.specs.ChangeEvents.{ChangeEvent}
use Rattle.voy_order.specs.Channels.{channel_of}
use Rattle.voy_order.specs.Conflicts.{released, releasing_row, unique_keys_in}
use Rattle.voy_order.specs.RowsLost.{unique_key_at}
use Rattle.voy_tables.specs.Tables.{tuple_in}
use Rattle.voy_conflict.specs.Cache.{change_at}
use Rattle.voy_conflict.specs.Filing.{IsFiled, Puts, columns_of, key_if, keys_released, tuple_hash}
use Rattle.voy_conflict.specs.declared.entry.Entry.{Entry}
use Rattle.voy_conflict.proofs.ApartLemmas.{apart_with}
use Rattle.voy_conflict.proofs.RangeLemmas.{filtered_more, more_pass}
use Rattle.voy_conflict.proofs.TupleLemmas.{none_released, some_released, tuple_values}

all_with : (P : Node Entry → Type 0) (ns : List (Node Entry)) (n : Node Entry) → AllByRecursion P ns → P n → AllByRecursion P (ns ++ n ∷ [])
all_with P [] n all here = (here, tt)
all_with P (m ∷ ns) n all here = (all.0, all_with P ns n all.1 here)

module _ (schema : List Table) (c : RowChange) (at lane : ℕ) where
  abbrev entry_at : ℕ → Entry
  entry_at unique = record { at = at; unique = unique }

  -- none was put
  pub puts_none : (old : Contents Entry) → Puts schema c at lane [] old old
  puts_none old = record {
    kept = sym (append-nil (map (λ (n : Node Entry). n.item) old.nodes));
    spare = let same : old.spare + 0 ≡ old.spare = omega arith in same;
    buckets = refl;
    lanes = refl;
    apart = λ apart. apart;
    filed = λ events e there same lane_is all. all;
  }

  -- some and then others
  pub puts_on : (ks more : List ℕ) (old mid new : Contents Entry) → Puts schema c at lane ks old mid → Puts schema c at lane more mid new
      → Puts schema c at lane (ks ++ more) old new
  puts_on ks more old mid new first second = record {
    kept = second.kept
        ∙ ap (λ xs. xs ++ map entry_at more) first.kept
        ∙ append_assoc (map (λ (n : Node Entry). n.item) old.nodes) (map entry_at ks) (map entry_at more)
        ∙ ap (λ xs. map (λ (n : Node Entry). n.item) old.nodes ++ xs) (sym (map-append entry_at ks more));
    spare = let long : length (ks ++ more) ≡ length ks + length more = length-append ks more in let one = first.spare in let two = second.spare in omega
        (arith, long, one, two);
    buckets = second.buckets ∙ first.buckets;
    lanes = second.lanes ∙ first.lanes;
    apart = λ apart. second.apart (first.apart apart);
    filed = λ events e there same lane_is all.
        subst (λ b. AllByRecursion (IsFiled schema events b old.lanes) new.nodes) first.buckets
        (subst (λ l. AllByRecursion (IsFiled schema events mid.buckets l) new.nodes) first.lanes
        (second.filed events e there same (lane_is ∙ ap (λ l. channel_of schema l c.row) (sym first.lanes))
        (subst (λ l. AllByRecursion (IsFiled schema events mid.buckets l) mid.nodes) (sym first.lanes)
        (subst (λ b. AllByRecursion (IsFiled schema events b old.lanes) mid.nodes) (sym first.buckets)
        (first.filed events e there same lane_is all)))));
  }

  -- nothing is put of a unique key of which no tuple is released
  pub puts_no_key : (old : Contents Entry) (unique : ℕ) → releasing_row schema unique c ≡ None → Puts schema c at lane (key_if schema c unique) old old
  puts_no_key old unique told =
      subst (λ ks. Puts schema c at lane ks old old)
      (sym (ap (λ (t : Option (List Value)). if is_some t then unique ∷ [] else []) (none_released schema unique c told))) (puts_none old)

  -- else its entry
  pub puts_key : (old new : Contents Entry) (id bucket buckets table unique : ℕ) (row : List Value) → releasing_row schema unique c ≡ Some row
      → table ≡ c.row.table → old.buckets ≡ buckets
      → bucket ≡ tuple_hash table unique (values_at row (columns_of (unique_key_at (slice_get schema table) unique))) % buckets
      → 0 < old.spare → node_of old.nodes id ≡ None → new ≡ inserted old id bucket lane (entry_at unique)
      → Puts schema c at lane (key_if schema c unique) old new
  puts_key old new id bucket buckets table unique row told table_is buckets_are bucket_is some fresh is =
      subst (λ ks. Puts schema c at lane ks old new) (sym (ap (λ b. if b then unique ∷ [] else []) found.1))
      (subst (Puts schema c at lane (unique ∷ []) old) (sym is) (record {
        kept = map-append (λ (n : Node Entry). n.item) old.nodes (node ∷ []);
        spare = let same : (old.spare - 1) + 1 ≡ old.spare = omega (arith, some) in same;
        buckets = refl;
        lanes = refl;
        apart = apart_with old.nodes node fresh;
        filed = λ events e there same lane_is all. all_with (IsFiled schema events old.buckets old.lanes) old.nodes node all
            (by (released schema unique c) refl found.1 events e there same lane_is);
      }))
    where
      node : Node Entry
      node = record { id = id; bucket = bucket; lane = lane; item = entry_at unique }

      found : (released schema unique c ≡ tuple_in schema c.row.table unique (Some row)) × (is_some (released schema unique c) ≡ true)
      found = some_released schema unique c row told

      by : (t : Option (List Value)) → released schema unique c ≡ t → is_some t ≡ true → (events : List Event) (e : ChangeEvent)
          → change_at schema events at ≡ Some e → e.change ≡ c
          → lane ≡ channel_of schema old.lanes c.row → IsFiled schema events old.buckets old.lanes node
      by None there_is has events e there same lane_is = cc
      by (Some values) there_is has events e there same lane_is = record {
        event = e;
        there = there;
        values = values;
        releases = ap (released schema unique) same ∙ there_is;
        bucket = bucket_is
            ∙ ap (λ t. tuple_hash t unique (values_at row (columns_of (unique_key_at (slice_get schema t) unique))) % buckets) table_is
            ∙ ap (λ vs. tuple_hash c.row.table unique vs % buckets) (tuple_values schema c.row.table unique row values (sym found.0 ∙ there_is))
            ∙ ap (λ b. tuple_hash c.row.table unique values % b) (sym buckets_are)
            ∙ ap (λ (d : RowChange). tuple_hash d.row.table unique values % old.buckets) (sym same);
        lane = lane_is ∙ ap (λ (d : RowChange). channel_of schema old.lanes d.row) (sym same);
      }

  abbrev passes : ℕ → Bool
  passes unique = is_some (released schema unique c)

  -- ---- key by key

  -- the entries of one key more
  pub puts_more : (old mid new : Contents Entry) (i : ℕ) → Puts schema c at lane (filter passes (range_with_len 0 i)) old mid
      → Puts schema c at lane (key_if schema c i) mid new → Puts schema c at lane (filter passes (range_with_len 0 (i + 1))) old new
  puts_more old mid new i first second =
      subst (λ ks. Puts schema c at lane ks old new) (filtered_more passes i)
      (puts_on (filter passes (range_with_len 0 i)) (key_if schema c i) old mid new first second)

  pub puts_all : (old new : Contents Entry) (i n : ℕ) → n ≤ i → i ≤ n → n ≡ unique_keys_in (slice_get schema c.row.table)
      → Puts schema c at lane (filter passes (range_with_len 0 i)) old new → Puts schema c at lane (keys_released schema c) old new
  puts_all old new i n all within is puts =
      let same : i ≡ n = omega (arith, all, within) in
      subst (λ k. Puts schema c at lane (filter passes (range_with_len 0 k)) old new) (same ∙ is) puts

  -- there is room for one more where a further key is released
  pub room_left : (old mid : Contents Entry) (i n : ℕ) → i < n → n ≡ unique_keys_in (slice_get schema c.row.table) → length (keys_released schema c) ≤ old.spare
      → Puts schema c at lane (filter passes (range_with_len 0 i)) old mid → passes i ≡ true → 0 < mid.spare
  room_left old mid i n below is room puts yes_passes =
      let more = more_pass passes i n below yes_passes in
      let all : length (filter passes (range_with_len 0 n)) ≡ length (keys_released schema c) = ap (λ k. length (filter passes (range_with_len 0 k))) is in
      let spare = puts.spare in
      omega (arith, more, all, spare, room)
