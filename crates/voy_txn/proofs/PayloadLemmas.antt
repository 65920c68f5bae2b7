-- A payload reads as a transaction exactly where it is the payload of it.
use Rattle.std.proofs.Common.{◌≡◌, ℕ, suc, ◌≤◌, ◌<◌, ◌^◌, Bool, true, false, cond, eqb, leb, ltb, ◌&&◌, List, [], ◌∷◌, ◌++◌, length, Option, Some, None, refl, sym, ap, subst, ◌∙◌, arith}
use Rattle.std.specs.List.{flat_map, slice_get}
use Rattle.std.proofs.lemmas.Bool.{and_parts, eqb-true, le-leb, leb-true, lt-ltb, ltb-true}
use Rattle.std.proofs.lemmas.List.{append-nil, nil_from_length}
use Rattle.std.proofs.lemmas.Option.{slice_get_within}
use Rattle.voy_schema.specs.Lawful.{is_lawful, is_lawful_table}
use Rattle.voy_schema.specs.LawfulLaws.{table_count, table_is_lawful, tables_are_lawful}
use Rattle.voy_schema.specs.declared.table.Table.{Table}
use Rattle.voy_schema.specs.declared.value.Value.{Value}
use Rattle.voy_tables.specs.RowText.{row_lines}
use Rattle.voy_tables.specs.RowLaws.{RowsReadBack}
use Rattle.voy_event.specs.Laws.{EventsReadBack}
use Rattle.voy_event.specs.declared.event.Event.{Event}
use Rattle.voy_txn.specs.LawfulTxn.{AreLawfulItems, AreLoaded, AreRowsOf, AreWritten, IsLawfulBatch, IsLawfulEpoch, IsLawfulTxn, IsPayload, max_channels, max_items}
use Rattle.voy_txn.specs.Laws.{PayloadsReadBack}
use Rattle.voy_txn.specs.Payload.{batch_kind, epoch_kind, events_kind, item_part, load_kind, number, payload_of, rows_part, vsn_bytes}
use Rattle.voy_txn.specs.Reading.{◌>>=◌, ascending_items, batch_of, batch_rows, counted_rows, epoch_of, events_of, lists_of, load_of, number_at, part_at, txn_reading, vsn_at}
use Rattle.voy_txn.specs.declared.txn.Txn.{Txn}
use Rattle.voy_txn.specs.declared.txn.Txn.TheVariants.{Load, Batch, Events, Epoch}
use Rattle.voy_txn.proofs.FieldLemmas.{AreBytes, bind_some, number_again, number_takes, passed, vsn_again, vsn_takes}
use Rattle.voy_txn.proofs.ItemLemmas.{ascending_again, ascending_take, items_take}
use Rattle.voy_txn.proofs.RowLemmas.{counted_again, lists_again, lists_take, loaded_length, rows_part_again, rows_take}

-- what the fields behind a kind byte are, and which transaction they state
record IsRead (schema : List Table) (kind : ℕ) (fields : List ℕ) (txn : Txn) : Type 0 where
  lawful : IsLawfulTxn schema txn
  text : kind ∷ fields ≡ payload_of schema txn

-- ---- what was read is a payload

load_takes : RowsReadBack → (schema : List Table) (fields : List ℕ) (txn : Txn) → is_lawful schema ≡ true → AreBytes fields
    → load_of schema fields ≡ Some txn → IsRead schema load_kind fields txn
unfolding load_of payload_of
load_takes by_rows schema fields txn lawful fit read =
    let count = bind_some (number_at fields) (λ count. cond (eqb count.0 (length schema)) (lists_of schema count.1 >>= λ lists. Some (Load lists)) None) txn read in
    let test = chosen (eqb count.0.0 (length schema)) (lists_of schema count.0.1 >>= λ lists. Some (Load lists)) txn count.2 in
    let lists = bind_some (lists_of schema count.0.1) (λ lists. Some (Load lists)) txn test.1 in
    let front = number_takes fields count.0 fit count.1 in
    let loaded = lists_take by_rows schema count.0.1 lists.0 (tables_are_lawful schema lawful) front.0.fit lists.1 in
    let many : count.0.0 ≡ length lists.0 = eqb-true _ _ test.0 ∙ sym (loaded_length schema lists.0 loaded.0) in
    let text : fields ≡ number (length lists.0) ++ flat_map rows_part lists.0 =
    front.0.parts ∙ ap (λ n. number n ++ count.0.1) many ∙ ap (λ (x : List ℕ). number (length lists.0) ++ x) loaded.1 in
    let made : IsRead schema load_kind fields (Load lists.0) = record { lawful = loaded.0; text = ap (λ (x : List ℕ). load_kind ∷ x) text } in
    let same : Load lists.0 ≡ txn = cc in
    subst (IsRead schema load_kind fields) same made
  where
    chosen : (b : Bool) (o : Option Txn) (x : Txn) → cond b o None ≡ Some x → (b ≡ true) × (o ≡ Some x)
    chosen true o x e = (refl, e)
    chosen false o x e = absurd cc

-- the rows of a batch's part, and nothing behind them
batch_rows_take : RowsReadBack → (t : Table) (bytes : List ℕ) (rows : List (List Value)) → is_lawful_table t ≡ true → AreBytes bytes
    → batch_rows (Some t) bytes ≡ Some rows → (bytes ≡ rows_part rows) × AreWritten t rows × (1 ≤ length rows)
unfolding batch_rows
batch_rows_take by_rows t bytes rows lawful fit read =
    let part = bind_some (part_at bytes) (λ part. counted_rows t part.0 part.1 >>= λ (rows : List (List Value)). cond (leb 1 (length rows) && eqb (length part.2) 0) (Some rows) None) rows read in
    let step = bind_some (counted_rows t part.0.0 part.0.1) (λ (rows : List (List Value)). cond (leb 1 (length rows) && eqb (length part.0.2) 0) (Some rows) None) rows part.2 in
    let test = passed (leb 1 (length step.0) && eqb (length part.0.2) 0) step.0 rows step.2 in
    let parts = and_parts (leb 1 (length step.0)) (eqb (length part.0.2) 0) test.0 in
    let front = rows_take by_rows t bytes part.0 step.0 lawful fit part.1 step.1 in
    let nothing : part.0.2 ≡ [] = nil_from_length part.0.2 (eqb-true _ _ parts.1) in
    let text : bytes ≡ rows_part step.0 = front.0.parts ∙ ap (λ (x : List ℕ). rows_part step.0 ++ x) nothing ∙ append-nil (rows_part step.0) in
    subst (λ (x : List (List Value)). (bytes ≡ rows_part x) × AreWritten t x × (1 ≤ length x)) test.1 (text, front.1, leb-true _ _ parts.0)

-- the same for the table at a place
batch_rows_in : RowsReadBack → (schema : List Table) (place : ℕ) (o : Option Table) (bytes : List ℕ) (rows : List (List Value)) → is_lawful schema ≡ true → AreBytes bytes
    → slice_get schema place ≡ o → batch_rows o bytes ≡ Some rows → (bytes ≡ rows_part rows) × AreRowsOf o rows × (1 ≤ length rows)
unfolding batch_rows
batch_rows_in by_rows schema place None bytes rows lawful fit there read = absurd cc
batch_rows_in by_rows schema place (Some t) bytes rows lawful fit there read = batch_rows_take by_rows t bytes rows (table_is_lawful schema place t lawful there) fit read

batch_takes : RowsReadBack → (schema : List Table) (fields : List ℕ) (txn : Txn) → is_lawful schema ≡ true → AreBytes fields
    → batch_of schema fields ≡ Some txn → IsRead schema batch_kind fields txn
unfolding batch_of payload_of
batch_takes by_rows schema fields txn lawful fit read =
    let table = bind_some (number_at fields) (λ table. number_at table.1 >>= λ batch. batch_rows (slice_get schema table.0) batch.1 >>= λ rows. Some (Batch table.0 batch.0 rows)) txn read in
    let batch = bind_some (number_at table.0.1) (λ batch. batch_rows (slice_get schema table.0.0) batch.1 >>= λ rows. Some (Batch table.0.0 batch.0 rows)) txn table.2 in
    let rows = bind_some (batch_rows (slice_get schema table.0.0) batch.0.1) (λ rows. Some (Batch table.0.0 batch.0.0 rows)) txn batch.2 in
    let first = number_takes fields table.0 fit table.1 in
    let second = number_takes table.0.1 batch.0 first.0.fit batch.1 in
    let third = batch_rows_in by_rows schema table.0.0 (slice_get schema table.0.0) batch.0.1 rows.0 lawful second.0.fit refl rows.1 in
    let text : fields ≡ number table.0.0 ++ (number batch.0.0 ++ rows_part rows.0) =
    first.0.parts ∙ ap (λ (x : List ℕ). number table.0.0 ++ x) (second.0.parts ∙ ap (λ (x : List ℕ). number batch.0.0 ++ x) third.0) in
    let made : IsRead schema batch_kind fields (Batch table.0.0 batch.0.0 rows.0) = record {
      lawful = record { of_table = third.1; some = third.2; number = second.1 };
      text = ap (λ (x : List ℕ). batch_kind ∷ x) text;
    } in
    let same : Batch table.0.0 batch.0.0 rows.0 ≡ txn = cc in
    subst (IsRead schema batch_kind fields) same made

events_take : (schema : List Table) (fields : List ℕ) (txn : Txn) → AreBytes fields
    → events_of schema fields ≡ Some txn → IsRead schema events_kind fields txn
unfolding events_of payload_of
events_take schema fields txn fit read =
    let tested = λ (channel count : ℕ). ltb channel max_channels && leb 1 count && leb count max_items in
    let channel = bind_some (number_at fields) (λ channel. number_at channel.1 >>= λ count. cond (tested channel.0 count.0) (ascending_items schema count.0 count.1 >>= λ items. Some (Events channel.0 items)) None) txn read in
    let count = bind_some (number_at channel.0.1) (λ count. cond (tested channel.0.0 count.0) (ascending_items schema count.0 count.1 >>= λ items. Some (Events channel.0.0 items)) None) txn channel.2 in
    let test = chosen (tested channel.0.0 count.0.0) (ascending_items schema count.0.0 count.0.1 >>= λ items. Some (Events channel.0.0 items)) txn count.2 in
    let items = bind_some (ascending_items schema count.0.0 count.0.1) (λ items. Some (Events channel.0.0 items)) txn test.1 in
    let bounds = and_parts (ltb channel.0.0 max_channels && leb 1 count.0.0) (leb count.0.0 max_items) test.0 in
    let lower = and_parts (ltb channel.0.0 max_channels) (leb 1 count.0.0) bounds.0 in
    let first = number_takes fields channel.0 fit channel.1 in
    let second = number_takes channel.0.1 count.0 first.0.fit count.1 in
    let up = ascending_take schema count.0.0 count.0.1 items.0 items.1 in
    let third = items_take schema count.0.0 count.0.1 items.0 second.0.fit up.0 in
    let text : fields ≡ number channel.0.0 ++ (number (length items.0) ++ flat_map (item_part schema) items.0) =
    first.0.parts ∙ ap (λ (x : List ℕ). number channel.0.0 ++ x)
    (second.0.parts ∙ ap (λ n. number n ++ count.0.1) (sym third.1) ∙ ap (λ (x : List ℕ). number (length items.0) ++ x) third.2) in
    let at_least : 1 ≤ count.0.0 = leb-true _ _ lower.1 in
    let at_most : count.0.0 ≤ max_items = leb-true _ _ bounds.1 in
    let made : IsRead schema events_kind fields (Events channel.0.0 items.0) = record {
      lawful = record { within = ltb-true _ _ lower.0; some = omega (arith, at_least, third.1); most = omega (arith, at_most, third.1); ascend = up.1; each = third.0 };
      text = ap (λ (x : List ℕ). events_kind ∷ x) text;
    } in
    let same : Events channel.0.0 items.0 ≡ txn = cc in
    subst (IsRead schema events_kind fields) same made
  where
    chosen : (b : Bool) (o : Option Txn) (x : Txn) → cond b o None ≡ Some x → (b ≡ true) × (o ≡ Some x)
    chosen true o x e = (refl, e)
    chosen false o x e = absurd cc

epoch_takes : (schema : List Table) (fields : List ℕ) (txn : Txn) → AreBytes fields → epoch_of fields ≡ Some txn → IsRead schema epoch_kind fields txn
unfolding epoch_of payload_of
epoch_takes schema fields txn fit read =
    let tested = λ (channels : ℕ) (rest : List ℕ). leb 1 channels && leb channels max_channels && eqb (length rest) 0 in
    let vsn = bind_some (vsn_at fields) (λ vsn. number_at vsn.1 >>= λ channels. cond (tested channels.0 channels.1) (Some (Epoch vsn.0 channels.0)) None) txn read in
    let channels = bind_some (number_at vsn.0.1) (λ channels. cond (tested channels.0 channels.1) (Some (Epoch vsn.0.0 channels.0)) None) txn vsn.2 in
    let test = passed (tested channels.0.0 channels.0.1) (Epoch vsn.0.0 channels.0.0) txn channels.2 in
    let parts = and_parts (leb 1 channels.0.0 && leb channels.0.0 max_channels) (eqb (length channels.0.1) 0) test.0 in
    let bounds = and_parts (leb 1 channels.0.0) (leb channels.0.0 max_channels) parts.0 in
    let first = vsn_takes fields vsn.0 fit vsn.1 in
    let second = number_takes vsn.0.1 channels.0 first.0.fit channels.1 in
    let nothing : channels.0.1 ≡ [] = nil_from_length channels.0.1 (eqb-true _ _ parts.1) in
    let text : fields ≡ vsn_bytes vsn.0.0 ++ number channels.0.0 =
    first.0.parts ∙ ap (λ (x : List ℕ). vsn_bytes vsn.0.0 ++ x)
    (second.0.parts ∙ ap (λ (x : List ℕ). number channels.0.0 ++ x) nothing ∙ append-nil (number channels.0.0)) in
    let made : IsRead schema epoch_kind fields (Epoch vsn.0.0 channels.0.0) = record {
      lawful = record { wide = first.1; some = leb-true _ _ bounds.0; most = leb-true _ _ bounds.1 };
      text = ap (λ (x : List ℕ). epoch_kind ∷ x) text;
    } in
    subst (IsRead schema epoch_kind fields) test.1 made

AreBytes-behind : (b : ℕ) (bytes : List ℕ) → AreBytes (b ∷ bytes) → AreBytes bytes
AreBytes-behind b bytes fit i = fit (suc i)

-- what was read is the transaction whose payload the bytes are
pub reading_takes : RowsReadBack → (schema : List Table) (bytes : List ℕ) (txn : Txn) → is_lawful schema ≡ true → AreBytes bytes
    → txn_reading schema bytes ≡ Some txn → IsPayload schema bytes txn
unfolding txn_reading
reading_takes by_rows schema [] txn lawful fit read = absurd cc
reading_takes by_rows schema (kind ∷ fields) txn lawful fit read =
    by_kind load_kind (load_of schema fields) (or_batch (or_events (or_epoch None))) (load_takes by_rows schema fields txn lawful rest)
    (by_kind batch_kind (batch_of schema fields) (or_events (or_epoch None)) (batch_takes by_rows schema fields txn lawful rest)
    (by_kind events_kind (events_of schema fields) (or_epoch None) (events_take schema fields txn rest)
    (by_kind epoch_kind (epoch_of fields) None (epoch_takes schema fields txn rest) (λ none. absurd (nothing none))))) read
  where
    or_epoch : Option Txn → Option Txn
    or_epoch = cond (eqb kind epoch_kind) (epoch_of fields)

    or_events : Option Txn → Option Txn
    or_events = cond (eqb kind events_kind) (events_of schema fields)

    or_batch : Option Txn → Option Txn
    or_batch = cond (eqb kind batch_kind) (batch_of schema fields)

    rest : AreBytes fields
    rest = AreBytes-behind kind fields fit

    nothing : None ≡ Some txn → ⊥
    nothing none = cc

    by_kind : (k : ℕ) (read others : Option Txn) → (read ≡ Some txn → IsRead schema k fields txn) → (others ≡ Some txn → IsPayload schema (kind ∷ fields) txn)
        → cond (eqb kind k) read others ≡ Some txn → IsPayload schema (kind ∷ fields) txn
    by_kind k read others takes behind = go (eqb kind k) refl where
      go : (b : Bool) → eqb kind k ≡ b → cond b read others ≡ Some txn → IsPayload schema (kind ∷ fields) txn
      go true is e = let found = takes e in record { lawful = found.lawful; text = ap (λ n. n ∷ fields) (eqb-true kind k is) ∙ found.text }
      go false is e = behind e

-- ---- a payload is read

-- four bytes can state how many tables a load has
pub load_count : (schema : List Table) (lists : List (List (List Value))) → is_lawful schema ≡ true → AreLoaded schema lists → length lists < 2 ^ 32
load_count schema lists lawful loaded = omega (arith, loaded_length schema lists loaded, (table_count schema lawful).1)

load_again : RowsReadBack → (schema : List Table) (lists : List (List (List Value))) → is_lawful schema ≡ true → AreLoaded schema lists
    → load_of schema (number (length lists) ++ flat_map rows_part lists) ≡ Some (Load lists)
unfolding load_of
load_again by_rows schema lists lawful loaded =
    let many = loaded_length schema lists loaded in
    let fits = load_count schema lists lawful loaded in
    let counted : eqb (length lists) (length schema) ≡ true = grind (arith, many) in
    rw (number_again (length lists) (flat_map rows_part lists) fits, counted, lists_again by_rows schema lists (tables_are_lawful schema lawful) loaded) refl

batch_rows_again : RowsReadBack → (schema : List Table) (place : ℕ) (o : Option Table) (rows : List (List Value)) → is_lawful schema ≡ true → slice_get schema place ≡ o
    → AreRowsOf o rows → 1 ≤ length rows → (batch_rows o (rows_part rows) ≡ Some rows) × (place < length schema)
unfolding batch_rows
batch_rows_again by_rows schema place None rows lawful there has some = absurd has
batch_rows_again by_rows schema place (Some t) rows lawful there has some =
    let whole : rows_part rows ≡ rows_part rows ++ [] = sym (append-nil (rows_part rows)) in
    let read : part_at (rows_part rows) ≡ Some (length rows, row_lines rows, []) = ap part_at whole ∙ rows_part_again t rows [] has in
    let counted = counted_again by_rows t rows (table_is_lawful schema place t lawful there) has.each in
    (rw (read, counted, le-leb 1 (length rows) some) refl, slice_get_within schema place t there)

batch_again : RowsReadBack → (schema : List Table) (table batch : ℕ) (rows : List (List Value)) → is_lawful schema ≡ true → IsLawfulBatch schema table batch rows
    → batch_of schema (number table ++ (number batch ++ rows_part rows)) ≡ Some (Batch table batch rows)
unfolding batch_of
batch_again by_rows schema table batch rows lawful has =
    let read = batch_rows_again by_rows schema table (slice_get schema table) rows lawful refl has.of_table has.some in
    let few = table_count schema lawful in
    let fits : table < 2 ^ 32 = omega (arith, read.1, few.1) in
    rw (number_again table (number batch ++ rows_part rows) fits, number_again batch (rows_part rows) has.number, read.0) refl

events_again : EventsReadBack → (schema : List Table) (channel : ℕ) (items : List Event) → is_lawful schema ≡ true → AreLawfulItems schema channel items
    → events_of schema (number channel ++ (number (length items) ++ flat_map (item_part schema) items)) ≡ Some (Events channel items)
unfolding events_of
events_again by_lines schema channel items lawful has =
    let below : channel < 2 ^ 32 = omega (arith, has.within) in
    let few : length items < 2 ^ 32 = omega (arith, has.most) in
    let text = flat_map (item_part schema) items in
    rw (
      number_again channel (number (length items) ++ text) below,
      number_again (length items) text few,
      lt-ltb channel max_channels has.within,
      le-leb 1 (length items) has.some,
      le-leb (length items) max_items has.most,
      ascending_again by_lines schema items lawful has.each has.ascend,
    ) refl

epoch_again : (vsn channels : ℕ) → IsLawfulEpoch vsn channels → epoch_of (vsn_bytes vsn ++ number channels) ≡ Some (Epoch vsn channels)
unfolding epoch_of
epoch_again vsn channels has =
    let below : channels < 2 ^ 32 = omega (arith, has.most) in
    let whole : number channels ≡ number channels ++ [] = sym (append-nil (number channels)) in
    let read : number_at (number channels) ≡ Some (channels, []) = ap number_at whole ∙ number_again channels [] below in
    rw (vsn_again vsn (number channels) has.wide, read, le-leb 1 channels has.some, le-leb channels max_channels has.most) refl

-- the payload of a lawful transaction reads as it
pub payload_again : RowsReadBack → EventsReadBack → (schema : List Table) (txn : Txn) → is_lawful schema ≡ true → IsLawfulTxn schema txn → txn_reading schema (payload_of schema txn) ≡ Some txn
unfolding payload_of txn_reading
payload_again by_rows by_lines schema (Load lists) lawful has = load_again by_rows schema lists lawful has
payload_again by_rows by_lines schema (Batch table batch rows) lawful has = batch_again by_rows schema table batch rows lawful has
payload_again by_rows by_lines schema (Events channel items) lawful has = events_again by_lines schema channel items lawful has
payload_again by_rows by_lines schema (Epoch vsn channels) lawful has = epoch_again vsn channels has

-- bytes that are a payload read as its transaction
pub reading_again : RowsReadBack → EventsReadBack → (schema : List Table) (bytes : List ℕ) (txn : Txn) → is_lawful schema ≡ true → IsPayload schema bytes txn → txn_reading schema bytes ≡ Some txn
reading_again by_rows by_lines schema bytes txn lawful is = ap (txn_reading schema) is.text ∙ payload_again by_rows by_lines schema txn lawful is.lawful

pub one_transaction : RowsReadBack → EventsReadBack → PayloadsReadBack
one_transaction by_rows by_lines schema bytes a b lawful is_a is_b =
    let reads_a = reading_again by_rows by_lines schema bytes a lawful is_a in
    let reads_b = reading_again by_rows by_lines schema bytes b lawful is_b in
    cc
