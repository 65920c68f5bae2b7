-- Which tables a transaction names, by their places in the schema, and which channel.
use Rattle.std.specs.Prelude.{◌≡◌, ◌<◌, ℕ, Bool, true, List, [], ◌∷◌, Option, Some, None, length, nat_lt, refl, slice_get}
use Rattle.std.specs.List.{list_all}
use Rattle.std.proofs.lemmas.Bool.{and_from, and_parts, lt-ltb}
use Rattle.std.proofs.lemmas.Option.{slice_get_within}
use Rattle.voy_schema.specs.declared.table.Table.{Table}
use Rattle.voy_schema.specs.declared.value.Value.{Value}
use Rattle.voy_tables.specs.Changes.{is_row_of, is_well_formed, table_of}
use Rattle.voy_tables.specs.declared.change.Change.{Change}
use Rattle.voy_tables.specs.declared.change.Change.TheVariants.{Insert, Update, Delete}
use Rattle.voy_txn.specs.Items.{items_of}
use Rattle.voy_txn.specs.LawfulTxn.{AreRowsOf, IsLawfulTxn, max_channels}
use Rattle.voy_txn.specs.LoadLaws.{items_are_well_formed}
use Rattle.voy_txn.specs.declared.txn.Txn.{Txn}
use Rattle.voy_txn.specs.declared.txn.Txn.TheVariants.{Load, Batch, Events, Epoch}

-- each of these changes is of one of so many tables
abbrev pub are_below : ℕ → List Change → Bool
are_below count changes = list_all (λ c. nat_lt (table_of c) count) changes

-- how many tables a load has rows for; 0 for all else
abbrev pub width_of : Txn → ℕ
width_of (Load tables) = length tables
width_of (Batch table batch rows) = 0
width_of (Events channel items) = 0
width_of (Epoch vsn channels) = 0

-- a batch, and the changes of events, are of one of so many tables
abbrev pub NamesTables : ℕ → Txn → Type 0
NamesTables count (Load tables) = Unit {0}
NamesTables count (Batch table batch rows) = nat_lt table count ≡ true
NamesTables count (Events channel items) = are_below count (items_of (Events channel items)) ≡ true
NamesTables count (Epoch vsn channels) = Unit {0}

-- the channel of events is one of those that there may be
abbrev pub IsInChannels : Txn → Type 0
IsInChannels (Load tables) = Unit {0}
IsInChannels (Batch table batch rows) = Unit {0}
IsInChannels (Events channel items) = channel < max_channels
IsInChannels (Epoch vsn channels) = Unit {0}

-- where a row is of the table at a place, there is that place
row_within : (schema : List Table) (place : ℕ) (row : List Value) → is_row_of (slice_get schema place) row ≡ true → nat_lt place (length schema) ≡ true
row_within schema place row of = by (slice_get schema place) refl of where
  by : (found : Option Table) → slice_get schema place ≡ found → is_row_of found row ≡ true → nat_lt place (length schema) ≡ true
  by None is of = cc
  by (Some t) is of = lt-ltb place (length schema) (slice_get_within schema place t is)

change_within : (schema : List Table) (c : Change) → is_well_formed schema c ≡ true → nat_lt (table_of c) (length schema) ≡ true
change_within schema (Insert table after) well = row_within schema table after well
change_within schema (Update table before after) well = row_within schema table before (and_parts _ _ (and_parts _ _ well).0).0
change_within schema (Delete table before) well = row_within schema table before well

changes_within : (schema : List Table) (cs : List Change) → list_all (is_well_formed schema) cs ≡ true → are_below (length schema) cs ≡ true
changes_within schema [] well = refl
changes_within schema (c ∷ cs) well =
    let parts = and_parts (is_well_formed schema c) (list_all (is_well_formed schema) cs) well in
    and_from (nat_lt (table_of c) (length schema)) (are_below (length schema) cs) (change_within schema c parts.0) (changes_within schema cs parts.1)

-- all items of a lawful transaction are of tables of the schema
pub items_are_below : (schema : List Table) (txn : Txn) → IsLawfulTxn schema txn → are_below (length schema) (items_of txn) ≡ true
items_are_below schema txn lawful = changes_within schema (items_of txn) (items_are_well_formed schema txn lawful)

-- a lawful transaction names tables of the schema
pub names_tables : (schema : List Table) (txn : Txn) → IsLawfulTxn schema txn → NamesTables (length schema) txn
names_tables schema (Load tables) lawful = tt
names_tables schema (Batch table batch rows) lawful = by (slice_get schema table) refl lawful.of_table where
  by : (found : Option Table) → slice_get schema table ≡ found → AreRowsOf found rows → nat_lt table (length schema) ≡ true
  by None is of = absurd of
  by (Some t) is of = lt-ltb table (length schema) (slice_get_within schema table t is)
names_tables schema (Events channel items) lawful = items_are_below schema (Events channel items) lawful
names_tables schema (Epoch vsn channels) lawful = tt

-- and a channel that there may be
pub is_in_channels : (schema : List Table) (txn : Txn) → IsLawfulTxn schema txn → IsInChannels txn
is_in_channels schema (Load tables) lawful = tt
is_in_channels schema (Batch table batch rows) lawful = tt
is_in_channels schema (Events channel items) lawful = lawful.within
is_in_channels schema (Epoch vsn channels) lawful = tt
