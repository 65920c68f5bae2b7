-- Which tables the bytes of `schema.json` state, and the first rule that they break.
use Rattle.std.specs.Prelude.{ℕ, ◌+◌, Bool, List, [], ◌∷◌, ◌++◌, ◌&&◌, length, map, nat_le, not, Option, Some, None, Result, Ok, Err, is_some, option_and_then, codes, if◌then◌else◌}
use Rattle.std.specs.List.{list_all, list_any, position_or_len}
use Rattle.std.specs.Str.{bytes_eq}
use Rattle.serde_json.specs.Data.{Data, Items, no_items, item}
use Rattle.serde_json.specs.Events.{items_len}
use Rattle.serde_json.specs.Find.{as_array, get}
use Rattle.voy_json.specs.Document.{data_of_bytes}
use Rattle.voy_schema.specs.Lawful.{is_distinct, is_name, is_named}
use Rattle.voy_schema.specs.Stated.{is_exact, stated_table}
use Rattle.voy_schema.specs.declared.stated.StatedColumn.{StatedColumn}
use Rattle.voy_schema.specs.declared.stated.StatedKey.{StatedKey}
use Rattle.voy_schema.specs.declared.stated.StatedTable.{StatedTable}
use Rattle.voy_schema.specs.declared.table.Column.{Column}
use Rattle.voy_schema.specs.declared.table.Kind.{Kind}
use Rattle.voy_schema.specs.declared.table.Kind.TheVariants as kind
use Rattle.voy_schema.specs.declared.table.Table.{Table}
use Rattle.voy_schema.specs.declared.table.UniqueKey.{UniqueKey}
use Rattle.voy_schema.specs.declared.why.SchemaError.{SchemaError}
use Rattle.voy_schema.specs.declared.why.SchemaError.TheVariants.{Bad, NoMemory}
use Rattle.voy_schema.specs.declared.why.SchemaWhy.{SchemaWhy}
use Rattle.voy_schema.specs.declared.why.SchemaWhy.TheVariants as why

-- the text of a why
unfoldable pub why_text : SchemaWhy → List ℕ
why_text why.NotJson = codes "not json"
why_text why.Shape = codes "wrong shape"
why_text why.TooMany = codes "too many"
why_text why.BadName = codes "bad name"
why_text why.BadType = codes "bad type"
why_text why.Repeated = codes "repeated"
why_text why.NoColumn = codes "no such column"
why_text why.NoKey = codes "no key"

-- the kind that a type's name stands for
unfoldable pub kind_named : List ℕ → Option Kind
kind_named name =
    if bytes_eq name (codes "text") then Some kind.Text
    else if bytes_eq name (codes "bigint") then Some kind.Bigint
    else if bytes_eq name (codes "boolean") then Some kind.Boolean
    else if bytes_eq name (codes "bytea") then Some kind.Bytea
    else None

abbrev pub names_of : List StatedColumn → List (List ℕ)
names_of columns = map (λ (c : StatedColumn). c.name) columns

-- the primary key and the unique keys, each as names of columns
abbrev pub keys_of : StatedTable → List (List (List ℕ))
keys_of s = s.primary_key ∷ map (λ (k : StatedKey). k.columns) s.unique_keys

-- 1 to 64 columns, and at most 8 unique keys
abbrev pub has_lawful_counts : StatedTable → Bool
has_lawful_counts s = nat_le 1 (length s.columns) && nat_le (length s.columns) 64 && nat_le (length s.unique_keys) 8

abbrev pub has_lawful_names : StatedTable → Bool
has_lawful_names s = is_name s.schema_name && is_name s.table_name && list_all is_name (names_of s.columns)

-- each column's type is one of the four
abbrev pub has_known_types : StatedTable → Bool
has_known_types s = list_all (λ (c : StatedColumn). is_some (kind_named c.kind)) s.columns

-- no column name stands twice, no column stands twice in one key, and no table before has both names
abbrev pub has_no_repeat : List Table → StatedTable → Bool
has_no_repeat earlier s =
    is_distinct bytes_eq (names_of s.columns)
    && list_all (is_distinct bytes_eq) (keys_of s)
    && not (list_any (is_named s.schema_name s.table_name) earlier)

abbrev pub is_column : List StatedColumn → List ℕ → Bool
is_column columns name = list_any (bytes_eq name) (names_of columns)

-- each key names columns of the table alone
abbrev pub has_known_columns : StatedTable → Bool
has_known_columns s = list_all (list_all (is_column s.columns)) (keys_of s)

-- each key has a column
abbrev pub has_whole_keys : StatedTable → Bool
has_whole_keys s = list_all (λ key. nat_le 1 (length key)) (keys_of s)

-- `text` stands here for a type that is none of the four, which no table that is read has
abbrev pub kind_or_text : Option Kind → Kind
kind_or_text (Some k) = k
kind_or_text None = kind.Text

abbrev pub column_of : StatedColumn → Column
column_of c = record { name = c.name; kind = kind_or_text (kind_named c.kind) }

-- the place of the column with this name, from 0
abbrev pub place_in : List StatedColumn → List ℕ → ℕ
place_in columns name = position_or_len (bytes_eq name) (names_of columns)

abbrev pub places_of : List StatedColumn → List (List ℕ) → List ℕ
places_of columns key = map (place_in columns) key

abbrev pub unique_key_of : List StatedColumn → StatedKey → UniqueKey
unique_key_of columns k = record { columns = places_of columns k.columns; nulls_not_distinct = k.nulls_not_distinct }

-- the table that is stated, its keys by the places of their columns
abbrev pub table_stated : StatedTable → Table
table_stated s = record {
  schema_name = s.schema_name;
  table_name = s.table_name;
  columns = map column_of s.columns;
  primary_key = places_of s.columns s.primary_key;
  unique_keys = map (unique_key_of s.columns) s.unique_keys;
}

-- the first rule that a table behind these ones breaks, of those that speak of a table of the right shape
abbrev pub broken_rule : List Table → StatedTable → Option SchemaWhy
broken_rule earlier s =
    if not (has_lawful_counts s) then Some why.TooMany
    else if not (has_lawful_names s) then Some why.BadName
    else if not (has_known_types s) then Some why.BadType
    else if not (has_no_repeat earlier s) then Some why.Repeated
    else if not (has_known_columns s) then Some why.NoColumn
    else if not (has_whole_keys s) then Some why.NoKey
    else None

-- what stands where no rule is broken
abbrev pub unless : {A : Type 0} → Option SchemaWhy → A → Result A SchemaWhy
unless (Some w) x = Err w
unless None x = Ok x

-- a table behind these ones, or the first rule that it breaks
abbrev pub table_or_why : List Table → Option StatedTable → Result Table SchemaWhy
table_or_why earlier None = Err why.Shape
table_or_why earlier (Some s) = unless (broken_rule earlier s) (table_stated s)

-- the tables so far with one more, or the number of the one that breaks a rule, from 1
abbrev pub with_table : List Table → Result Table SchemaWhy → Result (List Table) (ℕ × SchemaWhy)
with_table earlier (Ok t) = Ok (earlier ++ t ∷ [])
with_table earlier (Err w) = Err (length earlier + 1, w)

-- the tables so far with those that the items state, one after the other up to the first that breaks a rule
abbrev pub tables_reading : Result (List Table) (ℕ × SchemaWhy) → Items → Result (List Table) (ℕ × SchemaWhy)
tables_reading (Err refusal) ds = Err refusal
tables_reading (Ok earlier) no_items = Ok earlier
tables_reading (Ok earlier) (item d ds) = tables_reading (with_table earlier (table_or_why earlier (stated_table d))) ds

unfoldable pub document_names : List (List ℕ)
document_names = codes "tables" ∷ []

-- the list of a document of the right shape
abbrev pub stated_items : Data → Option Items
stated_items d = if is_exact document_names d then option_and_then as_array (get (codes "tables") d) else None

-- 1 to 256 items
abbrev pub has_lawful_count : Items → Bool
has_lawful_count items = nat_le 1 (items_len items) && nat_le (items_len items) 256

-- the document has the number 0
abbrev pub items_reading : Option Items → Result (List Table) (ℕ × SchemaWhy)
items_reading None = Err (0, why.Shape)
items_reading (Some items) =
    if not (has_lawful_count items) then Err (0, why.TooMany) else tables_reading (Ok []) items

abbrev pub tables_of_document : Option Data → Result (List Table) (ℕ × SchemaWhy)
tables_of_document None = Err (0, why.NotJson)
tables_of_document (Some d) = items_reading (stated_items d)

-- the tables that the bytes state, or the first that breaks a rule and its first such rule
unfoldable pub schema_reading : List ℕ → Result (List Table) (ℕ × SchemaWhy)
schema_reading bytes = tables_of_document (data_of_bytes bytes)

-- the table that an error names, and the rule that it breaks; none for want of memory
abbrev pub cause_of : SchemaError → Option (ℕ × SchemaWhy)
cause_of (Bad table w) = Some (table, w)
cause_of NoMemory = None
