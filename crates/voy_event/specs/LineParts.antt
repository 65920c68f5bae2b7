-- The text of a change's line in two parts, each in front of a rest. Words of private clauses.
use Rattle.std.specs.Prelude.{◌≡◌, ℕ, List, ◌++◌, codes, decimal, true}
use Rattle.json.specs.Print.{quoted}
use Rattle.serde_json.specs.Written.{compact_text}
use Rattle.voy_schema.specs.Rows.{is_lawful_row}
use Rattle.voy_schema.specs.declared.table.Table.{Table}
use Rattle.voy_tables.specs.Changes.{keyed_row}
use Rattle.voy_tables.specs.declared.change.Change.{Change}
use Rattle.voy_tables.specs.declared.change.Change.TheVariants as change
use Rattle.voy_tables.specs.declared.change.Role.{Role}
use Rattle.voy_event.specs.LineText.{after_data, before_data, key_data, op_text}
use Rattle.voy_event.specs.Words.{text_of_role}

-- the rows of the change are such as its table takes
abbrev pub HasRowsOf : Table → Change → Type 0
HasRowsOf t (change.Insert table after) = is_lawful_row t after ≡ true
HasRowsOf t (change.Update table before after) = (is_lawful_row t before ≡ true) × (is_lawful_row t after ≡ true)
HasRowsOf t (change.Delete table before) = is_lawful_row t before ≡ true

-- up to the rows
unfoldable pub rows_part : Table → Role → Change → List ℕ → List ℕ
rows_part t role c rest =
    codes "{\"before_fields\":" ++ (compact_text (before_data t c) ++ (codes ",\"exporter_role\":" ++ (quoted (text_of_role role)
    ++ (codes ",\"fields\":" ++ (compact_text (after_data t c) ++ rest)))))

-- from the key on
unfoldable pub names_part : Table → ℕ → Change → List ℕ → List ℕ
names_part t vsn c rest =
    codes ",\"key\":" ++ (compact_text (key_data t (keyed_row c)) ++ (codes ",\"op\":" ++ (quoted (op_text c)
    ++ (codes ",\"schema_name\":" ++ (quoted t.schema_name ++ (codes ",\"table_name\":" ++ (quoted t.table_name
    ++ (codes ",\"vsn\":" ++ (decimal vsn ++ (codes "}" ++ rest))))))))))
