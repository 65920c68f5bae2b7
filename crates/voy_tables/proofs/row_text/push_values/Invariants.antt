use Rattle.std.proofs.Common.{◌≡◌, [], map, take}
use Rattle.csv.specs.Records.{fields_of, partial_of}
use Rattle.voy_tables.specs.RowText.{field_of}
use Rattle.voy_tables.proofs.row_text.push_values.Given as goal

abbrev pub invariant-loop-value : goal.invariant-loop-value
invariant-loop-value l = record {
  fields : fields_of l.line ≡ map field_of (take l.value-index l.values);
  whole : partial_of l.line ≡ [];
}
