use Rattle.csv.specs.Records.{fields_of}
use Rattle.voy_tables.proofs.FieldLemmas.{converted, same_fields}
use Rattle.voy_tables.proofs.text_record.into_text.Goals as goal

pub returns : goal.returns
returns c = rw c.ok.ensures.value (record {
  all_utf8 = converted c.from_byte_record.result (fields_of c.args.line) fields_of c.from_byte_record.ensures.same c.from_byte_record.ensures.text c.from_byte_record.ensures.refused;
  same = same_fields c.from_byte_record.result (fields_of c.args.line) fields_of c.from_byte_record.ensures.same;
})
