use Rattle.std.proofs.Common.{true, List, ℕ, Some, ap, ◌∙◌}
use Rattle.std.specs.Borrow.{Bor}
use Rattle.std.specs.Io.Chain.{chain_remaining}
use Rattle.std.specs.Prelude.{option_map}
use Rattle.csv.specs.Reading.{builder_names_headers, builder_trim, builder_config, source_of, strip_bom, with_flexible}
use Rattle.voy_tables.proofs.ReaderLemmas.{Begins, all_left, begins_reading}
use Rattle.voy_tables.proofs.record_reader.Records.new.Goals as goal

begins : (c : goal.After-into_byte_records) → Begins c.into_byte_records.result c.args.text.now
unfolding strip_bom
begins c =
    let reader = c.into_byte_records.ensures.rdr in
    let made = c.from_reader-reader.ensures in
    let builder = c.flexible.ensures ∙ ap (λ b. with_flexible b true) c.has_headers.ensures in
    record {
      untrimmed = ap (λ r. r.trim) reader ∙ made.trim ∙ ap builder_trim builder ∙ c.new.ensures.trim;
      by_default = ap (λ r. r.config) reader ∙ made.config ∙ ap builder_config builder ∙ c.new.ensures.config;
      has_headers = ap (λ r. r.has_headers) reader ∙ made.has_headers ∙ ap builder_names_headers builder;
      headers = ap (λ r. r.headers) reader ∙ made.headers;
      start = ap (λ r. r.state) reader ∙ made.state;
      are_unread = ap (source_of (chain_remaining (λ (s : Bor (List ℕ)). Some s.now) (λ (s : Bor (List ℕ)). Some s.now))) reader
          ∙ made.source ∙ ap (option_map strip_bom) c.chain.ensures.bytes;
      turns_left = c.into_byte_records.ensures.left;
    }

pub invariant_of-result : goal.invariant_of-result
invariant_of-result c = begins_reading c.into_byte_records.result c.args.text.now (begins c)

pub returns : goal.returns
returns c = all_left c.into_byte_records.result c.args.text.now (begins c)
