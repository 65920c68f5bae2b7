-- A reader of records, before and after a read.
use Rattle.std.proofs.Common.{◌≡◌, ℕ, ◌<◌, true, false, List, [], ◌∷◌, None, Some, inl, inr, refl, sym, ap, ◌∙◌, subst}
use Rattle.std.specs.Io.Chain.{chain_remaining}
use Rattle.csv.specs.Machine.{ends_at_end}
use Rattle.csv.specs.Reading.{Reached, ReadRecord, default_config, records}
use Rattle.csv.specs.declared.parser.State.TheVariants as st
use Rattle.csv.specs.declared.reader.Trim.TheVariants as trim
use Rattle.csv.proofs.ReadFacts.{rows-end, rows-more}
use Rattle.voy_tables.proofs.TurnLemmas.{next_record-leaves, records_in-next, records_in-none}
use Rattle.voy_tables.specs.Unread.{IsReading, Source, records_in, unread}

-- a read that found a record took it from those that were left
pub record Took (a b : Source) (fields : List (List ℕ)) : Type 0 where
  pub reading : IsReading b
  pub left : records_in a.rdr.state (unread a) ≡ fields ∷ records_in b.rdr.state (unread b)

pub took : (a b : Source) (fields : List (List ℕ)) → IsReading a
    → ReadRecord (chain_remaining (λ s. Some s.now) (λ s. Some s.now)) a.rdr b.rdr true fields → b.rdr.first ≡ true → 0 < b.left → Took a b fields
unfolding Reached
took a b fields before read first turns =
    let more = rows-more (chain_remaining (λ s. Some s.now) (λ s. Some s.now)) a.rdr b.rdr fields default_config a.rdr.state before.bytes before.bytes []
    before.by_default before.are_unread (refl, refl) read in
    let p = more.2.0 in
    let found = more.2.1 in
    let same = more.2.3 in
    record {
      reading = record {
        untrimmed = read.3 ∙ before.untrimmed;
        ready = inl first;
        turns_left = turns;
        by_default = read.2 ∙ before.by_default;
        between = subst (λ s. ends_at_end s ≡ false) same.0 (next_record-leaves a.rdr.state [] [] before.bytes p found).between;
        bytes = more.0;
        are_unread = more.1;
      };
      left = ap (records_in a.rdr.state) before.are_unread
          ∙ records_in-next a.rdr.state before.bytes p before.between found
          ∙ (λ i. sym more.2.2 i ∷ records_in (same.0 i) (Some (same.1 i)))
          ∙ ap (λ u. fields ∷ records_in b.rdr.state u) (sym more.1);
    }

-- and one that found none had none left
pub none_left : (a b : Source) → IsReading a → ReadRecord (chain_remaining (λ s. Some s.now) (λ s. Some s.now)) a.rdr b.rdr false []
    → records_in a.rdr.state (unread a) ≡ []
none_left a b before read =
    let none = rows-end (chain_remaining (λ s. Some s.now) (λ s. Some s.now)) a.rdr b.rdr [] default_config before.bytes before.by_default before.are_unread read in
    rw before.are_unread (records_in-none a.rdr.state before.bytes none)

-- a reader that has read nothing has all records of its text left
pub record Begins (source : Source) (text : List ℕ) : Type 0 where
  pub untrimmed : source.rdr.trim ≡ trim.None
  pub by_default : source.rdr.config ≡ default_config
  pub has_headers : source.rdr.has_headers ≡ false
  pub headers : source.rdr.headers ≡ None
  pub start : source.rdr.state ≡ st.StartRecord
  pub are_unread : unread source ≡ Some text
  pub turns_left : 0 < source.left

pub begins_reading : (source : Source) (text : List ℕ) → Begins source text → IsReading source
begins_reading source text b = record {
  untrimmed = b.untrimmed;
  ready = inr (inr (b.has_headers, b.headers));
  turns_left = b.turns_left;
  by_default = b.by_default;
  between = ap ends_at_end b.start;
  bytes = text;
  are_unread = b.are_unread;
}

pub all_left : (source : Source) (text : List ℕ) → Begins source text → records_in source.rdr.state (unread source) ≡ records default_config text
all_left source text b = λ i. records_in (b.start i) (b.are_unread i)
