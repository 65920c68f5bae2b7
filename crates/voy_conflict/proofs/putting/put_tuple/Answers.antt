use Rattle.std.specs.Option.{option_copied}
use Rattle.std.proofs.Common.{ap, sym, ◌∙◌}
use Rattle.voy_tables.specs.Changes.{row_change}
use Rattle.voy_conflict.proofs.PutLemmas.{puts_key, puts_no_key}
use Rattle.voy_conflict.proofs.TupleLemmas.{some_released}
use Rattle.voy_conflict.proofs.putting.put_tuple.Goals as goal

pub returns-in-Some : goal.returns-in-Some
returns-in-Some c =
    puts_key c.args.schema.now.tables (row_change c.args.schema.now.tables c.args.change.now) c.args.at c.args.lane c.args.entries.now c.insert.new.self
    c.insert.result c.bucket_of-bucket.result c.args.buckets c.table.result c.args.unique c.in-Some.row.now
    (sym c.released.ensures ∙ ap option_copied c.in-Some.is) c.table.ensures c.requires.buckets c.bucket_of-bucket.ensures.bucket
    (c.requires.spare (some_released c.args.schema.now.tables c.args.unique (row_change c.args.schema.now.tables c.args.change.now) c.in-Some.row.now
    (sym c.released.ensures ∙ ap option_copied c.in-Some.is)).1)
    c.insert.ensures.fresh c.insert.ensures.inserted

pub returns-in_default : goal.returns-in_default
returns-in_default c =
    puts_no_key c.args.schema.now.tables (row_change c.args.schema.now.tables c.args.change.now) c.args.at c.args.lane c.args.entries.now c.args.unique
    (sym c.released.ensures ∙ ap option_copied c.in_default.is)
