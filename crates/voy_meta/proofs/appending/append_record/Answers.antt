use Rattle.std.proofs.Common.{◌≡◌, ◌∙◌, Some, ap}
use Rattle.voy_meta.specs.Reading.{record_reading}
use Rattle.voy_meta.proofs.AddingLemmas.{images_add, images_add_some, told_one_more}
use Rattle.voy_meta.proofs.appending.append_record.Goals as goal

pub returns-in-Ok-clause-all : goal.returns-in-Ok-clause-all
returns-in-Ok-clause-all g c =
    let reads : record_reading c.as_slice.result.now ≡ Some c.args.entry =
    ap record_reading (c.as_slice.ensures ∙ c.in_ok-payload.ensures) ∙ c.records_read_back.ensures.payloads c.args.entry c.in_range.ensures in
    images_add c.as_slice.result.now c.args.entry _ _ reads (rw c.requires.name at c.in-Ok.ensures.all)

pub returns-in-Ok-clause-adds : goal.returns-in-Ok-clause-adds
returns-in-Ok-clause-adds g c =
    let reads : record_reading c.as_slice.result.now ≡ Some c.args.entry =
    ap record_reading (c.as_slice.ensures ∙ c.in_ok-payload.ensures) ∙ c.records_read_back.ensures.payloads c.args.entry c.in_range.ensures in
    told_one_more c.as_slice.result.now c.args.entry _ _ reads c.in-Ok.ensures.adds

pub returns-in-Ok-clause-prefix : goal.returns-in-Ok-clause-prefix
returns-in-Ok-clause-prefix g c =
    let reads : record_reading c.as_slice.result.now ≡ Some c.args.entry =
    ap record_reading (c.as_slice.ensures ∙ c.in_ok-payload.ensures) ∙ c.records_read_back.ensures.payloads c.args.entry c.in_range.ensures in
    images_add_some c.as_slice.result.now c.args.entry _ _ reads (rw c.requires.name at c.append.ensures.prefix)

pub returns-in-Err-Fault-clause-prefix : goal.returns-in-Err-Fault-clause-prefix
returns-in-Err-Fault-clause-prefix g c =
    let reads : record_reading c.as_slice.result.now ≡ Some c.args.entry =
    ap record_reading (c.as_slice.ensures ∙ c.in_ok-payload.ensures) ∙ c.records_read_back.ensures.payloads c.args.entry c.in_range.ensures in
    images_add_some c.as_slice.result.now c.args.entry _ _ reads (rw c.requires.name at c.append.ensures.prefix)

pub returns-in-Err-NoMemory-clause-prefix : goal.returns-in-Err-NoMemory-clause-prefix
returns-in-Err-NoMemory-clause-prefix g c =
    let reads : record_reading c.as_slice.result.now ≡ Some c.args.entry =
    ap record_reading (c.as_slice.ensures ∙ c.in_ok-payload.ensures) ∙ c.records_read_back.ensures.payloads c.args.entry c.in_range.ensures in
    images_add_some c.as_slice.result.now c.args.entry _ _ reads (rw c.requires.name at c.append.ensures.prefix)
