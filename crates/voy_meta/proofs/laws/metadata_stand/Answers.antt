use Rattle.voy_disk.specs.Frames.{OneOf}
use Rattle.voy_meta.specs.MetaLaws.{adds_on, one_state, reads_more, stands_beside, stands_beside_one, state_in_each}
use Rattle.voy_meta.proofs.OpeningLemmas.{records_are_whole}
use Rattle.voy_meta.proofs.laws.metadata_stand.Goals as goal

pub returns-clause-state : goal.returns-clause-state
returns-clause-state c = state_in_each

pub returns-clause-one : goal.returns-clause-one
returns-clause-one c = one_state

pub returns-clause-beside : goal.returns-clause-beside
returns-clause-beside c = λ meta names old new apart keeps stands. stands_beside meta (OneOf names) apart keeps stands

pub returns-clause-beside_one : goal.returns-clause-beside_one
returns-clause-beside_one c = λ meta other old new apart keeps stands. stands_beside_one meta other apart keeps stands

pub returns-clause-adds : goal.returns-clause-adds
returns-clause-adds c = adds_on

pub returns-clause-more : goal.returns-clause-more
returns-clause-more c = reads_more

pub returns-clause-whole : goal.returns-clause-whole
returns-clause-whole c = records_are_whole c.one_reading.ensures.payloads c.one_reading.ensures.damage
