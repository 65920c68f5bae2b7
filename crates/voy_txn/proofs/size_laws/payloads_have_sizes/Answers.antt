use Rattle.voy_txn.specs.SizeLaws.{items_are_few, payload_has_size, short_batch_is_lawful, short_load_is_lawful, short_run_is_short}
use Rattle.voy_txn.proofs.size_laws.payloads_have_sizes.Goals as goal

pub returns-clause-sizes : goal.returns-clause-sizes
returns-clause-sizes c = payload_has_size

pub returns-clause-items : goal.returns-clause-items
returns-clause-items c = items_are_few

pub returns-clause-loads : goal.returns-clause-loads
returns-clause-loads c = short_load_is_lawful

pub returns-clause-batches : goal.returns-clause-batches
returns-clause-batches c = short_batch_is_lawful

pub returns-clause-runs : goal.returns-clause-runs
returns-clause-runs c = short_run_is_short
