use Rattle.voy_tables.specs.SameLaws.{same_key-decides, same_row_id-decides, same_tuple-decides, same_values-decides}
use Rattle.voy_tables.proofs.laws.tests_decide_equality.Goals as goal

pub returns : goal.returns
returns c = record { keys = same_key-decides; values = same_values-decides; tuples = same_tuple-decides; rows = same_row_id-decides }
