use Rattle.voy_command.proofs.ShowLaws.{stores_have_one_text}
use Rattle.voy_command.proofs.laws.stores_have_one_text.Goals as goal

pub returns : goal.returns
returns c = stores_have_one_text c.one_reading.ensures.payloads c.one_reading.ensures.damage
