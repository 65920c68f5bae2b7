use Rattle.voy_command.specs.Answer.{text_on_err}
use Rattle.voy_command.proofs.answer.Answer.append_text.Goals as goal

pub returns-in-Invalid : goal.returns-in-Invalid
unfolding text_on_err
returns-in-Invalid c = rw c.in-Invalid.is c.append_numbered.ensures

pub returns-in-OutputFault : goal.returns-in-OutputFault
unfolding text_on_err
returns-in-OutputFault c = rw c.in-OutputFault.is c.append_slice-in-OutputFault.ensures.ok

pub returns-in-NoMemory : goal.returns-in-NoMemory
unfolding text_on_err
returns-in-NoMemory c = rw c.in-NoMemory.is c.append_slice-in-NoMemory.ensures.ok

pub returns-in-Fault : goal.returns-in-Fault
unfolding text_on_err
returns-in-Fault c = rw (c.in-Fault.is, ← c.name.ensures) c.append_between-in-Fault.ensures
