use Rattle.rl_ask.specs.Runs.{at_end, unreadable, write_fault, no_memory}
use Rattle.rl_ask.proofs.run.all_replied.Goals as goal

pub returns-in-AtEnd : goal.returns-in-AtEnd
returns-in-AtEnd g c = at_end c.in-AtEnd.ensures c.write_message.ensures.message

pub returns-in-Unreadable : goal.returns-in-Unreadable
returns-in-Unreadable g c = unreadable c.in-Unreadable.ensures c.write_message-in-Unreadable.ensures.message

pub returns-in-WriteFault : goal.returns-in-WriteFault
returns-in-WriteFault g c = write_fault c.in-WriteFault.ensures c.write_message-in-WriteFault.ensures.message

pub returns-in-OutOfMemory : goal.returns-in-OutOfMemory
returns-in-OutOfMemory g c = no_memory c.in-OutOfMemory.ensures c.write_message-in-OutOfMemory.ensures.message
